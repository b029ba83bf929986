-- `find_least` meets its contract: 11 where the search finds no tree, and else the figures of the bytes that it wrote. Assumes nothing.
use mathlib.Core.Path.{ap, subst}
use Rattle.std.proofs.Common.{Err}
use Rattle.sheet.specs.Refusal.{outcome_of}
use Rattle.search.specs.Clauses.{Searched}
use Rattle.finding.proofs.FindSteps.{nothing_found, nodes_fit, front_size, figures_pre, tree_found}
use Rattle.finding.proofs.find_least.Goals as goal

pub slice_bounds-figures-end : goal.slice_bounds-figures-end
slice_bounds-figures-end c =
    let (s, entry, lengths) = c.requires in
    nodes_fit entry _ _ _
    (subst (Searched s c.args.tree.now _ c.args.work.now _) c.in-Some.is
    (c.least_tree.ensures s entry lengths))

pub slice_bounds-figures-end-in-Some : goal.slice_bounds-figures-end-in-Some
slice_bounds-figures-end-in-Some c =
    let (s, entry, lengths) = c.requires in
    front_size entry _ _ _
    (subst (Searched s c.args.tree.now _ c.args.work.now _) c.in-Some.is
    (c.least_tree.ensures s entry lengths))

pub figures-requires : goal.figures-requires
figures-requires c =
    let (s, entry, lengths) = c.requires in (
      s,
      _,
      _,
      figures_pre entry _ _ _
          (subst (Searched s c.args.tree.now _ c.args.work.now _) c.in-Some.is
          (c.least_tree.ensures s entry lengths)),
    )

pub returns-in-None : goal.returns-in-None
returns-in-None c =
    λ s entry lengths. nothing_found entry _ _
    (subst (Searched s c.args.tree.now _ c.args.work.now _) c.in-None.is
    (c.least_tree.ensures s entry lengths)) _ (ap (λ e. outcome_of (Err e)) c.at.ensures)

pub returns-in-Some : goal.returns-in-Some
returns-in-Some c =
    λ s entry lengths.
    let told = subst (Searched s c.args.tree.now _ c.args.work.now _) c.in-Some.is
    (c.least_tree.ensures s entry lengths) in
    tree_found entry _ _ _ told _ (c.figures.ensures s _ _ (figures_pre entry _ _ _ told))

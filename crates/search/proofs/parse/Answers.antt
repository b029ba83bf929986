-- `parse` meets its contract: the cleared table claims nothing, so the bars may be searched (`entry`). The tree that is found is copied,
-- and where none is, the slice is kept. Assumes nothing.
use mathlib.Core.Path.{refl, sym, ap, subst, ◌∙◌}
use native.Mathlib.Omega.{arith}
use lib.ListN.{length, replicate}
use lib.Seq.{length-take-le}
use Prim.Native.Nat.{◌≤◌}
use mathlib.Core.Path.{◌≡◌}
use Rattle.slices.specs.Over.{over}
use Rattle.sheet.specs.Sheet.{Sheet}
use Rattle.trees.specs.Room.{tree_most}
use Rattle.search.specs.Clauses.{ForwardPre, FoundIn, FoundAs, ParsePre}
use Rattle.search.proofs.SearchSteps.{copied_over, parse_forward, found_fits, found_copied}
use Rattle.search.proofs.parse.Goals.{After-by_arity-order, After-forward, In_ok-found}
use Rattle.search.proofs.parse.Goals as goal

-- ---- where the bars are searched

entry : (c : After-by_arity-order) (s : Sheet) → (let a = c.args in
    ParsePre s a.plan.now a.units.now a.rows.now a.tree.now a.start a.count) → let a = c.args in
    ForwardPre s a.plan.now a.units.now c.by_arity-order.result c.fill.new.self (replicate tree_most 0)
    (replicate 1024 0) (replicate 260 0) a.start a.count
entry c s h =
    parse_forward h (c.fill.ensures.after (λ y e. cc)) (c.by_arity-order.ensures s h.prepared) (omega arith) (omega arith) (omega arith)

found : (c : After-forward) (s : Sheet) → (let a = c.args in
    ParsePre s a.plan.now a.units.now a.rows.now a.tree.now a.start a.count) → FoundIn s c.forward.new.tree c.forward.result
found c s h =
    c.forward.ensures s
    (parse_forward h (c.fill.ensures.after (λ y e. cc)) (c.by_arity-order.ensures s h.prepared) (omega arith) (omega arith) (omega arith))

-- the bytes of a tree fit both slices
fits : (c : In_ok-found) → let n = c.in_ok-found.found.nodes in (n ≤ length c.forward.new.tree) × (n ≤ length c.args.tree.now)
fits c =
    let (s, h) = c.requires in
    let ordered = c.by_arity-order.ensures s h.prepared in
    let entry-here = parse_forward h (c.fill.ensures.after (λ y e. cc)) ordered (omega arith) (omega arith) (omega arith) in
    found_fits h (subst (FoundIn s _) c.in_ok-found.was (c.forward.ensures s entry-here))

-- ---- the needs

pub forward-requires : goal.forward-requires
forward-requires c =
    (c.requires.0, entry (goal.at.forward-requires c).After-by_arity-order _ c.requires.1)

pub slice_bounds-copy_from_slice-end : goal.slice_bounds-copy_from_slice-end
slice_bounds-copy_from_slice-end c = (fits (goal.at.slice_bounds-copy_from_slice-end c).In_ok-found).1

pub slice_bounds-copy_from_slice-end-2 : goal.slice_bounds-copy_from_slice-end-2
slice_bounds-copy_from_slice-end-2 c =
    sym (length-take-le c.in_ok-found.found.nodes c.args.tree.now (fits (goal.at.slice_bounds-copy_from_slice-end-2 c).In_ok-found).1)

pub slice_bounds-bytes-end : goal.slice_bounds-bytes-end
slice_bounds-bytes-end c = (fits (goal.at.slice_bounds-bytes-end c).In_ok-found).0

pub slice_bounds-copy_from_slice-end-3 : goal.slice_bounds-copy_from_slice-end-3
slice_bounds-copy_from_slice-end-3 c =
    sym (length-take-le c.in_ok-found.found.nodes c.forward.new.tree (fits (goal.at.slice_bounds-copy_from_slice-end-3 c).In_ok-found).0)

pub copy_from_slice-requires : goal.copy_from_slice-requires
copy_from_slice-requires c =
    let n = c.in_ok-found.found.nodes in
    let both = fits (goal.at.copy_from_slice-requires c).In_ok-found in
    length-take-le n c.args.tree.now both.1 ∙ sym (length-take-le n c.forward.new.tree both.0)

-- no tree is found
pub returns-in_err-found : goal.returns-in_err-found
returns-in_err-found c =
    λ s h. subst (FoundAs s c.args.tree.now c.args.tree.now) (sym c.from_residual.ensures)
    (subst (FoundIn s _) c.in_err-found.was (found (goal.at.returns-in_err-found c).After-forward s h), refl)

-- one is
pub returns : goal.returns
returns c =
    λ s h.
    let n = c.in_ok-found.found.nodes in
    let both = fits (goal.at.returns c).In_ok-found in
    let copied = c.copy_from_slice.ensures.after in
    let size : length c.copy_from_slice.new.self ≡ n = ap length copied ∙ length-take-le n c.forward.new.tree both.0 in
    found_copied h (subst (FoundIn s _) c.in_ok-found.was (found (goal.at.returns c).After-forward s h))
    (copied_over n c.copy_from_slice.new.self c.args.tree.now size both.1 ∙ ap (λ xs. over xs c.args.tree.now) copied)

-- `find_sheet` meets its contract: 9 and 10 by the lengths of the slices, and else what `find_least` gives. Assumes nothing.
-- ---- where both slices are long enough
use mathlib.Core.Path.{◌≡◌, refl}
use Rattle.sheet.specs.Sheet.{Sheet}
use Rattle.sheet.specs.Accepted.{SheetHeld}
use Rattle.sizes.specs.Sizes.{lengths_of}
use Rattle.sizes.specs.Held.{length_table}
use Rattle.search.specs.Clauses.{SearchPre}
use Rattle.finding.proofs.FindSteps.{counts, short_work, short_tree, search_pre}
use Rattle.finding.proofs.find_sheet.Goals.{Else-tree-tree_bytes}
use Rattle.finding.proofs.find_sheet.Goals as goal

-- the tree may be searched, and the lengths are known
entry : (c : Else-tree-tree_bytes) (s : Sheet) → let a = c.args in
    SheetHeld s a.grammar a.playing
    → SearchPre s a.grammar a.playing a.tree.now a.work.now
    × (c.lengths-reached.result ≡ length_table (lengths_of s.grammar.rules))
entry c s h =
    let told = c.lengths-reached.ensures.1 in (
      search_pre h _ _ _ told _ c.work_cells_by.ensures c.if-work-work_cells_by.false _ c.tree_bytes.ensures
          c.if-tree-tree_bytes.false,
      told s.grammar h.good.rules h.grammar,
    )

pub lengths-reached-requires : goal.lengths-reached-requires
lengths-reached-requires c = (counts c.requires.1).0

pub work_cells_by-requires : goal.work_cells_by-requires
work_cells_by-requires c = (c.lengths-reached.ensures.0, (counts c.requires.1).1)

pub returns-then-work-work_cells_by : goal.returns-then-work-work_cells_by
returns-then-work-work_cells_by c =
    rw c.at.ensures
    (λ s h. short_work h c.args.tree.now c.args.work.now _ c.lengths-reached.ensures.1 _
    c.work_cells_by.ensures c.if-work-work_cells_by.true _ refl)

pub tree_bytes-requires : goal.tree_bytes-requires
tree_bytes-requires c =
    (counts c.requires.1).1

pub returns-then-tree-tree_bytes : goal.returns-then-tree-tree_bytes
returns-then-tree-tree_bytes c =
    rw c.at-then-tree-tree_bytes.ensures
    (λ s h. short_tree h c.args.tree.now c.args.work.now _ c.lengths-reached.ensures.1 _
    c.work_cells_by.ensures c.if-work-work_cells_by.false _ c.tree_bytes.ensures
    c.if-tree-tree_bytes.true _ refl)

pub find_least-requires : goal.find_least-requires
find_least-requires c =
    let (s, h) = c.requires in
    let (pre, lengths) = entry (goal.at.find_least-requires c).Else-tree-tree_bytes s h in
    (s, pre, lengths)

pub returns : goal.returns
returns c =
    λ s h. let (pre, lengths) = entry (goal.at.returns c).Else-tree-tree_bytes s h in c.find_least.ensures s pre lengths

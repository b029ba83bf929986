use borrow.Author.Rules.{rules}
use mathlib.Core.Path.{refl}
use native.Mathlib.Omega.{arith}
use Rattle.score.proofs.PartsSteps.{parts_none, part_entry, part_done}
use Rattle.score.proofs.BarsSteps.{bar_left, bars_entry, bars_done}
use Rattle.score.proofs.tree.write_bars.Goals as goal

pub loop-b-init : goal.loop-b-init
loop-b-init c = (refl, λ s h. parts_none (bars_entry h))

pub overflow_mul-bar : goal.overflow_mul-bar
overflow_mul-bar c =
    let h = c.requires.1 in
    let f = h.onsets.units.good.sixty_four in
    let e = h.bars in
    search rules

pub write_tree-next-requires : goal.write_tree-next-requires
write_tree-next-requires c =
    let loop-test = c.loop-b-test in
    let loop = c.loop-b in
    let s = c.requires.0 in
    let h = c.requires.1 in
    (s, _, _, part_entry (bars_entry h) loop.b (bar_left h loop-test.true) _ (omega arith) _ _ (loop.invariant.1 s h))

pub loop-b-preserved : goal.loop-b-preserved
loop-b-preserved c =
    let write-tree = c.write_tree-next in
    let loop-test = c.loop-b-test in
    let loop = c.loop-b in (
      search rules,
      λ s h. part_done (bars_entry h) loop.b (bar_left h loop-test.true) _ (omega arith) _ _
          (loop.invariant.1 s h) _ _ (write-tree.ensures s _ _
          (part_entry (bars_entry h) loop.b (bar_left h loop-test.true) _ (omega arith) _ _ (loop.invariant.1 s h))),
    )

pub shape_of-score : goal.shape_of-score
shape_of-score c = c.loop-b.invariant.0

pub returns : goal.returns
returns c = λ s h. bars_done h c.loop-b.b _ _ (c.loop-b.invariant.1 s h) (omega arith)

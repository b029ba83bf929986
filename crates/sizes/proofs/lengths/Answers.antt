use native.Mathlib.Omega.{arith}
use borrow.Author.Rules.{rules}
use Rattle.sizes.specs.Divisors.{divisor_most}
use Rattle.sizes.proofs.CursorSteps.{cursors_first, cursors_more, cursors_later}
use Rattle.sizes.proofs.LengthSteps.{collected_none, collected_in, collected_out, collected_all}
use Rattle.sizes.proofs.lengths.Goals.{then-is_reached, else-is_reached}
use Rattle.sizes.proofs.lengths.Goals as goal

pub loop-j-init : goal.loop-j-init
loop-j-init c = (search rules, collected_none _, λ i d h l e. cursors_first _ d)

pub is_reached-requires : goal.is_reached-requires
is_reached-requires c = (
  search rules,
  omega (arith, divisor_most c.loop-j.j (omega arith), c.divisor-d.ensures),
  c.loop-j.invariant.2 c.loop-j.j _ (omega arith) (omega arith) c.divisor-d.ensures,
)

pub loop-j-preserved : goal.loop-j-preserved
loop-j-preserved c =
    let told = c.is_reached.ensures in
    let so_far = c.loop-j.invariant.1 in
    let divisor = c.divisor-d.ensures in
    elim c.if-is_reached.branch [
      | then-is_reached w ↦
          rw (w.cells-is, w.count-is) (
            search rules,
            collected_in _ _ _ _ so_far (omega arith) _ divisor _ told.1 w.if-is_reached.true (omega arith),
            cursors_later _ _ _ _ (cursors_more _ _ _ _ told.0 _) c.loop-j.j divisor,
          )
      | else-is_reached w ↦
          rw (w.cells-is, w.count-is) (
            search rules,
            collected_out _ _ _ _ so_far (omega arith) _ divisor _ told.1 w.if-is_reached.false,
            cursors_later _ _ _ _ told.0 c.loop-j.j divisor,
          )
    ]

pub returns : goal.returns
returns c =
    (omega arith, λ h good e. collected_all _ _ _ c.loop-j.j c.loop-j.invariant.1 (omega arith) h (c.arities-flags.ensures h good e))

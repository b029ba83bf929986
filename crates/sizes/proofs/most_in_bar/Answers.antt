use Prim.Native.Nat.{◌≤◌}
use native.Mathlib.Omega.{arith}
use borrow.Author.Rules.{rules}
use Rattle.sizes.proofs.BarSteps.{run_stays, run_starts, counted_none, counted_more, counted_all}
use Rattle.sizes.proofs.most_in_bar.Goals.{then-b-bar, else-b-bar}
use Rattle.sizes.proofs.most_in_bar.Goals as goal

pub loop-i-init : goal.loop-i-init
loop-i-init c = (search rules, search rules, counted_none _)

pub overflow_add-run : goal.overflow_add-run
overflow_add-run c = elim c.if-b-bar.branch [ then-b-bar w ↦ omega arith | else-b-bar w ↦ omega arith ]

pub loop-i-preserved : goal.loop-i-preserved
loop-i-preserved c =
    let small : c.if-b-bar.run ≤ c.loop-i.i = elim c.if-b-bar.branch [ then-b-bar w ↦ omega arith | else-b-bar w ↦ omega arith ] in (
      omega arith,
      omega arith,
      counted_more _ _ _ _ _ c.loop-i.invariant.2 (omega arith) c.if-b-bar.run c.if-b-bar.bar _
          (elim c.if-b-bar.branch [
            | then-b-bar w ↦ run_starts w.if-b-bar.true w.run-is w.bar-is
            | else-b-bar w ↦ run_stays w.if-b-bar.false w.run-is w.bar-is
          ])
          (omega arith),
    )

pub returns : goal.returns
returns c = (omega arith, counted_all _ _ _ _ c.loop-i.i c.loop-i.invariant.2 (omega arith))

-- `weight_sum` meets its contract. The loop's invariant: of any sheet whose rules the table holds, the sum so far and the weights of the
-- rules that are left are all of them. Assumes nothing.
use Prim.Native.Nat.{◌*◌, ◌≤◌}
use Rattle.finding.proofs.FigureSteps.{SummedTo}
use Rattle.finding.proofs.weight_sum.Given as goal

abbrev pub invariant-loop-r : goal.invariant-loop-r
invariant-loop-r l = (l.sum ≤ 65535 * l.r-index) × SummedTo l.rules l.list l.sum l.r-index

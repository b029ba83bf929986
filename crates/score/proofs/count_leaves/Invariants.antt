-- `count_leaves` meets its contract. The loop's invariant: of any sheet whose rules the table holds, what is counted and the leaf rules
-- that are left are all of them. Assumes nothing.
use Prim.Native.Nat.{◌≤◌}
use Rattle.score.proofs.CountSteps.{CountedTo}
use Rattle.score.proofs.count_leaves.Given as goal

abbrev pub invariant-loop-r : goal.invariant-loop-r
invariant-loop-r l = (l.leaves ≤ l.r-index) × CountedTo l.rules l.list l.leaves l.r-index

-- `least_leaves` meets its contract. The loop's invariant: the cells are the packed minima over the first `r` rules of any sheet that the
-- tables hold. Assumes nothing.
use mathlib.Core.Path.{◌≡◌}
use lib.ListN.{length}
use Rattle.plan.specs.Layout.{leaf_cells}
use Rattle.plan.proofs.LeafSteps.{Lowered}
use Rattle.plan.proofs.leaves.least_leaves.Given as goal

abbrev pub invariant-loop-r : goal.invariant-loop-r
invariant-loop-r l = (length l.leaves ≡ leaf_cells) × Lowered l.rules l.a l.leaves l.r

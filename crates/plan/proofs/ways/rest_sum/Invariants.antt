-- `rest_sum` meets its contract: `sum` is the sum over the first i parts. Assumes nothing.
use Prim.Native.Nat.{◌*◌, ◌≤◌}
use mathlib.Core.Path.{◌≡◌}
use Rattle.groups.specs.Sums.{sum_to}
use Rattle.plan.specs.Sections.{rest_in}
use Rattle.plan.proofs.ways.rest_sum.Given as goal

abbrev pub invariant-loop-i : goal.invariant-loop-i
invariant-loop-i l = (l.sum ≤ 288230376151711744 * l.i)
    × (l.sum ≡ sum_to (rest_in l.children l.leaves l.r) l.i)

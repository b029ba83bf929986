-- `sizes::first_at_most` meets its contract. The loop's invariant: every cell from `from` up to, but not, `i` is above x. Assumes nothing.
use Prim.Native.Nat.{ℕ, ◌≤◌, ◌<◌}
use lib.ListN.{get_or}
use Rattle.sizes.proofs.first_at_most.Given as goal

abbrev pub invariant-loop-i : goal.invariant-loop-i
invariant-loop-i l = (j : ℕ) → j < l.i → l.from ≤ j → l.x.0 < get_or l.cells j 0

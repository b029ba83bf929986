-- `sizes::lengths` meets its contract. The loop's invariant: of any grammar with these flags, the lengths among the first `j` divisors
-- are the first `count` cells, and the whole list is theirs with what the other divisors add; every cell before the cursor of an arity
-- is above that arity times each other divisor. Assumes nothing.
use Prim.Native.Nat.{◌≤◌}
use Rattle.sizes.proofs.CursorSteps.{CursorsFrom}
use Rattle.sizes.proofs.LengthSteps.{CollectedOf}
use Rattle.sizes.proofs.lengths.Given as goal

abbrev pub invariant-loop-j : goal.invariant-loop-j
invariant-loop-j l =
    (l.count ≤ l.j) × CollectedOf l.flags l.cells l.count l.j × CursorsFrom l.cells l.count l.at l.j

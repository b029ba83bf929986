-- `sizes::arities` meets its contract. The loop's invariant: the flags are those of the first `i` rules of any good grammar that the
-- table holds. A good grammar's divisions have at most 8 parts, so that the test of the arity always holds. Assumes nothing.
use Rattle.sizes.proofs.AritySteps.{FlagsOf}
use Rattle.sizes.proofs.arities.Given as goal

abbrev pub invariant-loop-i : goal.invariant-loop-i
invariant-loop-i l = FlagsOf l.g l.flags l.i

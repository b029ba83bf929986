-- `sizes::is_reached` meets its contract. The loop's invariant: the cursors are those of d, and no arity below `k`, times d, is among
-- the lengths found. Assumes nothing.
use Rattle.sizes.specs.Held.{Cursors}
use Rattle.sizes.proofs.ReachedSteps.{NoneBelow}
use Rattle.sizes.proofs.is_reached.Given as goal

abbrev pub invariant-loop-k : goal.invariant-loop-k
invariant-loop-k l = Cursors l.cells l.count l.d.0 l.at × NoneBelow l.flags l.cells l.count l.d.0 l.k

-- `hextext::write_line` meets its contract. The loop's invariant is `Wrote`: the pairs of the bytes so far stand from place `at` on, in
-- front of place `k`, and there is room for the line. Assumes nothing.
use Rattle.hextext.proofs.WriteSteps.{Wrote}
use Rattle.hextext.proofs.write_line.Given as goal

abbrev pub invariant-loop-b : goal.invariant-loop-b
invariant-loop-b l = Wrote l.bytes l.at l.initial.out l.out l.k l.b-index

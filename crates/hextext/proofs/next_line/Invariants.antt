-- `hextext::next_line` meets its contract. The loop's invariant is `Read`: the bytes in front of place `i` are the front of the line,
-- `count` of them, and stand over the slice. A pair keeps it; at the line's end it gives the contract. The measure is what is left of the
-- text. Assumes nothing.
use Prim.Native.Nat.{◌-◌}
use lib.ListN.{length}
use Rattle.hextext.proofs.LineSteps.{Read}
use Rattle.hextext.proofs.next_line.Given as goal

abbrev pub invariant-loop-i : goal.invariant-loop-i
invariant-loop-i l = Read l.text l.at l.initial.line l.line l.count l.i

abbrev pub decreases-loop-i : goal.decreases-loop-i
decreases-loop-i l = length l.text - l.i

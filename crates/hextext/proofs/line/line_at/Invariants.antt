-- `hextext::line_at` meets its contract. The loop's invariant is `Packs`: the bytes in front of place `i` are packed in `l`. The measure is
-- what is left of the text. Assumes nothing.
use Prim.Native.Nat.{◌-◌}
use lib.ListN.{length}
use Rattle.hextext.proofs.PackSteps.{Packs}
use Rattle.hextext.proofs.line.line_at.Given as goal

abbrev pub invariant-loop-i : goal.invariant-loop-i
invariant-loop-i l = Packs l.text l.at l.l l.i

abbrev pub decreases-loop-i : goal.decreases-loop-i
decreases-loop-i l = length l.text - l.i

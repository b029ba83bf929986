-- `hextext::bad_from` meets its contract. The loop's invariant: no line in front of place `at` is bad. The measure is what is left of the
-- text. Assumes nothing.
use Prim.Native.Nat.{◌+◌, ◌-◌, ◌≤◌}
use mathlib.Core.Path.{◌≡◌}
use lib.ListN.{length, drop}
use Rattle.hextext.specs.Text.{first, bad_from}
use Rattle.hextext.proofs.line.bad_from.Given as goal

abbrev pub invariant-loop-at : goal.invariant-loop-at
invariant-loop-at l =
    (l.line ≤ l.at + 1) × (l.line-2 ≤ l.line) × (bad_from l.line-2 first (drop l.at-2 l.text) ≡ bad_from l.line first (drop l.at l.text))

abbrev pub decreases-loop-at : goal.decreases-loop-at
decreases-loop-at l = length l.text - l.at

-- `read_even` meets its contract. The loop's invariant is `OnsetsSoFar`; each line is one onset, so that its number need not be kept. The
-- measure is what is left of the text. Assumes nothing.
use Prim.Native.Nat.{ℕ, ◌+◌, ◌-◌, ◌≤◌, ◌<◌}
use lib.ListN.{length}
use Rattle.playing.specs.Clauses.{OnsetsSoFar}
use Rattle.playing.proofs.read_even.Given as goal

-- each line that has been read has added an onset, so that the number of the next is known
abbrev pub invariant-loop-at : goal.invariant-loop-at
invariant-loop-at l =
    (line : ℕ) → line ≤ l.at-2 + 1 → 0 < line → OnsetsSoFar l.text l.at-2 line l.clock l.lines l.playing l.latest l.at (line + l.n) l.n

abbrev pub decreases-loop-at : goal.decreases-loop-at
decreases-loop-at l = length l.text - l.at

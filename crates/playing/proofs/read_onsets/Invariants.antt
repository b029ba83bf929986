-- `read_onsets` meets its contract. The loop's invariant is `OnsetsSoFar`: the lines before place `at` have been read as `n` onsets, and
-- the outcome is that of the lines from there on. The measure is what is left of the text. Assumes nothing.
use Prim.Native.Nat.{◌-◌}
use lib.ListN.{length}
use Rattle.playing.specs.Clauses.{OnsetsSoFar}
use Rattle.playing.proofs.read_onsets.Given as goal

abbrev pub invariant-loop-at : goal.invariant-loop-at
invariant-loop-at l = OnsetsSoFar l.text l.at-2 l.line-2
    l.clock l.lines l.playing l.latest l.at l.line l.n

abbrev pub decreases-loop-at : goal.decreases-loop-at
decreases-loop-at l = length l.text - l.at

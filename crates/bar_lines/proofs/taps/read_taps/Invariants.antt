-- `read_taps` meets its contract. The loop's invariant is `TapsSoFar`: the lines before place `at` have been read as `n` taps, and the
-- outcome is that of the lines from there on. Assumes nothing.
use Rattle.bar_lines.proofs.TapLoop.{TapsSoFar}
use Rattle.bar_lines.proofs.taps.read_taps.Given as goal

abbrev pub invariant-loop-n : goal.invariant-loop-n
invariant-loop-n l =
    TapsSoFar l.text l.at-2 l.line-2 l.bars l.lines l.before.0 l.at l.line l.n

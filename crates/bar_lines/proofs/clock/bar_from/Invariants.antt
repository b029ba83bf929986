-- `bar_from` meets its contract. The loop's invariant: the moment is in bar `bar` or behind it; the last line is behind the moment, so the
-- search ends before it. The measure is the number of bars left. Assumes nothing.
use Prim.Native.Nat.{ℕ, ◌-◌, ◌≤◌, ◌<◌}
use Rattle.bar_lines.specs.Lines.{BarSearched}
use Rattle.bar_lines.proofs.Cells.{moment}
use Rattle.bar_lines.proofs.clock.bar_from.Given as goal

abbrev pub invariant-loop-bar : goal.invariant-loop-bar
invariant-loop-bar l = (bars : ℕ) → BarSearched bars l.lines l.from l.t → (l.bar < bars) × (moment l.lines l.bar ≤ l.t)

abbrev pub decreases-loop-bar : goal.decreases-loop-bar
decreases-loop-bar l = 65 - l.bar

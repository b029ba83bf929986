-- What `read`'s contract says of bar lines and units: where it accepts the bar lines are those of the text (`bar_lines_read`), and there is
-- an onset for each `4E` line of the text, in order, each at the unit nearest to its share of its bar (`units_read`), which in a plain
-- sheet is the unit nearest to its line's time (`plain_units_read`).
use Rattle.std.specs.Prelude.{ℕ, ◌+◌, ◌-◌, ◌*◌, ◌≤◌, ◌<◌, ◌≡◌, length, get_or}
use mathlib.Core.List.{List, []}
use Rattle.hextext.specs.Text.{lines}
use Rattle.sheet.specs.declared.table.Reading.{Reading}
use Rattle.sheet.specs.Sheet.{bar_units, line_at}
use Rattle.sheet.specs.Reading.{four}
use Rattle.sheet.specs.Held.{micros, units}
use Rattle.sheet.specs.Nearest.{NearestUnit}
use Rattle.sheet.specs.OnsetLines.{onset_lines, playing_line, taps_of, timing_by}

-- the time of `4E` line i of a text, from 0; the unit that a reading has of onset i, and the moment of bar line i
abbrev pub time_at : List ℕ → (i : ℕ) → ℕ
time_at text i = four (get_or (onset_lines (lines text)) i []) 1

abbrev pub unit_at : Reading → (i : ℕ) → ℕ
unit_at r i = (get_or r.playing.units i (units 0)).0

abbrev pub bar_line_at : Reading → (i : ℕ) → ℕ
bar_line_at r i = (get_or r.timing.lines i (micros 0)).0

-- the moment t is in a bar of a reading, and the unit u is the nearest to its share of that bar's duration
pub record NearestInBar (r : Reading) (t u : ℕ) : Type 0 where
  pub bar : ℕ
  pub inside : bar < r.playing.bars
  pub begun : bar_line_at r bar ≤ t
  pub before : t < bar_line_at r (bar + 1)
  pub share : ℕ
  pub unit_is : u ≡ bar * bar_units + share
  pub nearest : NearestUnit (bar_line_at r (bar + 1) - bar_line_at r bar) (t - bar_line_at r bar) share

-- a reading has an onset for each `4E` line of the text, in order, and each is at the unit nearest to its share of its bar
pub record UnitsRead (text : List ℕ) (r : Reading) : Type 0 where
  pub count : r.playing.count ≡ length (onset_lines (lines text))
  pub nearest : (i : ℕ) → i < r.playing.count → NearestInBar r (time_at text i) (unit_at r i)

-- the bar lines of a reading are those that the text tells, one more than there are bars, and there is none behind them
pub record BarLinesRead (text : List ℕ) (r : Reading) : Type 0 where
  pub count : length (timing_by (playing_line (lines text)) (taps_of (lines text))).bar_lines ≡ r.playing.bars + 1
  pub each : (i : ℕ) → bar_line_at r i ≡ line_at (timing_by (playing_line (lines text)) (taps_of (lines text))) i

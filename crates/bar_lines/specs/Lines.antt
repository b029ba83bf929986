-- What the functions on bar lines promise. The moments of bar lines stand at the front of 65 cells.
use Rattle.std.specs.Prelude.{ℕ, ◌+◌, ◌-◌, ◌≤◌, ◌<◌, ◌≡◌, Bool, true, false, cond, List, [], ◌⊎◌, length, get_or, take, drop, eqb, Result}
use Rattle.std.specs.Prelude.{Ok, Err}
use Rattle.sheet.specs.Sheet.{Grammar, Timing, TimedSheet, no_playing, line_at, end_of, even_lines}
use Rattle.sheet.specs.Outcome.{Outcome}
use Rattle.sheet.specs.Reading.{Progress, in_taps, in_onsets, refusal}
use Rattle.sheet.specs.declared.clock.Micros.{Micros}
use Rattle.sheet.specs.declared.refusal.Stop.{Stop}
use Rattle.sheet.specs.Rest.{read_rest, Stopped}
use Rattle.sheet.specs.Clock.{first_past_end}
use Rattle.sheet.specs.Held.{moments_in}
use Rattle.sheet.specs.Good.{GoodTiming}
use Rattle.bar_lines.specs.declared.clock.Clock.{Clock}
use Rattle.bar_lines.specs.declared.taps.Bars.{Bars}

-- the bar lines of so many bars that cells hold: one begins each bar, and one more closes the last
abbrev pub lines_in : (bars : ℕ) → (cells : List Micros) → Timing
lines_in bars cells = record { bar_lines = take (bars + 1) (moments_in cells) }

-- cells that hold good bar lines
pub record GoodLines (bars : ℕ) (cells : List Micros) : Type 0 where
  pub one : 1 ≤ bars
  pub sixty_four : bars ≤ 64
  pub time : GoodTiming bars (lines_in bars cells)

-- such lines of bars of one duration, and of tapped ones, where the duration is 0
pub record LinesOf (bars d : ℕ) (cells : List Micros) : Type 0 where
  pub lines : GoodLines bars cells
  pub even : (d ≡ 0 → ⊥) → lines_in bars cells ≡ even_lines bars d

-- moment t is in bar b
pub record BarFound (bars : ℕ) (cells : List Micros) (t b : ℕ) : Type 0 where
  pub inside : b < bars
  pub begun : line_at (lines_in bars cells) b ≤ t
  pub before : t < line_at (lines_in bars cells) (b + 1)

-- moment t is in bar `from` or behind it, and before the end
pub record BarSearched (bars : ℕ) (cells : List Micros) (from t : ℕ) : Type 0 where
  pub lines : GoodLines bars cells
  pub inside : from < bars
  pub begun : line_at (lines_in bars cells) from ≤ t
  pub before : t < end_of bars (lines_in bars cells)

-- a clock of the bar lines that cells hold
pub record ClockOf (cells : List Micros) (c : Clock) : Type 0 where
  pub lines : GoodLines c.bars cells
  pub even : (c.duration.0 ≡ 0 → ⊥) → lines_in c.bars cells ≡ even_lines c.bars c.duration.0
  pub even_end : (c.even.0 ≡ 0) ⊎ ((c.duration.0 ≡ 0 → ⊥) × (c.even.0 ≡ c.end.0))
  pub first : c.first.0 ≡ line_at (lines_in c.bars cells) 0
  pub end : c.end.0 ≡ first_past_end c.bars (lines_in c.bars cells)

-- the search for a moment's bar can begin at bar `from`: the first, or one that has begun by then
abbrev pub Reached : (cells : List Micros) → Clock → (from t : ℕ) → Type 0
Reached cells c from t = (from < c.bars) × ((from ≡ 0) ⊎ (line_at (lines_in c.bars cells) from ≤ t))

-- the refusal of a line where a tap is to stand, behind `count` of them, the last of which is at `before`
abbrev pub TapRefused : (count before : ℕ) → (taps b : List ℕ) → (r : ℕ) → Type 0
TapRefused count before taps b r =
    count ≡ length taps → (0 < count → before ≡ get_or taps (count - 1) 0)
    → (g : Grammar) (bars : ℕ) → r ≡ refusal (in_taps g bars taps) b

-- what the line behind a `45` line with these fields is held against: taps where the duration is 0, and else onsets
abbrev pub bars_next : Grammar → (bars d : ℕ) → Progress
bars_next g bars d = cond (eqb d 0) (in_taps g bars []) (in_onsets g false (even_lines bars d) (no_playing bars) 0)

-- the bar lines of a text t that comes to o are read: the onsets follow behind them
pub record BarsDone (o : Grammar → Outcome TimedSheet) (t : List ℕ) (bars : ℕ) (tapped : Bool) (r : Bars) : Type 0 where
  pub place : r.line ≤ r.at + 1
  pub numbered : 0 < r.line
  pub within : r.at ≤ length t
  pub rest : (g : Grammar)
      → o g ≡ read_rest (in_onsets g tapped (lines_in bars r.lines) (no_playing bars) 0) r.line (drop r.at t)
  pub good : GoodTiming bars (lines_in bars r.lines)

-- reading the bar lines of such a text
abbrev pub BarsRead : (Grammar → Outcome TimedSheet) → (t : List ℕ) (bars : ℕ) (tapped : Bool) → Result Bars Stop → Type 0
BarsRead o t bars tapped (Ok r) = BarsDone o t bars tapped r
BarsRead o t bars tapped (Err e) = (e.at ≤ length t) × ((g : Grammar) → Stopped t (o g) e)

-- taps, and what follows a `45` line
abbrev pub TapsRead : (t : List ℕ) (at n bars : ℕ) → Result Bars Stop → Type 0
TapsRead t at n bars r = BarsRead (λ g. read_rest (in_taps g bars []) n (drop at t)) t bars true r

abbrev pub NextRead : (t : List ℕ) (at n bars d : ℕ) → Result Bars Stop → Type 0
NextRead t at n bars d (Ok r) =
    BarsDone (λ g. read_rest (bars_next g bars d) n (drop at t)) t bars (eqb d 0) r × LinesOf bars d r.lines
NextRead t at n bars d (Err e) =
    (e.at ≤ length t) × ((g : Grammar) → Stopped t (read_rest (bars_next g bars d) n (drop at t)) e)

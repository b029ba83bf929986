-- What a sheet means (document 01, "The sheet" and "Two clocks"; a sheet is document 01's word for a grammar with a performance).
-- Layers above reading see `Sheet` alone: musical time in units. Real time stands beside it, in `Timing`.
use Rattle.std.specs.Prelude.{ℕ, zero, suc, ◌+◌, ◌-◌, ◌*◌, ◌/◌, cond, List, [], ◌∷◌, get_or, eqb, leb}

-- a rule: a division has its head, its weight and the nonterminals of its parts; a leaf its head, its weight and n
pub data Rule : Type 0 where
  division : ℕ → ℕ → List ℕ → Rule
  leaf : ℕ → ℕ → ℕ → Rule

-- an onset: its unit, counted from the first bar, and its pitch
pub record Onset : Type 0 where
  pub unit : ℕ
  pub pitch : ℕ

-- Q, the start nonterminal, the multiplier a, and the rules in sheet order, numbered from 0
pub record Grammar : Type 0 where
  pub nonterminals : ℕ
  pub start : ℕ
  pub multiplier : ℕ
  pub rules : List Rule

-- B and the onsets in sheet order
pub record Playing : Type 0 where
  pub bars : ℕ
  pub onsets : List Onset

-- a playing of some bars and no onsets
abbrev pub no_playing : ℕ → Playing
no_playing bars = record { bars = bars; onsets = [] }

pub record Sheet : Type 0 where
  pub grammar : Grammar
  pub playing : Playing

-- the real time of a playing: "the record of a sheet now holds all bar lines" (document 02, (vi)), B + 1 moments in microseconds; bar b,
-- from 0, lies between bar lines b and b + 1
pub record Timing : Type 0 where
  pub bar_lines : List ℕ

-- what a text means: a sheet, and its real time beside it
pub record TimedSheet : Type 0 where
  pub sheet : Sheet
  pub timing : Timing

-- "A bar has 20,160 units"
abbrev pub bar_units : ℕ
bar_units = 20160

-- "An onset now goes to the nearest unit, an exact half upwards" (document 02, (v)), counted from the first bar: t × 20,160 / duration and
-- a half, rounded down. `Nearest.unit_nearest` says that it is the nearest
unfoldable pub unit_of : (duration t : ℕ) → ℕ
unit_of duration t = (2 * (t * bar_units) + duration) / (2 * duration)

-- bar line i, from 0; how long bar b lasts; and the moment at which a playing of so many bars ends
abbrev pub line_at : Timing → (i : ℕ) → ℕ
line_at timing i = get_or timing.bar_lines i 0

abbrev pub lasting : Timing → (b : ℕ) → ℕ
lasting timing b = line_at timing (b + 1) - line_at timing b

abbrev pub end_of : (bars : ℕ) → Timing → ℕ
end_of bars timing = line_at timing bars

-- how many bar lines are not after a moment; the last of them begins its bar, which is counted from 0
unfoldable pub begun : List ℕ → (moment : ℕ) → ℕ
begun [] t = 0
begun (line ∷ lines) t = cond (leb line t) 1 0 + begun lines t

abbrev pub bar_at : Timing → (moment : ℕ) → ℕ
bar_at timing t = begun timing.bar_lines t - 1

-- "Within a bar an onset's unit is the nearest to its share of that bar's duration" (document 02, (vi))
abbrev pub unit_within : Timing → (bar moment : ℕ) → ℕ
unit_within timing b t = b * bar_units + unit_of (lasting timing b) (t - line_at timing b)

unfoldable pub unit_in : Timing → (moment : ℕ) → ℕ
unit_in timing t = unit_within timing (bar_at timing t) t

-- "a sheet with a plain duration is read as evenly spaced ones": so many bars and the line that closes the last, from a moment on
unfoldable pub even_from : (bars duration from : ℕ) → List ℕ
even_from zero d from = from ∷ []
even_from (suc bars) d from = from ∷ even_from bars d (from + d)

abbrev pub even_lines : (bars duration : ℕ) → Timing
even_lines bars d = record { bar_lines = even_from bars d 0 }

-- the bar of a unit, from 0
abbrev pub bar_of : ℕ → ℕ
bar_of u = u / bar_units

-- how many onsets are in bar b, counted from units
unfoldable pub in_bar : ℕ → List Onset → ℕ
in_bar b [] = 0
in_bar b (o ∷ os) = cond (eqb (bar_of o.unit) b) 1 0 + in_bar b os

-- Worked examples of the nearest unit (document 02, (v)), by computation: texts that are accepted, with the units of their onsets. Texts
-- that are refused for their units are in `Cases`.
use Rattle.std.specs.Prelude.{ℕ, ◌≡◌, refl, List, [], ◌∷◌, ◌++◌, map, replicate}
use Rattle.sheet.specs.Literal.{text_of, times}
use Rattle.sheet.specs.Sheet.{Onset, TimedSheet}
use Rattle.sheet.specs.Outcome.{Outcome, refused, accepted}
use Rattle.sheet.specs.Reading.{read_sheet}
use Rattle.sheet.specs.Cases.{grammar_s, head_s}

-- the units of a text's onsets; none where it is refused
unfoldable pub units_in : Outcome TimedSheet → List ℕ
units_in (refused k n) = []
units_in (accepted x) = map (λ (o : Onset). o.unit) x.sheet.playing.onsets

-- a text and the units of its onsets
pub record UnitCase : Type 0 where
  pub text : List ℕ
  pub units : List ℕ

abbrev case : List ℕ → List ℕ → UnitCase
case t us = record { text = t; units = us }

-- onsets of S's bar, which lasts two seconds, and of two such bars; each onset's line begins with `4E` and its time
abbrev one_bar : List ℕ → List ℕ
one_bar onsets = grammar_s ++ head_s ++ onsets

abbrev two_bars : List ℕ → List ℕ
two_bars onsets = grammar_s ++ text_of "4502001E8480\n" ++ onsets

-- an onset at time 1 of a bar of 40,320 microseconds: half a unit
abbrev pub half_unit : List ℕ
half_unit = grammar_s ++ text_of "450100009D80\n4E000000013C40\n"

-- 31.5 units at 3,125, and a microsecond before and behind it
abbrev halves : List UnitCase
halves =
    case half_unit (1 ∷ [])
    ∷ case (one_bar (text_of "4E00000C343C40\n4E00000C353C40\n4E00000C363C40\n")) (31 ∷ 32 ∷ 32 ∷ [])
    ∷ []

-- "A machine-made third of a two-second bar comes in at 1,333,333 microseconds": thirds, quarters and halves, exact or rounded down
abbrev lands : List UnitCase
lands =
    case (one_bar (text_of "4E000A2C2A3C40\n4E001458553C40\n")) (6720 ∷ 13440 ∷ [])
    ∷ case (one_bar (text_of "4E0007A11F3C40\n4E0007A1203C40\n")) (5040 ∷ 5040 ∷ [])
    ∷ case (one_bar (text_of "4E000F423F3C40\n4E000F42403C40\n")) (10080 ∷ 10080 ∷ [])
    ∷ []

-- "An onset rounded up to a bar line belongs to the next bar": 1,999,999 of two bars is on the line. So it may be the 33rd in time of the
-- first bar; and in the last half unit of a bar, from 1,999,951 on, all are
abbrev pub crowded_in_time : List ℕ
crowded_in_time = two_bars (times 32 (text_of "4E000000003C40\n") ++ text_of "4E001E847F3C40\n")

abbrev over_the_line : List UnitCase
over_the_line =
    case crowded_in_time (replicate 32 0 ++ (20160 ∷ []))
    ∷ case (two_bars (text_of "4E001E844E3C40\n4E001E844F3C40\n")) (20159 ∷ 20160 ∷ [])
    ∷ []

-- in a bar of 1,000 microseconds one is 20.16 units, and the last is at unit 20,140 (20,139.84)
abbrev short_bar : List UnitCase
short_bar =
    case (grammar_s ++ text_of "4501000003E8\n4E000000013C40\n4E000000193C40\n4E000003E73C40\n") (20 ∷ 504 ∷ 20140 ∷ []) ∷ []

abbrev unit_cases : List UnitCase
unit_cases = halves ++ lands ++ over_the_line ++ short_bar

pub all_units : map (λ (c : UnitCase). units_in (read_sheet c.text)) unit_cases ≡ map (λ (c : UnitCase). c.units) unit_cases
unfolding read_sheet units_in
all_units = refl

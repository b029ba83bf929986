-- Worked examples of tapped sheets (document 02, (vi)), by computation: refusals with their lines, and the units of accepted texts.
use Rattle.std.specs.Prelude.{ℕ, ◌≡◌, refl, List, [], ◌∷◌, ◌++◌, map}
use Rattle.sheet.specs.Literal.{text_of, times}
use Rattle.sheet.specs.Outcome.{refused}
use Rattle.sheet.specs.Reading.{read_sheet}
use Rattle.sheet.specs.Cases.{Case, grammar_s, head_s}
use Rattle.sheet.specs.UnitCases.{UnitCase, units_in}

abbrev refuses : List ℕ → ℕ → ℕ → Case
refuses t k n = record { text = t; number = k; line = n }

abbrev has : List ℕ → List ℕ → UnitCase
has t us = record { text = t; units = us }

-- S's grammar (lines 1 to 5), a tapped head of one bar (6), its two taps, at 5 and 1,005 (7 and 8)
abbrev head : List ℕ
head = grammar_s ++ text_of "450100000000\n"

abbrev first_tap : List ℕ
first_tap = head ++ text_of "4200000005\n"

abbrev pub one_bar : List ℕ
one_bar = first_tap ++ text_of "42000003ED\n"

-- two bars, of 40,320 and 80,640 microseconds: half a unit and a quarter of one each
abbrev pub two_bars : List ℕ
two_bars = grammar_s ++ text_of "450200000000\n4200000005\n4200009D85\n420001D885\n"

-- 17: a tap too many, also behind onsets and of a wrong length; another line, or the end, before the last; and 3 behind all taps. In a
-- plain sheet, and before the `45` line, 3
abbrev out_of_order : List Case
out_of_order =
    refuses (one_bar ++ text_of "42000007D5\n") 17 9
    ∷ refuses (one_bar ++ text_of "4E000000053C40\n42000007D5\n") 17 10
    ∷ refuses (one_bar ++ text_of "4200\n") 17 9
    ∷ refuses (first_tap ++ text_of "5800\n") 17 8
    ∷ refuses (first_tap ++ text_of "4E000000053C40\n") 17 8
    ∷ refuses head 17 7
    ∷ refuses first_tap 17 8
    ∷ refuses one_bar 3 9
    ∷ refuses (one_bar ++ text_of "5800\n") 3 9
    ∷ refuses (grammar_s ++ text_of "4200000005\n") 3 6
    ∷ refuses (grammar_s ++ head_s ++ text_of "4200000005\n") 3 7
    ∷ []

-- 4 before 18; 5 of the `45` line; 18 for steps of 999 and 60,000,001, and where a tap stays or falls
abbrev counts_and_steps : List Case
counts_and_steps =
    refuses (head ++ text_of "42000005\n") 4 7
    ∷ refuses (first_tap ++ text_of "420000000500\n") 4 8
    ∷ refuses (grammar_s ++ text_of "450000000000\n") 5 6
    ∷ refuses (grammar_s ++ text_of "454100000000\n") 5 6
    ∷ refuses (first_tap ++ text_of "42000003EC\n") 18 8
    ∷ refuses (first_tap ++ text_of "4203938706\n") 18 8
    ∷ refuses (first_tap ++ text_of "4200000005\n") 18 8
    ∷ refuses (first_tap ++ text_of "4200000004\n") 18 8
    ∷ []

-- an onset before the first tap (19), after 5 and 6; at the last (7), and rounded up to it (7)
abbrev moments : List Case
moments =
    refuses (one_bar ++ text_of "4E000000043C40\n") 19 9
    ∷ refuses (one_bar ++ text_of "4E000000048040\n") 5 9
    ∷ refuses (one_bar ++ text_of "4E000000053C40\n4E000000043C40\n") 6 10
    ∷ refuses (one_bar ++ text_of "4E000003ED3C40\n") 7 9
    ∷ refuses (two_bars ++ text_of "4E0001D8833C40\n") 7 10
    ∷ []

-- a microsecond before the second tap, half a unit: 33 with the 32 on it
abbrev crowded : List Case
crowded = refuses (two_bars ++ text_of "4E00009D843C40\n" ++ times 32 (text_of "4E00009D853C40\n")) 8 42 ∷ []

abbrev tap_refusals : List Case
tap_refusals = out_of_order ++ counts_and_steps ++ moments ++ crowded

pub all_taps_refused : map (λ (c : Case). read_sheet c.text) tap_refusals
    ≡ map (λ (c : Case). refused c.number c.line) tap_refusals
unfolding read_sheet
all_taps_refused = refl

-- on the first tap; half a unit behind it, rounded up to the second tap, on it, half a unit behind it, and the last unit before the end;
-- the longest step; the latest taps
abbrev tap_units : List UnitCase
tap_units =
    has (one_bar ++ text_of "4E000000053C40\n") (0 ∷ [])
    ∷ has (two_bars ++ text_of "4E000000063C40\n4E00009D843C40\n4E00009D853C40\n4E00009D873C40\n4E0001D8823C40\n")
    (1 ∷ 20160 ∷ 20160 ∷ 20161 ∷ 40319 ∷ [])
    ∷ has (first_tap ++ text_of "4203938705\n4E01C9C3853C40\n") (10080 ∷ [])
    ∷ has (head ++ text_of "42FFFFFC17\n42FFFFFFFF\n4EFFFFFC173C40\n4EFFFFFE0B3C40\n") (0 ∷ 10080 ∷ [])
    ∷ []

pub all_tap_units : map (λ (c : UnitCase). units_in (read_sheet c.text)) tap_units ≡ map (λ (c : UnitCase). c.units) tap_units
unfolding read_sheet units_in
all_tap_units = refl

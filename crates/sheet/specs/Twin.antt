-- "A sheet with a plain duration is read as evenly spaced ones" (document 02, (vi)): a tapped sheet that taps the bar lines of a plain one
-- means the same sheet, and the same real time (`twins_mean`). Before the `45` line both are read alike; behind it the taps come to the
-- plain sheet's bar lines; and the onsets are read alike again.
use Rattle.std.specs.Prelude.{ℕ, ◌/◌, ◌%◌, ◌≡◌, eqb}
use Rattle.std.proofs.Math.Bool.{cond}
use mathlib.Core.List.{List, [], ◌∷◌, ◌++◌, map}
use Rattle.hextext.specs.Text.{lines}
use Rattle.sheet.specs.Sheet.{even_lines}
use Rattle.sheet.specs.Reading.{byte, four}

-- the `42` line of a moment below 2 ^ 32: its kind and the moment's four bytes
abbrev pub tap_line : (moment : ℕ) → List ℕ
tap_line t = 0x42 ∷ t / 16777216 ∷ t / 65536 % 256 ∷ t / 256 % 256 ∷ t % 256 ∷ []

-- a `45` line with a duration of 0 in the place of its own; and behind it a tap on each of its own bar lines, and then other lines
abbrev pub tapped : List ℕ → List ℕ
tapped l = byte l 0 ∷ byte l 1 ∷ 0 ∷ 0 ∷ 0 ∷ 0 ∷ []

abbrev pub with_taps : (playing : List ℕ) → (behind : List (List ℕ)) → List (List ℕ)
with_taps l ls = tapped l ∷ (map tap_line (even_lines (byte l 1) (four l 2)).bar_lines ++ ls)

-- the lines of a plain sheet with its bar lines tapped: all but its `45` line stay
unfoldable pub twin_lines : List (List ℕ) → List (List ℕ)
twin_lines [] = []
twin_lines (l ∷ ls) = cond (eqb (byte l 0) 0x45) (with_taps l ls) (l ∷ twin_lines ls)

-- the second text is the first with its bar lines tapped
abbrev pub Twins : (plain tapped-text : List ℕ) → Type 0
Twins t u = lines u ≡ twin_lines (lines t)

-- Bytes written as a line: pairs of 0-9 A-F closed by byte 0A, as document 01 has score lines and the program's refusal line.
use Rattle.std.specs.Prelude.{ℕ, ◌+◌, ◌/◌, ◌%◌, Bool, cond, List, [], ◌∷◌, ◌++◌, ◌≡◌, length, ltb, leb}
use Rattle.slices.specs.Over.{over_from}

-- the digit of a number below 16
unfoldable pub digit_of : ℕ → ℕ
digit_of n = cond (ltb n 10) (48 + n) (55 + n)

-- the pairs that spell some bytes
unfoldable pub pairs_of : List ℕ → List ℕ
unfolding digit_of
pairs_of [] = []
pairs_of (b ∷ bs) = digit_of (b / 16) ∷ digit_of (b % 16) ∷ pairs_of bs

-- the text of a line
unfoldable pub line_text : List ℕ → List ℕ
unfolding pairs_of
line_text bs = pairs_of bs ++ (10 ∷ [])

-- there is room for a line of these bytes from place `at` of a slice on
unfoldable pub has_room : List ℕ → ℕ → List ℕ → Bool
has_room bs at out = leb (at + length (line_text bs)) (length out)

-- what `write_line` does: the line from place `at` on, where there is room for all of it, and every other cell kept;
-- the result is the place behind the line, or `at` where nothing was written
pub record LineWritten (bs : List ℕ) (at : ℕ) (out₀ out₁ : List ℕ) (r : ℕ) : Type 0 where
  pub text : out₁ ≡ cond (has_room bs at out₀) (over_from at (line_text bs) out₀) out₀
  pub end : r ≡ cond (has_room bs at out₀) (at + length (line_text bs)) at

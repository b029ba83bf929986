-- Lengths as the code holds them.
use Rattle.std.specs.Prelude.{ℕ, ◌*◌, ◌<◌, ◌≤◌, ◌≡◌, Bool, List, [], ◌∷◌, length, get_or}
use Rattle.slices.specs.Pad.{pad}
use Rattle.sheet.specs.Sheet.{Rule, Grammar}
use Rattle.sizes.specs.declared.LengthTable.{LengthTable}
use Rattle.sizes.specs.Sizes.{has_arity, member, reached}
use Rattle.sizes.specs.Divisors.{Falls}

-- for each k up to 8 whether some division has k parts
unfoldable pub arity_flags : List Rule → List Bool
arity_flags rs =
    has_arity 0 rs ∷ has_arity 1 rs ∷ has_arity 2 rs ∷ has_arity 3 rs ∷ has_arity 4 rs ∷ has_arity 5 rs ∷ has_arity 6 rs
    ∷ has_arity 7 rs ∷ has_arity 8 rs ∷ []

unfoldable pub length_table : List ℕ → LengthTable
length_table xs = record { count = length xs; cells = pad 84 0 xs }

-- the first `count` cells hold lengths that fall
pub record LengthsIn (cells : List ℕ) (count : ℕ) (xs : List ℕ) : Type 0 where
  pub counted : length xs ≡ count
  pub held : cells ≡ pad 84 0 xs
  pub falls : Falls xs

-- what `first_at_most` answers: the first place from `from` on of the first `count` cells whose cell is at most x, or `count`
pub record FirstAtMost (cells : List ℕ) (count from x r : ℕ) : Type 0 where
  pub on : from ≤ r
  pub within : r ≤ count
  pub above : (i : ℕ) → from ≤ i → i < r → x < get_or cells i 0
  pub at_most : r < count → get_or cells r 0 ≤ x

-- for each arity k a place of the first `count` cells before which every cell is above k times d
pub record Cursors (cells : List ℕ) (count d : ℕ) (at : List ℕ) : Type 0 where
  pub size : length at ≡ 9
  pub within : (k : ℕ) → get_or at k 0 ≤ count
  pub above : (k i : ℕ) → i < get_or at k 0 → k * d < get_or cells i 0

-- what `is_among` answers of x, for any lengths in the first cells
abbrev pub AmongOf : (cells : List ℕ) → (count x : ℕ) → Bool → Type 0
AmongOf cells count x r = (xs : List ℕ) → LengthsIn cells count xs → r ≡ member x xs

-- what `is_reached` answers of d, for any grammar with these flags and any lengths in the first cells
abbrev pub ReachedOf : List Bool → (cells : List ℕ) → (count d : ℕ) → Bool → Type 0
ReachedOf flags cells count d r =
    (h : Grammar) (xs : List ℕ) → flags ≡ arity_flags h.rules → LengthsIn cells count xs → r ≡ reached h.rules xs d

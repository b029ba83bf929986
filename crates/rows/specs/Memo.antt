-- A table of rows of four numbers: a row whose first number bears the stamp b + 1 holds the values of `f b` at its slot. A table that
-- claims nothing is sound, so nothing is said of which rows stand or of the order in which they are filled.
use Rattle.std.specs.Prelude.{ℕ, ◌+◌, ◌*◌, ◌/◌, ◌%◌, ◌<◌, ◌≡◌, List, [], ◌∷◌, length, set, get_or}
use Rattle.rows.specs.Vectors.{vec}

-- above every value and the cap: a stamp is a multiple of it
abbrev pub MARK : ℕ
MARK = 144115188075855872

-- what is loaded at a place, and what a store leaves
abbrev pub row_at : List ℕ → ℕ → List ℕ
row_at rows at = get_or rows at 0 % MARK ∷ get_or rows (at + 1) 0 ∷ get_or rows (at + 2) 0 ∷ get_or rows (at + 3) 0 ∷ []

abbrev pub stored : List ℕ → ℕ → List ℕ → ℕ → List ℕ
stored rows at v stamp =
    set (set (set (set rows at (get_or v 0 0 + stamp * MARK)) (at + 1) (get_or v 1 0)) (at + 2) (get_or v 2 0)) (at + 3) (get_or v 3 0)

-- whatever the table of n rows claims is right
pub record Memo (f : ℕ → ℕ → ℕ → ℕ) (rows : List ℕ) (n : ℕ) : Type 0 where
  pub size : length rows ≡ 4 * n
  pub right : (t b : ℕ) → t < n → get_or rows (4 * t) 0 / MARK ≡ b + 1 → row_at rows (4 * t) ≡ vec (f b t)

-- Vectors of four numbers, by carry state, as the code holds them: totals, or packed cells, which are 64 times a total and a rule.
use Rattle.std.specs.Prelude.{ℕ, ◌+◌, ◌*◌, ◌/◌, ◌≤◌, min, List, [], ◌∷◌, get_or}
use Rattle.trees.specs.LeastTotal.{NONE}

-- the four values of a function of carry states
abbrev pub vec : (ℕ → ℕ) → List ℕ
vec f = f 0 ∷ f 1 ∷ f 2 ∷ f 3 ∷ []

-- no value is above the cap
abbrev pub Low : List ℕ → Type 0
Low v = (x : ℕ) → get_or v x 0 ≤ NONE

-- o, lowered where a more than y is less
abbrev pub lowered : (o : List ℕ) (a : ℕ) (y : List ℕ) → List ℕ
lowered o a y = vec (λ x. min (get_or o x 0) (a + get_or y x 0))

-- ---- packed cells

-- none is above 64 times the cap
abbrev pub LowCells : List ℕ → Type 0
LowCells v = (x : ℕ) → get_or v x 0 ≤ 64 * NONE

-- their totals
abbrev pub totals_of : List ℕ → List ℕ
totals_of y = vec (λ x. get_or y x 0 / 64)

-- o, lowered where 64 times the sum of a and y, and r, is less
abbrev pub lowered_by : (o : List ℕ) (a r : ℕ) (y : List ℕ) → List ℕ
lowered_by o a r y = vec (λ x. min (get_or o x 0) (64 * (a + get_or y x 0) + r))

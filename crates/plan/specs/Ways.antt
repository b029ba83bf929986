-- What the other parts of a division cost as leaves, where only one part has an onset: what that part's cells are raised by to come to the
-- cells of the whole, as the plan holds it.
use Rattle.std.specs.Prelude.{ℕ, ◌+◌, ◌*◌, min, cond, List, eqb, ltb, length, get_or}
use Rattle.groups.specs.Sums.{sum_to}
use Rattle.sheet.specs.Sheet.{Sheet}
use Rattle.trees.specs.ValidTrees.{token, weight_at}
use Rattle.trees.specs.LeastTotal.{NONE}
use Rattle.plan.specs.Leaves.{least_leaf}

-- ---- what the other parts cost

-- part i beside part j, with an onset before it: nothing at j, the least leaf of n placed right behind it, and of nothing elsewhere
abbrev pub beside_at : Sheet → (kids : List ℕ) → (j n i : ℕ) → ℕ
beside_at s kids j n i = cond (eqb i j) 0 (least_leaf s (get_or kids i 0) (token (cond (eqb i (j + 1)) n 0) 1))

-- the sum over the parts
unfoldable pub beside_sum : Sheet → (kids : List ℕ) → (j n : ℕ) → ℕ
unfolding sum_to
beside_sum s kids j n = sum_to (beside_at s kids j n) (length kids)

-- ---- packed

-- what rule r and the parts beside part j cost, with the rule
abbrev pub beside : Sheet → (r : ℕ) (kids : List ℕ) (j n : ℕ) → ℕ
beside s r ks j n = 64 * min NONE (s.grammar.multiplier * weight_at s r + beside_sum s ks j n) + r

-- what is added to cell 1 of part j to come to cell 0, and to come to cell 1; to come from cell 0 to cell 0 it is `beside` with 0
abbrev pub one_to_zero : Sheet → (r : ℕ) (kids : List ℕ) (j : ℕ) → ℕ
one_to_zero s r ks j = cond (ltb (j + 1) (length ks)) (beside s r ks j 1) (64 * NONE)

abbrev pub one_to_one : Sheet → (r : ℕ) (kids : List ℕ) (j : ℕ) → ℕ
one_to_one s r ks j = cond (ltb (j + 1) (length ks)) (64 * NONE) (beside s r ks j 0)

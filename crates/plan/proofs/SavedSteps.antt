-- Steps of finding what carried onsets can save, kind after kind and nonterminal after nonterminal.
use Prim.Native.Nat.{ℕ, ◌+◌, ◌-◌, ◌*◌, ◌/◌, ◌<◌, max}
use mathlib.Core.Path.{◌≡◌, refl, ap, ◌∙◌}
use mathlib.Core.List.{List}
use native.Mathlib.Numerals.{add-one}
use native.Mathlib.Omega.{arith}
use lib.ListN.{get_or}
use Rattle.sheet.specs.Sheet.{Sheet}
use Rattle.sheet.specs.Good.{GoodRules}
use Rattle.trees.specs.ValidTrees.{token}
use Rattle.sizes.specs.Sizes.{largest}
use Rattle.plan.specs.Layout.{kinds}
use Rattle.plan.specs.Leaves.{least_leaf}
use Rattle.plan.specs.Packed.{packed_leaf_is}
use Rattle.plan.specs.Plan.{saved_at, saved_by}
use Rattle.plan.specs.PlanLaws.{token_below}
use Rattle.plan.specs.Sections.{PackedLeaves}

pub largest_none : (f : ℕ → ℕ) → 0 ≡ largest f 0
unfolding largest
largest_none f = refl

-- one number more
pub largest_next : (f : ℕ → ℕ) (i : ℕ) (m x y : ℕ) → m ≡ largest f i → x ≡ f i → y ≡ max m x → y ≡ largest f (i + 1)
unfolding largest
largest_next f i m x y em ex ey = rw add-one (omega (arith, em, ex, ey))

-- the quotient of a packed leaf cell
pub packed_cell_least : (s : Sheet) → GoodRules s.grammar → (leaves : List ℕ) → PackedLeaves s leaves → (q n : ℕ) → q < 16 → n < kinds
    → get_or leaves (kinds * q + n) 0 / 64 ≡ least_leaf s q n
packed_cell_least s good leaves t q n hq hn = ap (◌/ 64) (t q n hq hn) ∙ packed_leaf_is s good q n

-- the cells of two kinds
pub saved_cell_lem : (s : Sheet) → GoodRules s.grammar → (leaves : List ℕ) → PackedLeaves s leaves → (q c e j k : ℕ) → q < 16
    → j ≡ token e 1 → k ≡ token (c + e) 1 → get_or leaves (kinds * q + j) 0 / 64 - get_or leaves (kinds * q + k) 0 / 64 ≡ saved_at s q c e
saved_cell_lem s good leaves t q c e j k hq ej ek =
    omega (
      arith,
      packed_cell_least s good leaves t q j hq (omega (arith, ej, token_below e 1)),
      packed_cell_least s good leaves t q k hq (omega (arith, ek, token_below (c + e) 1)),
      ap (least_leaf s q) ej,
      ap (least_leaf s q) ek,
    )

-- all nonterminals
pub saved_all : (s : Sheet) (c n m : ℕ) → m ≡ largest (λ q. largest (saved_at s q c) 4) n → n ≡ s.grammar.nonterminals → m ≡ saved_by s c
unfolding saved_by
saved_all s c n m e k = e ∙ ap (largest (λ q. largest (saved_at s q c) 4)) k

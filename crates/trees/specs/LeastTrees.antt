-- Which tree is handed back: a least one, as document 01's section "Pricing, score lines, finding" has it, and by document 02, (iii), the
-- first of these in dictionary order. There is one at most.
use Rattle.std.specs.Prelude.{ℕ, ◌≤◌, ◌<◌, ◌≡◌, refl, List, [], ◌∷◌, ◌⊎◌}
use Rattle.std.proofs.Common.{ap₂, subst, inl, inr, arith}
use Rattle.sheet.specs.Sheet.{Sheet}
use Rattle.trees.specs.ValidTrees.{Priced, total_of}
use Rattle.trees.specs.OneReading.{one_price}

-- "smallest in dictionary order": xs is ys or comes before it. Where they first differ xs has the smaller byte, or xs ends there.
abbrev pub InDictionaryOrder : (xs ys : List ℕ) → Type 0
InDictionaryOrder [] ys = Unit {0}
InDictionaryOrder (x ∷ xs) [] = ⊥
InDictionaryOrder (x ∷ xs) (y ∷ ys) = (x < y) ⊎ ((x ≡ y) × InDictionaryOrder xs ys)

module _ (s : Sheet) where
  -- "it is valid and has the least total": of all valid trees none totals less
  pub record LeastTree (bytes : List ℕ) (R D : ℕ) : Type 0 where
    pub valid : Priced s bytes R D
    pub least : (xs : List ℕ) (R' D' : ℕ) → Priced s xs R' D' → total_of s R D ≤ total_of s R' D'

  -- "among all least trees, the one whose byte list is smallest in dictionary order"
  pub record FirstTree (bytes : List ℕ) (R D : ℕ) : Type 0 where
    pub tree : LeastTree bytes R D
    pub first : (xs : List ℕ) (R' D' : ℕ) → LeastTree xs R' D' → InDictionaryOrder bytes xs

-- ---- there is one at most

-- lists of which each is in order with the other are equal
pub same_place : (xs ys : List ℕ) → InDictionaryOrder xs ys → InDictionaryOrder ys xs → xs ≡ ys
same_place [] [] h k = refl
same_place [] (y ∷ ys) h k = absurd k
same_place (x ∷ xs) [] h k = absurd h
same_place (x ∷ xs) (y ∷ ys) (inl h) (inl k) = absurd (omega arith)
same_place (x ∷ xs) (y ∷ ys) (inl h) (inr (e, k)) = absurd (omega arith)
same_place (x ∷ xs) (y ∷ ys) (inr (e, h)) (inl k) = absurd (omega arith)
same_place (x ∷ xs) (y ∷ ys) (inr (e, h)) (inr (d, k)) = ap₂ ◌∷◌ e (same_place xs ys h k)

-- of two first trees of a sheet the bytes are the same, and so R and D
pub one_first_tree : (s : Sheet) (bs xs : List ℕ) (R D R' D' : ℕ) → FirstTree s bs R D → FirstTree s xs R' D'
    → (bs ≡ xs) × (R ≡ R') × (D ≡ D')
one_first_tree s bs xs R D R' D' f g =
    let same = same_place bs xs (f.first xs R' D' g.tree) (g.first bs R D f.tree) in
    let priced = subst (λ (ys : List ℕ). Priced s ys R D) same f.tree.valid in
    let (r, d) = one_price s xs R D R' D' priced g.tree.valid in
    (same, r, d)

-- ---- the order on examples

-- a prefix first; then by the first byte that differs, whatever the lengths
pub ordered : InDictionaryOrder [] (0 ∷ []) × InDictionaryOrder (1 ∷ 3 ∷ []) (1 ∷ 3 ∷ 0 ∷ [])
    × InDictionaryOrder (0 ∷ []) (1 ∷ 4 ∷ 3 ∷ []) × InDictionaryOrder (0 ∷ 2 ∷ 3 ∷ []) (1 ∷ [])
    × InDictionaryOrder (1 ∷ 9 ∷ 3 ∷ []) (1 ∷ 10 ∷ 0 ∷ [])
ordered = (tt, inr (refl, inr (refl, tt)), inl (omega arith), inl (omega arith), inr (refl, inl (omega arith)))

pub out_of_order : (InDictionaryOrder (0 ∷ []) [] → ⊥) × (InDictionaryOrder (1 ∷ []) (0 ∷ 2 ∷ 3 ∷ []) → ⊥)
    × (InDictionaryOrder (1 ∷ 3 ∷ 0 ∷ []) (1 ∷ 3 ∷ []) → ⊥)
out_of_order = (
  λ h. h,
  λ h. elim h [ inl k ↦ omega arith | inr k ↦ omega (arith, k.0) ],
  λ h. elim h [ inl k ↦ omega arith | inr k ↦ elim k.1 [ inl m ↦ omega arith | inr m ↦ m.1 ] ],
)

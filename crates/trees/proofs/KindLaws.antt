-- The token kind by what lies before a leaf: when it is a rest, when a continuation, and that more than one onset before makes no
-- difference.
use Rattle.std.specs.Prelude.{ℕ, zero, suc, ◌<◌, ◌≡◌, refl, List, ◌↔◌, length}
use Rattle.std.proofs.Common.{arith}
use Rattle.slices.specs.Every.{Every, every_weaken}
use Rattle.sheet.specs.Sheet.{Sheet}
use Rattle.trees.specs.ValidTrees.{onsets_before, continuation, rest, token, Entry, entries, KindFits, ValidTree}
use Rattle.trees.specs.Kinds.{RestFits}

-- Where an onset lies before the leaf, it makes no difference how many: so tables that are prepared without a place in the piece ask for
-- the kind with 1.
pub kind_before : (m b : ℕ) → 0 < b → token m b ≡ token m 1
kind_before zero zero h = let none : ⊥ = omega arith in absurd none
kind_before zero (suc b) h = refl
kind_before (suc zero) b h = refl
kind_before (suc (suc zero)) b h = refl
kind_before (suc (suc (suc m))) b h = refl

-- what is false of both sides
neither : {A B : Type 0} → (A → ⊥) → (B → ⊥) → A ↔ B
neither f g = (λ a. absurd (f a), λ b. absurd (g b))

rest_exactly : (m b : ℕ) → (token m b ≡ rest) ↔ ((m ≡ 0) × (b ≡ 0))
rest_exactly zero zero = (λ e. (refl, refl), λ e. refl)
rest_exactly zero (suc b) = neither (λ e. omega arith) (λ e. omega (arith, e.1))
rest_exactly (suc zero) b = neither (λ e. omega arith) (λ e. omega (arith, e.0))
rest_exactly (suc (suc zero)) b = neither (λ e. omega arith) (λ e. omega (arith, e.0))
rest_exactly (suc (suc (suc m))) b = neither (λ e. omega arith) (λ e. omega (arith, e.0))

continuation_exactly : (m b : ℕ) → (token m b ≡ continuation) ↔ ((m ≡ 0) × (0 < b))
continuation_exactly zero zero = neither (λ e. omega arith) (λ e. omega (arith, e.1))
continuation_exactly zero (suc b) = (λ e. (refl, omega arith), λ e. refl)
continuation_exactly (suc zero) b = neither (λ e. omega arith) (λ e. omega (arith, e.0))
continuation_exactly (suc (suc zero)) b = neither (λ e. omega arith) (λ e. omega (arith, e.0))
continuation_exactly (suc (suc (suc m))) b = neither (λ e. omega arith) (λ e. omega (arith, e.0))

kind_rests : (s : Sheet) (e : Entry) → KindFits s e → RestFits s e
kind_rests s e fits = rw fits (record {
  silent = rest_exactly (length e.placed) (onsets_before s e.leaf.left);
  sounding = continuation_exactly (length e.placed) (onsets_before s e.leaf.left);
})

-- so it is at each leaf of a valid tree
pub rests_fit : (s : Sheet) (bs : List ℕ) (v : ValidTree s bs) → Every (RestFits s) (entries s v.leaves)
rests_fit s bs v = every_weaken (KindFits s) (RestFits s) (kind_rests s) (entries s v.leaves) v.kinds_fit

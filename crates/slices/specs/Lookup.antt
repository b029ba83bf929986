-- The element of a list at a place, and the list from there on.
use Rattle.std.specs.Prelude.{ℕ, zero, suc, ◌+◌, ◌≤◌, ◌<◌, ◌≡◌, refl, List, [], ◌∷◌, length, drop, get_or}
use Rattle.std.proofs.Math.Option.{none, some, none-ne-some}
use Rattle.std.proofs.Common.{arith, add-one, drop-cons}
use Rattle.std.proofs.Math.ListN.{get_elem?}

module _ {A : Type 0} where
  -- past the end there is none
  pub past_end : (xs : List A) (i : ℕ) → length xs ≤ i → get_elem? xs i ≡ none
  past_end [] i h = refl
  past_end (x ∷ xs) zero h = let f : ⊥ = omega arith in absurd f
  past_end (x ∷ xs) (suc i) h = past_end xs i (omega arith)

  -- where there is one, the place is in the list
  pub some_below : (xs : List A) (i : ℕ) (x : A) → get_elem? xs i ≡ some x → i < length xs
  some_below [] i x e = absurd (none-ne-some _ e)
  some_below (y ∷ xs) zero x e = omega arith
  some_below (y ∷ xs) (suc i) x e = omega (arith, some_below xs i x e)

-- the list from a place on
pub drop-step : (xs : List ℕ) (i : ℕ) → i < length xs → drop i xs ≡ get_or xs i 0 ∷ drop (i + 1) xs
drop-step xs i h = rw (add-one, drop-cons xs i 0)

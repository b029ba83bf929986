-- A list in an array of a fixed length: its elements from the front, and one value in the places that are left. Where a struct's array
-- is a function of a list in this way, the struct is a function of what it means.
use Prim.Native.Nat.{ℕ, zero, suc, ◌+◌, ◌-◌, ◌<◌, ◌≤◌}
use Rattle.std.specs.Prelude.{◌≡◌, get_or, take, drop, set}
use Rattle.std.proofs.Math.Path.{refl, ap, sym}
use Rattle.std.proofs.Common.{◌∙◌, length-drop}
use mathlib.Core.List.{List, [], ◌∷◌, ◌++◌, map, map-append, append-nil}
use native.Mathlib.Omega.{arith}
use Rattle.std.proofs.Math.ListN.{length, replicate, length-replicate}
use Rattle.std.proofs.lemmas.List.{length-map, take-append-le, drop-append-le}
use Rattle.slices.specs.Over.{over, over_from, over_nil, over_more, over-append, length-over}

module _ {A : Type 0} where
  unfoldable pub pad : ℕ → A → List A → List A
  pad n z l = over l (replicate n z)

  pub pad_nil : (n : ℕ) (z : A) → replicate n z ≡ pad n z []
  unfolding pad
  pad_nil n z = sym (over_nil (replicate n z))

  pub length-pad : (n : ℕ) (z : A) (l : List A) → length (pad n z l) ≡ n
  unfolding pad
  length-pad n z l = length-over l (replicate n z) ∙ length-replicate n z

  -- the list, and then the value in the places that are left
  pub pad-append : (n : ℕ) (z : A) (l : List A) → length l ≤ n → pad n z l ≡ l ++ replicate (n - length l) z
  unfolding pad over
  pad-append n z [] h = let e : n ≡ n - 0 = omega arith in ap (λ (k : ℕ). replicate k z) e
  pad-append zero z (x ∷ l) h = let f : ⊥ = omega arith in absurd f
  pad-append (suc n) z (x ∷ l) h =
      let e : n - length l ≡ suc n - suc (length l) = omega arith in
      ap (λ (t : List A). x ∷ t) (pad-append n z l (omega arith) ∙ ap (λ (k : ℕ). l ++ replicate k z) e)

  -- one element more, at the next place
  pub pad_more : (n : ℕ) (z : A) (l xs : List A) (k : ℕ) (a : A) → xs ≡ pad n z l → length l ≡ k → k < n
      → set xs k a ≡ pad n z (l ++ (a ∷ []))
  unfolding pad
  pad_more n z l xs k a e q h = rw (e, ← q) (over_more l (replicate n z) a (rw length-replicate (omega arith)))

  -- a place of the array, and of the list, past whose end z is read
  pub get_or-pad : (n : ℕ) (z : A) (l : List A) (i : ℕ) → i < n → get_or (pad n z l) i z ≡ get_or l i z
  unfolding pad over
  get_or-pad zero z l i h = let f : ⊥ = omega arith in absurd f
  get_or-pad (suc n) z [] zero h = refl
  get_or-pad (suc n) z [] (suc i) h = get_or-pad n z [] i (omega arith)
  get_or-pad (suc n) z (x ∷ l) zero h = refl
  get_or-pad (suc n) z (x ∷ l) (suc i) h = get_or-pad n z l i (omega arith)

  -- more elements, from the next place on
  pub pad_over : (n : ℕ) (z : A) (l xs : List A) (k : ℕ) (bs : List A) → xs ≡ pad n z l → length l ≡ k → k ≤ n
      → over_from k bs xs ≡ pad n z (l ++ bs)
  unfolding pad
  pad_over n z l xs k bs e q h = rw (e, ← q) (over-append l bs (replicate n z) (rw length-replicate (omega arith)))

  -- some elements in a row, read from the array
  pub slice_pad : (n : ℕ) (z : A) (l : List A) (i k : ℕ) → length l ≤ n → i + k ≤ length l
      → take k (drop i (pad n z l)) ≡ take k (drop i l)
  slice_pad n z l i k h f =
      let more = replicate (n - length l) z in
      rw (pad-append n z l h, drop-append-le i l more (omega arith))
      (take-append-le k (drop i l) more (omega (arith, length-drop i l)))

  -- a list that fills the array
  pub pad_whole : (n : ℕ) (z : A) (l : List A) → length l ≡ n → pad n z l ≡ l
  pad_whole n z l e =
      let none : n - length l ≡ 0 = omega arith in
      pad-append n z l (omega arith) ∙ ap (λ (k : ℕ). l ++ replicate k z) none ∙ append-nil l

-- an array that holds f of each element of a list, and of one more
pub pad_map_more : {A B : Type 0} (n : ℕ) (z : B) (f : A → B) (l : List A) (a : A) (xs : List B) (k : ℕ)
    → xs ≡ pad n z (map f l) → length l ≡ k → k < n → set xs k (f a) ≡ pad n z (map f (l ++ (a ∷ [])))
pad_map_more n z f l a xs k e q h =
    pad_more n z (map f l) xs k (f a) e (length-map l f ∙ q) h ∙ ap (pad n z) (sym (map-append f l (a ∷ [])))

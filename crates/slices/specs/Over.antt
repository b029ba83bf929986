-- A list written over a slice: what a function leaves that writes cell after cell and keeps every other cell.
use Rattle.std.specs.Prelude.{◌≡◌, length, take, drop, set}
use Rattle.std.proofs.Math.Path.{refl, ap}
use mathlib.Core.List.{List, [], ◌∷◌, ◌++◌}
use Prim.Native.Nat.{ℕ, zero, suc, ◌+◌, ◌≤◌, ◌<◌}
use Rattle.std.proofs.Math.Nat.{suc-add, zero-add}
use native.Mathlib.Omega.{arith}
use Rattle.std.proofs.Math.Seq.{take-append_seam, drop-append_seam}

module _ {A : Type 0} where
  -- bs over the front of xs, as far as there is room; the cells behind bs are those of xs
  unfoldable pub over : List A → List A → List A
  over [] xs = xs
  over (b ∷ bs) [] = []
  over (b ∷ bs) (x ∷ xs) = b ∷ over bs xs

  -- the same from cell n on
  unfoldable pub over_from : ℕ → List A → List A → List A
  unfolding over
  over_from zero bs xs = over bs xs
  over_from (suc n) bs [] = []
  over_from (suc n) bs (x ∷ xs) = x ∷ over_from n bs xs

  pub length-over : (bs xs : List A) → length (over bs xs) ≡ length xs
  unfolding over
  length-over [] xs = refl
  length-over (b ∷ bs) [] = refl
  length-over (b ∷ bs) (x ∷ xs) = ap suc (length-over bs xs)

  pub length-over_from : (n : ℕ) (bs xs : List A) → length (over_from n bs xs) ≡ length xs
  unfolding over_from
  length-over_from zero bs xs = length-over bs xs
  length-over_from (suc n) bs [] = refl
  length-over_from (suc n) bs (x ∷ xs) = ap suc (length-over_from n bs xs)

  -- what fits, and then the cells behind it
  pub over-drop : (bs xs : List A) → length bs ≤ length xs → over bs xs ≡ bs ++ drop (length bs) xs
  unfolding over
  over-drop [] xs h = refl
  over-drop (b ∷ bs) [] h = let f : ⊥ = omega arith in absurd f
  over-drop (b ∷ bs) (x ∷ xs) h = ap (λ (l : List A). b ∷ l) (over-drop bs xs (omega arith))

  -- what was written, and what stands behind it
  pub take-over : (bs xs : List A) → length bs ≤ length xs → take (length bs) (over bs xs) ≡ bs
  take-over bs xs h = rw (over-drop bs xs h) (take-append_seam bs (drop (length bs) xs))

  pub drop-over : (bs xs : List A) → length bs ≤ length xs → drop (length bs) (over bs xs) ≡ drop (length bs) xs
  drop-over bs xs h = rw (over-drop bs xs h) (drop-append_seam bs (drop (length bs) xs))

  -- what stood there, written back over as much or more
  pub over_back : (k : ℕ) (bs xs : List A) → length bs ≤ k → over (take k xs) (over bs xs) ≡ xs
  unfolding over
  over_back zero [] xs h = refl
  over_back zero (b ∷ bs) xs h = let f : ⊥ = omega arith in absurd f
  over_back (suc k) [] [] h = refl
  over_back (suc k) [] (x ∷ xs) h = ap (λ (l : List A). x ∷ l) (over_back k [] xs (omega arith))
  over_back (suc k) (b ∷ bs) [] h = refl
  over_back (suc k) (b ∷ bs) (x ∷ xs) h = ap (λ (l : List A). x ∷ l) (over_back k bs xs (omega arith))

  -- nothing written
  pub over_nil : (xs : List A) → over [] xs ≡ xs
  unfolding over
  over_nil xs = refl

  pub over_from_nil : (n : ℕ) (xs : List A) → over_from n [] xs ≡ xs
  unfolding over_from
  over_from_nil zero xs = refl
  over_from_nil (suc n) [] = refl
  over_from_nil (suc n) (x ∷ xs) = ap (λ (l : List A). x ∷ l) (over_from_nil n xs)

  -- one cell more
  pub over_more : (bs xs : List A) (b : A) → length bs < length xs → set (over bs xs) (length bs) b ≡ over (bs ++ (b ∷ [])) xs
  unfolding over
  over_more [] [] b h = let f : ⊥ = omega arith in absurd f
  over_more [] (x ∷ xs) b h = refl
  over_more (c ∷ bs) [] b h = let f : ⊥ = omega arith in absurd f
  over_more (c ∷ bs) (x ∷ xs) b h = ap (λ (l : List A). c ∷ l) (over_more bs xs b (omega arith))

  pub over_from_more : (n : ℕ) (bs xs : List A) (b : A) → n + length bs < length xs
      → set (over_from n bs xs) (n + length bs) b ≡ over_from n (bs ++ (b ∷ [])) xs
  unfolding over_from
  over_from_more zero bs xs b h = rw zero-add (over_more bs xs b (omega arith))
  over_from_more (suc n) bs [] b h = let f : ⊥ = omega arith in absurd f
  over_from_more (suc n) bs (x ∷ xs) b h = rw suc-add (ap (λ (l : List A). x ∷ l) (over_from_more n bs xs b (omega arith)))

  -- one element more, where there is no cell for it
  pub over_full : (bs xs : List A) (b : A) → length xs ≤ length bs → over bs xs ≡ over (bs ++ (b ∷ [])) xs
  unfolding over
  over_full [] [] b h = refl
  over_full [] (x ∷ xs) b h = let f : ⊥ = omega arith in absurd f
  over_full (c ∷ bs) [] b h = refl
  over_full (c ∷ bs) (x ∷ xs) b h = ap (λ (l : List A). c ∷ l) (over_full bs xs b (omega arith))

  -- one text behind another
  pub over-append : (cs bs xs : List A) → length cs ≤ length xs → over_from (length cs) bs (over cs xs) ≡ over (cs ++ bs) xs
  unfolding over over_from
  over-append [] bs xs h = refl
  over-append (c ∷ cs) bs [] h = let f : ⊥ = omega arith in absurd f
  over-append (c ∷ cs) bs (x ∷ xs) h = ap (λ (l : List A). c ∷ l) (over-append cs bs xs (omega arith))

  pub over_from-append : (n : ℕ) (cs bs xs : List A) → n + length cs ≤ length xs
      → over_from (n + length cs) bs (over_from n cs xs) ≡ over_from n (cs ++ bs) xs
  unfolding over_from
  over_from-append zero cs bs xs h = rw zero-add (over-append cs bs xs (omega arith))
  over_from-append (suc n) cs bs [] h = let f : ⊥ = omega arith in absurd f
  over_from-append (suc n) cs bs (x ∷ xs) h = rw suc-add (ap (λ (l : List A). x ∷ l) (over_from-append n cs bs xs (omega arith)))

  -- the last cell written first
  pub over_last : (bs xs : List A) (b : A) → over (bs ++ (b ∷ [])) xs ≡ over bs (set xs (length bs) b)
  unfolding over
  over_last [] [] b = refl
  over_last [] (x ∷ xs) b = refl
  over_last (c ∷ bs) [] b = refl
  over_last (c ∷ bs) (x ∷ xs) b = ap (λ (l : List A). c ∷ l) (over_last bs xs b)

  pub over_from_last : (n : ℕ) (bs xs : List A) (b : A) → over_from n (bs ++ (b ∷ [])) xs ≡ over_from n bs (set xs (n + length bs) b)
  unfolding over_from
  over_from_last zero bs xs b = rw zero-add (over_last bs xs b)
  over_from_last (suc n) bs [] b = refl
  over_from_last (suc n) bs (x ∷ xs) b = rw suc-add (ap (λ (l : List A). x ∷ l) (over_from_last n bs xs b))

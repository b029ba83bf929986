-- A slice filled from its front by a function: what a loop that prepares or clears cells leaves.
use Rattle.std.specs.Prelude.{◌≡◌, refl, List, ◌++◌, ℕ, ◌+◌, ◌-◌, ◌≤◌, ◌<◌, length, take, drop, set, get_or, replicate}
use Rattle.std.proofs.Common.{sym, ap, ap₂, subst, ◌∙◌, arith, below_more, length-set, take-append-drop, length-take-le, drop-set-lt}
use Rattle.std.proofs.Common.{drop-drop, get_or-set_same, get_or-set_other, get_or-take, ext_get_or}
use Rattle.std.proofs.lemmas.List.{length-replicate, get_or-replicate}
use Rattle.slices.specs.Over.{over, over-drop}

-- ys is xs but for its first n cells, which are f 0, f 1 and so on; d is read past the end
pub record Filled {A : Type 0} (d : A) (f : ℕ → A) (xs ys : List A) (n : ℕ) : Type 0 where
  pub size : length ys ≡ length xs
  pub each : (i : ℕ) → i < n → get_or ys i d ≡ f i
  pub rest : drop n ys ≡ drop n xs

pub filled_none : {A : Type 0} (d : A) (f : ℕ → A) (xs : List A) → Filled d f xs xs 0
filled_none d f xs = record { size = refl; each = λ i l. absurd (omega arith); rest = refl }

-- lists that are equal past n are equal past any m behind it
pub equal_further : {A : Type 0} (xs ys : List A) (n m : ℕ) → n ≤ m → drop n ys ≡ drop n xs → drop m ys ≡ drop m xs
equal_further xs ys n m h e =
    let k : n + (m - n) ≡ m = omega arith in
    subst (λ i. drop i ys ≡ drop i xs) k (sym (drop-drop (m - n) n ys) ∙ ap (drop (m - n)) e ∙ drop-drop (m - n) n xs)

-- one cell more
pub filled_more : {A : Type 0} {d : A} {f : ℕ → A} {xs ys : List A} {n : ℕ} {v : A} → Filled d f xs ys n → n < length xs → v ≡ f n
    → Filled d f xs (set ys n v) (n + 1)
filled_more {A} {d} {f} {xs} {ys} {n} {v} t l e =
    let k : n < length ys = omega (arith, t.size) in
    record {
      size = length-set ys n v ∙ t.size;
      each = below_more _ _ (λ i h. get_or-set_other ys n i v d (λ s. omega arith) ∙ t.each i h) (get_or-set_same ys n v d k ∙ e);
      rest = drop-set-lt (n + 1) ys n v (omega arith) ∙ equal_further xs ys n (n + 1) (omega arith) t.rest;
    }

-- filled with one value, the slice has so many of it over its front; what stood there before does not matter
pub filled_over : {A : Type 0} (d z : A) (xs ys old : List A) (n : ℕ) → Filled d (λ _. z) xs ys n → n ≤ length old → length xs ≡ length old
    → drop n xs ≡ drop n old → ys ≡ over (replicate n z) old
filled_over d z xs ys old n t h size rest =
    sym (take-append-drop n ys) ∙ ap₂ ◌++◌ front (t.rest ∙ rest)
    ∙ sym (over-drop (replicate n z) old (omega (arith, length-replicate n z))
    ∙ ap (λ (k : ℕ). replicate n z ++ drop k old) (length-replicate n z))
  where
    count : length (take n ys) ≡ n
    count = length-take-le n ys (omega (arith, t.size))

    front : take n ys ≡ replicate n z
    front =
        ext_get_or d (take n ys) (replicate n z) (count ∙ sym (length-replicate n z))
        (λ i hi.
        let below : i < n = omega (arith, count) in
        get_or-take n ys i d below ∙ t.each i below ∙ sym (get_or-replicate n i z d below))

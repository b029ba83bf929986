-- The bytes of a line as a list, and the eight places of each rule's parts. Assumes nothing.
use Prim.Native.Nat.{ℕ, zero, suc, ◌+◌, ◌-◌, ◌*◌, ◌<◌, ◌≤◌}
use mathlib.Core.Path.{◌≡◌, refl, ap, ◌∙◌, sym}
use mathlib.Core.Bool.{false}
use mathlib.Core.List.{List, [], ◌∷◌, ◌++◌, append_assoc, append-nil}
use native.Mathlib.Omega.{arith}
use native.Mathlib.Numerals.{add-one}
use lib.ListN.{length, get_or, set, length-append}
use borrow.Author.Tests.{lt-ltb, le-ltb}
use Rattle.slices.specs.Over.{over}
use Rattle.slices.specs.Pad.{pad, pad_more}
use Rattle.sheet.specs.Reading.{all_below, bytes_from}
use Rattle.sheet.specs.Held.{flat, child_cells}
use Rattle.sheet.specs.Children.{length-flat}
use Rattle.sheet.specs.Laws.{length-bytes}

module _ (l : List ℕ) where
  -- the next of what is left, at the code's j + 5
  pub bytes_step : (k j : ℕ) → j < k → bytes_from (k - j) (j + 5) l ≡ get_or l (j + 5) 0 ∷ bytes_from (k - (j + 1)) (j + 1 + 5) l
  unfolding bytes_from
  bytes_step k j h =
      let e : k - j ≡ suc (k - (j + 1)) = omega arith in
      let f : j + 5 + 1 ≡ j + 1 + 5 = omega arith in
      ap (λ (n : ℕ). bytes_from n (j + 5) l) e ∙ ap (λ (n : ℕ). get_or l (j + 5) 0 ∷ bytes_from (k - (j + 1)) n l) f

  -- one more at the end
  pub bytes_snoc : (k i : ℕ) → bytes_from (suc k) i l ≡ bytes_from k i l ++ (get_or l (k + i) 0 ∷ [])
  unfolding bytes_from
  bytes_snoc zero i = let e : i ≡ 0 + i = omega arith in ap (λ (n : ℕ). get_or l n 0 ∷ []) e
  bytes_snoc (suc k) i =
      let e : k + (i + 1) ≡ suc k + i = omega arith in
      ap (λ (t : List ℕ). get_or l i 0 ∷ t) (bytes_snoc k (i + 1)
      ∙ ap (λ (n : ℕ). bytes_from k (i + 1) l ++ (get_or l n 0 ∷ [])) e)

pub below_yes : (q x : ℕ) (xs : List ℕ) → x < q → all_below q (x ∷ xs) ≡ all_below q xs
unfolding all_below
below_yes q x xs h = simp (lt-ltb x q h)

pub below_no : (q x : ℕ) (xs : List ℕ) → q ≤ x → all_below q (x ∷ xs) ≡ false
unfolding all_below
below_no q x xs h = simp (le-ltb x q h)

flat_more : (rs : List (List ℕ)) (ks : List ℕ) → flat (rs ++ (ks ∷ [])) ≡ flat rs ++ pad 8 0 ks
unfolding flat
flat_more [] ks = append-nil (pad 8 0 ks)
flat_more (r ∷ rs) ks = ap (λ (t : List ℕ). pad 8 0 r ++ t) (flat_more rs ks) ∙ sym (append_assoc (pad 8 0 r) (flat rs) (pad 8 0 ks))

-- padding what is padded
pad_pad : (n m : ℕ) (x : List ℕ) → length x ≤ m → pad n 0 (pad m 0 x) ≡ pad n 0 x
unfolding pad over
pad_pad zero zero [] h = refl
pad_pad zero zero (a ∷ x) h = let f : ⊥ = omega arith in absurd f
pad_pad zero (suc m) [] h = refl
pad_pad zero (suc m) (a ∷ x) h = refl
pad_pad (suc n) zero [] h = refl
pad_pad (suc n) zero (a ∷ x) h = let f : ⊥ = omega arith in absurd f
pad_pad (suc n) (suc m) [] h = ap (λ (t : List ℕ). 0 ∷ t) (pad_pad n m [] (omega arith))
pad_pad (suc n) (suc m) (a ∷ x) h = ap (λ (t : List ℕ). a ∷ t) (pad_pad n m x (omega arith))

pad_tail : (n m : ℕ) (l x : List ℕ) → length x ≤ m → pad n 0 (l ++ pad m 0 x) ≡ pad n 0 (l ++ x)
unfolding pad over
pad_tail n m [] x h = pad_pad n m x h
pad_tail zero m (a ∷ l) x h = refl
pad_tail (suc n) m (a ∷ l) x h = ap (λ (t : List ℕ). a ∷ t) (pad_tail n m l x h)

-- the parts of one rule more
pub flat_done : (rs : List (List ℕ)) (ks : List ℕ) → length ks ≤ 8 → pad 512 0 (flat rs ++ ks) ≡ child_cells (rs ++ (ks ∷ []))
unfolding child_cells
flat_done rs ks h = sym (ap (pad 512 0) (flat_more rs ks) ∙ pad_tail 512 8 (flat rs) ks h)

-- byte j of the parts, at its place
pub cell_more : (l : List ℕ) (rs : List (List ℕ)) (n j : ℕ) (cells : List ℕ) → length rs ≡ n → n < 64 → j < 8
    → cells ≡ pad 512 0 (flat rs ++ bytes_from j 5 l)
    → set cells (n * 8 + j) (get_or l (j + 5) 0) ≡ pad 512 0 (flat rs ++ bytes_from (j + 1) 5 l)
cell_more l rs n j cells q hn hj e =
    let b = get_or l (j + 5) 0 in
    pad_more 512 0 (flat rs ++ bytes_from j 5 l) cells (n * 8 + j) b e
    (length-append (flat rs) (bytes_from j 5 l) ∙ omega (arith, length-flat rs, length-bytes l j 5)) (omega arith)
    ∙ ap (pad 512 0) (append_assoc (flat rs) (bytes_from j 5 l) (b ∷ [])
    ∙ ap (λ (t : List ℕ). flat rs ++ t) (sym (bytes_snoc l j 5))
    ∙ ap (λ (m : ℕ). flat rs ++ bytes_from m 5 l) (sym (add-one j)))

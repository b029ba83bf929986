-- Laws of vectors of four numbers, and of the minima that they hold.
use Rattle.std.specs.Prelude.{ℕ, zero, suc, ◌+◌, ◌*◌, ◌/◌, ◌≤◌, ◌<◌, min, ◌≡◌, refl, List, [], ◌∷◌, get_or, set}
use Rattle.std.proofs.Common.{sym, ap, ◌∙◌, arith, ne_eqb}
use Rattle.std.proofs.Math.Decide.{dec_lt}
use Rattle.derivations.specs.Minima.{lowest, lowest_cap, lowest_le, lowest_at, only, only_same, only_cap}
use Rattle.trees.specs.LeastTotal.{NONE}
use Rattle.rows.specs.Vectors.{vec, Low, lowered, LowCells, totals_of}

pub four : {a a' b b' c c' d d' : ℕ} → a ≡ a' → b ≡ b' → c ≡ c' → d ≡ d' → a ∷ b ∷ c ∷ d ∷ [] ≡ a' ∷ b' ∷ c' ∷ d' ∷ []
four p q r s = λ i. p i ∷ q i ∷ r i ∷ s i ∷ []

-- functions that agree on the carry states have the same vector
pub vec_same : (f g : ℕ → ℕ) → ((x : ℕ) → x < 4 → f x ≡ g x) → vec f ≡ vec g
vec_same f g h = four (h 0 (omega arith)) (h 1 (omega arith)) (h 2 (omega arith)) (h 3 (omega arith))

pub vec_at : (f : ℕ → ℕ) (x : ℕ) → x < 4 → get_or (vec f) x 0 ≡ f x
vec_at f zero h = refl
vec_at f (suc zero) h = refl
vec_at f (suc (suc zero)) h = refl
vec_at f (suc (suc (suc zero))) h = refl
vec_at f (suc (suc (suc (suc x)))) h = let no_more : ⊥ = omega arith in absurd no_more

-- no value of a vector is above that of its function
vec_under : (cap : ℕ) (f : ℕ → ℕ) → ((x : ℕ) → f x ≤ cap) → (x : ℕ) → get_or (vec f) x 0 ≤ cap
vec_under cap f h zero = h 0
vec_under cap f h (suc zero) = h 1
vec_under cap f h (suc (suc zero)) = h 2
vec_under cap f h (suc (suc (suc zero))) = h 3
vec_under cap f h (suc (suc (suc (suc x)))) = omega arith

pub low_eq : (v : List ℕ) (f : ℕ → ℕ) → v ≡ vec f → ((x : ℕ) → f x ≤ NONE) → Low v
low_eq v f e h = rw e (vec_under NONE f h)

pub low_cells : (v : List ℕ) (f : ℕ → ℕ) → v ≡ vec f → ((x : ℕ) → f x ≤ 64 * NONE) → LowCells v
low_cells v f e h = rw e (vec_under (64 * NONE) f h)

-- the totals of a row by its function
pub totals_vec : (f : ℕ → ℕ) {y : List ℕ} → y ≡ vec f → totals_of y ≡ vec (λ x. f x / 64)
totals_vec f e = ap totals_of e

pub only_low : (v : List ℕ) (c : ℕ) → v ≡ vec (only NONE c) → Low v
only_low v c e = low_eq v (only NONE c) e (only_cap NONE c)

-- one value everywhere, and then another at one place
pub vec-set : (f : ℕ → ℕ) (c a b : ℕ) → c < 4 → f c ≡ a → ((x : ℕ) → (x ≡ c → ⊥) → f x ≡ b) → set (vec (λ _. b)) c a ≡ vec f
vec-set f zero a b h e k =
    four (sym e) (sym (k 1 (λ x. omega arith))) (sym (k 2 (λ x. omega arith))) (sym (k 3 (λ x. omega arith)))
vec-set f (suc zero) a b h e k =
    four (sym (k 0 (λ x. omega arith))) (sym e) (sym (k 2 (λ x. omega arith))) (sym (k 3 (λ x. omega arith)))
vec-set f (suc (suc zero)) a b h e k =
    four (sym (k 0 (λ x. omega arith))) (sym (k 1 (λ x. omega arith))) (sym e) (sym (k 3 (λ x. omega arith)))
vec-set f (suc (suc (suc zero))) a b h e k =
    four (sym (k 0 (λ x. omega arith))) (sym (k 1 (λ x. omega arith))) (sym (k 2 (λ x. omega arith))) (sym e)
vec-set f (suc (suc (suc (suc c)))) a b h e k = let no_more : ⊥ = omega arith in absurd no_more

pub only_other : (m x : ℕ) → (x ≡ m → ⊥) → only NONE m x ≡ NONE
unfolding only
only_other m x h = rw (ne_eqb x m h)

pub only-set : (c : ℕ) → c < 4 → set (vec (λ _. NONE)) c 0 ≡ vec (only NONE c)
only-set c h = vec-set (only NONE c) c 0 NONE h (only_same NONE c) (only_other c)

pub only_none : (c : ℕ) → 4 ≤ c → vec (λ _. NONE) ≡ vec (only NONE c)
only_none c h = vec_same (λ _. NONE) (only NONE c) (λ x k. sym (only_other c x (λ e. omega arith)))

-- minima of functions that agree
pub lowest_same : (cap : ℕ) (f g : ℕ → ℕ) (n : ℕ) → ((i : ℕ) → i < n → f i ≡ g i) → lowest cap f n ≡ lowest cap g n
unfolding lowest
lowest_same cap f g zero h = refl
lowest_same cap f g (suc n) h = rw (h n (omega arith), lowest_same cap f g n (λ i k. h i (omega arith)))

-- the least of the minima of two functions is the minimum of the lesser
pub lowest_both : (cap : ℕ) (f g : ℕ → ℕ) (n : ℕ) → lowest cap (λ i. min (f i) (g i)) n ≡ min (lowest cap f n) (lowest cap g n)
unfolding lowest
lowest_both cap f g zero = omega arith
lowest_both cap f g (suc n) = rw (lowest_both cap f g n) (middle (lowest cap f n) (lowest cap g n) (f n) (g n))
  where
    middle : (a b c d : ℕ) → min (min a b) (min c d) ≡ min (min a c) (min b d)
    middle a b c d = omega arith

-- four numbers, one after another
pub lowest_four : (cap : ℕ) (f : ℕ → ℕ) (a b c d : ℕ) → a ≡ min cap (f 0) → b ≡ min a (f 1) → c ≡ min b (f 2) → d ≡ min c (f 3)
    → d ≡ lowest cap f 4
unfolding lowest
lowest_four cap f a b c d p q r s = s ∙ ap (λ (x : ℕ). min x (f 3)) (r ∙ ap (λ (x : ℕ). min x (f 2)) (q ∙ ap (λ (x : ℕ). min x (f 1)) p))

-- minima of functions that agree below the cap
pub lowest_capped : (cap : ℕ) (f g : ℕ → ℕ) (n : ℕ) → ((i : ℕ) → min cap (f i) ≡ min cap (g i)) → lowest cap f n ≡ lowest cap g n
unfolding lowest
lowest_capped cap f g zero h = refl
lowest_capped cap f g (suc n) h =
    omega (arith, h n, lowest_capped cap f g n h, lowest_cap cap f n, lowest_cap cap g n)

-- a number more in each
pub lowest_more : (cap : ℕ) (f : ℕ → ℕ) (k n : ℕ) → lowest cap (λ i. f i + k) n ≡ min cap (lowest cap f n + k)
unfolding lowest
lowest_more cap f k zero = omega arith
lowest_more cap f k (suc n) = omega (arith, lowest_more cap f k n)

-- the cap everywhere
pub lowest_none : (cap : ℕ) (f : ℕ → ℕ) (n : ℕ) → ((i : ℕ) → cap ≤ f i) → lowest cap f n ≡ cap
unfolding lowest
lowest_none cap f zero h = refl
lowest_none cap f (suc n) h = omega (arith, h n, lowest_none cap f n h)

-- where all of m values have the cap, so do the first n of them
pub lowest_fewer : (cap : ℕ) (f : ℕ → ℕ) (n m : ℕ) → n ≤ m → lowest cap f m ≡ cap → lowest cap f n ≡ cap
lowest_fewer cap f n m h e = elim (dec_lt (lowest cap f n) cap) [
  | yes k ↦
      let at = lowest_at cap f n k in
      let no_less : ⊥ = omega (arith, lowest_le cap f m at.0 (omega (arith, at.1)), at.2) in
      absurd no_less
  | no k ↦ omega (arith, lowest_cap cap f n)
]

-- a vector that is lowered, by its functions
pub lowered_vec : (f g : ℕ → ℕ) (a : ℕ) {o y o' : List ℕ} → o ≡ vec f → y ≡ vec g → o' ≡ lowered o a y → o' ≡ vec (λ x. min (f x) (a + g x))
lowered_vec f g a {y = y} e k h = h ∙ ap (λ v. lowered v a y) e ∙ ap (λ v. lowered (vec f) a v) k

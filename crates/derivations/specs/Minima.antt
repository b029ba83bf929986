-- Minima of finitely many numbers, capped: the least of f 0 .. f (n - 1) and a cap, the places where it is found, and the vector that is 0
-- at one place and the cap at every other.
use Prim.Native.Nat.{ℕ, zero, suc, ◌≤◌, ◌<◌, min}
use Rattle.std.specs.Prelude.{◌≡◌, Bool}
use Rattle.std.proofs.Math.Path.{refl}
use Rattle.std.proofs.Common.{sym, not-suc-le-zero}
use Rattle.std.proofs.Math.Bool.{true, false, cond}
use Rattle.std.proofs.Math.Decide.{dec_le, ℕ_discrete}
use native.Mathlib.Omega.{arith}
use Rattle.std.proofs.Math.Dec.{eqb}
use borrow.Author.Tests.{eqb-true, eq-eqb, ne_eqb}

-- the least of `cap` and f 0 .. f (n - 1)
unfoldable pub lowest : ℕ → (ℕ → ℕ) → ℕ → ℕ
lowest cap f zero = cap
lowest cap f (suc n) = min (lowest cap f n) (f n)

-- 0 at m, and `cap` at every other place
unfoldable pub only : ℕ → ℕ → ℕ → ℕ
only cap m x = cond (eqb x m) 0 cap

-- r is the first place, below n, of the least value of f
abbrev pub FirstPlace : (ℕ → ℕ) → ℕ → ℕ → Type 0
FirstPlace f n r = (r < n) × ((i : ℕ) → i < n → f r ≤ f i) × ((i : ℕ) → i < r → f r < f i)

module _ (cap : ℕ) where
  pub lowest_cap : (f : ℕ → ℕ) (n : ℕ) → lowest cap f n ≤ cap
  unfolding lowest
  lowest_cap f zero = omega arith
  lowest_cap f (suc n) = omega (arith, lowest_cap f n)

  pub lowest_le : (f : ℕ → ℕ) (n i : ℕ) → i < n → lowest cap f n ≤ f i
  unfolding lowest
  lowest_le f zero i h = absurd (not-suc-le-zero h)
  lowest_le f (suc n) i h = elim (ℕ_discrete i n) [
    | yes e ↦ rw e (omega arith)
    | no k ↦ omega (arith, lowest_le f n i (omega arith))
  ]

  -- below the cap it is a value of f, and that value has a first place
  pub lowest_first : (f : ℕ → ℕ) (n : ℕ) → lowest cap f n < cap → (r : ℕ) × FirstPlace f n r × (lowest cap f n ≡ f r)
  unfolding lowest
  lowest_first f zero h = absurd (omega arith)
  lowest_first f (suc n) h = elim (dec_le (lowest cap f n) (f n)) [
    | yes k ↦
        let (r, (hr, lo, fi), e) = lowest_first f n (omega arith) in
        (r, (omega arith, (λ i hi. omega (arith, lowest_le f (suc n) i hi)), fi), omega arith)
    | no k ↦
        (n, (omega arith, (λ i hi. omega (arith, lowest_le f (suc n) i hi)), λ i hi. omega (arith, lowest_le f n i hi)), omega arith)
  ]

  -- the minimum of values that are no less, or the cap or more, is no less
  pub lowest_mono : (f g : ℕ → ℕ) (n : ℕ) → ((i : ℕ) → i < n → min cap (f i) ≤ g i) → lowest cap f n ≤ lowest cap g n
  unfolding lowest
  lowest_mono f g zero h = omega arith
  lowest_mono f g (suc n) h = omega (arith, h n (omega arith), lowest_mono f g n (λ i k. h i (omega arith)), lowest_cap f n)

  pub lowest_at : (f : ℕ → ℕ) (n : ℕ) → lowest cap f n < cap → (i : ℕ) × (i < n) × (lowest cap f n ≡ f i)
  lowest_at f n h = let (i, place, e) = lowest_first f n h in (i, place.0, e)

  pub only_same : (m : ℕ) → only cap m m ≡ 0
  unfolding only
  only_same m = rw (eq-eqb m m refl)

  -- it is below the cap at m only
  pub only_below : (m x : ℕ) → only cap m x < cap → x ≡ m
  unfolding only
  only_below m x = go (eqb x m) refl
    where
      go : (b : Bool) → eqb x m ≡ b → cond b 0 cap < cap → x ≡ m
      go true e h = eqb-true x m e
      go false e h = absurd (omega arith)

  pub only_sym : (m x : ℕ) → only cap m x ≡ only cap x m
  unfolding only
  only_sym m x = elim (ℕ_discrete m x) [
    | yes e ↦ rw e
    | no k ↦ rw (ne_eqb m x k, ne_eqb x m (λ e. k (sym e)))
  ]

  pub only_cap : (m x : ℕ) → only cap m x ≤ cap
  unfolding only
  only_cap m x = go (eqb x m)
    where
      go : (b : Bool) → cond b 0 cap ≤ cap
      go true = omega arith
      go false = omega arith

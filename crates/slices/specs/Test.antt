-- A rule of a table, or of the first numbers, proved by one test that the checker computes.
use Rattle.std.specs.Prelude.{ℕ, zero, suc, ◌<◌, ◌≡◌, refl, Bool, true, false, ◌&&◌}
use Rattle.std.proofs.Common.{sym, subst, arith}
use Rattle.std.proofs.lemmas.Bool.{false≢true}
use Rattle.std.proofs.Math.Decide.{ℕ_discrete}

-- a test passes at each number below n
unfoldable pub passes : (ℕ → Bool) → ℕ → Bool
passes f zero = true
passes f (suc n) = f n && passes f n

-- both of two tests that pass together
pub and_both : (a b : Bool) → (a && b) ≡ true → (a ≡ true) × (b ≡ true)
and_both true b e = (refl, e)
and_both false b e = absurd (false≢true e)

-- so it passes at any of them
pub passes_at : (f : ℕ → Bool) (n : ℕ) → passes f n ≡ true → (i : ℕ) → i < n → f i ≡ true
unfolding passes
passes_at f zero t i h = let g : ⊥ = omega arith in absurd g
passes_at f (suc n) t i h = go (ℕ_discrete i n) (and_both (f n) (passes f n) t) (λ p k. passes_at f n p i k)
  where
    go : Dec (i ≡ n) → (f n ≡ true) × (passes f n ≡ true) → (passes f n ≡ true → i < n → f i ≡ true) → f i ≡ true
    go (yes e) p next = subst (λ (k : ℕ). f k ≡ true) (sym e) p.0
    go (no e) p next = next p.1 (omega arith)

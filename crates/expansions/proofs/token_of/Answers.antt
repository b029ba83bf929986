-- `token_of` meets its contract, by the counts that the definition tells apart. Assumes nothing.
use Prim.Native.Nat.{ℕ, zero, suc, ◌≤◌, ◌<◌}
use mathlib.Core.Path.{◌≡◌, refl}
use native.Mathlib.Omega.{arith}
use Rattle.trees.specs.ValidTrees.{token}
use Rattle.expansions.proofs.token_of.Goals as goal

many : (m b : ℕ) → 3 ≤ m → 3 ≡ token m b
many zero b h = let f : ⊥ = omega arith in absurd f
many (suc zero) b h = let f : ⊥ = omega arith in absurd f
many (suc (suc zero)) b h = let f : ⊥ = omega arith in absurd f
many (suc (suc (suc m))) b h = refl

few : (m b : ℕ) → 0 < m → m < 3 → m ≡ token m b
few zero b k h = let f : ⊥ = omega arith in absurd f
few (suc zero) b k h = refl
few (suc (suc zero)) b k h = refl
few (suc (suc (suc m))) b k h = let f : ⊥ = omega arith in absurd f

-- nothing is placed
silent : (m b : ℕ) → m ≡ 0 → b ≡ 0 → 4 ≡ token m b
silent m b e f = rw (e, f) refl

carried_on : (m b : ℕ) → m ≡ 0 → 0 < b → 0 ≡ token m b
carried_on zero zero e h = let f : ⊥ = omega arith in absurd f
carried_on zero (suc b) e h = refl
carried_on (suc m) b e h = let f : ⊥ = omega arith in absurd f

pub returns-then-placed-ge3 : goal.returns-then-placed-ge3
returns-then-placed-ge3 c = many c.args.placed _ (omega (arith, c.if-placed-ge3.true))

pub returns-then-placed-ne0 : goal.returns-then-placed-ne0
returns-then-placed-ne0 c =
    few c.args.placed _ (omega (arith, c.if-placed-ne0.true)) (omega (arith, c.if-placed-ge3.false))

pub returns-then-before-eq0 : goal.returns-then-before-eq0
returns-then-before-eq0 c =
    silent c.args.placed _ (omega (arith, c.if-placed-ne0.false)) c.if-before-eq0.true

pub returns-else-before-eq0 : goal.returns-else-before-eq0
returns-else-before-eq0 c =
    carried_on c.args.placed _ (omega (arith, c.if-placed-ne0.false)) (omega (arith, c.if-before-eq0.false))

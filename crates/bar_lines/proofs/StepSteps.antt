-- Steps of judging the time from one tap to the next, as the code tests it.
use Prim.Native.Nat.{ℕ, ◌+◌, ◌-◌, ◌≤◌, ◌<◌}
use mathlib.Core.Path.{◌≡◌}
use native.Mathlib.Omega.{arith}
use borrow.Author.Tests.{le-leb, lt-leb}
use Rattle.sheet.specs.Reading.{step_refusal}

-- the moment falls
pub step_falls : (before t : ℕ) → t < before → 18 ≡ step_refusal before t
unfolding step_refusal
step_falls before t h = simp (lt-leb (before + 1000) t (omega arith))

-- it is too near
pub step_near : (before t : ℕ) → t - before < 1000 → 18 ≡ step_refusal before t
unfolding step_refusal
step_near before t h = simp (lt-leb (before + 1000) t (omega arith))

-- it is too far
pub step_far : (before t : ℕ) → before ≤ t → 1000 ≤ t - before → 60_000_000 < t - before → 18 ≡ step_refusal before t
unfolding step_refusal
step_far before t low near h = simp (le-leb (before + 1000) t (omega arith), lt-leb t (before + 60_000_000) (omega arith))

-- it is neither
pub step_within : (before t : ℕ) → before ≤ t → 1000 ≤ t - before → t - before ≤ 60_000_000 → 0 ≡ step_refusal before t
unfolding step_refusal
step_within before t low near h = simp (le-leb (before + 1000) t (omega arith), le-leb t (before + 60_000_000) (omega arith))

-- The products of the required lengths are small. Assumes nothing.
use Prim.Native.Nat.{ℕ, ◌*◌, ◌<◌, ◌≤◌}
use native.Mathlib.Omega.{arith}
use native.Mathlib.Nat.{mul-le-mul}

-- Q × L of a byte and at most 84 lengths
pub rows_most : (q l : ℕ) → q < 256 → l ≤ 84 → q * l ≤ 21420
rows_most q l h k = omega (arith, mul-le-mul {n₁ = q} {m₁ = l} {n₂ = 255} {m₂ = 84} (omega arith) k)

-- that times at most 512 onsets
pub cells_most : (q l e : ℕ) → q < 256 → l ≤ 84 → e ≤ 512 → q * l * e ≤ 10967040
cells_most q l e h k m = omega (arith, mul-le-mul {n₁ = q * l} {m₁ = e} {n₂ = 21420} {m₂ = 512} (rows_most q l h k) m)

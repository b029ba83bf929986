-- What the conversion means (document 02, (v)): `NearestUnit`, "the nearest unit, an exact half upwards". `unit_of` gives it
-- (`unit_nearest`) and nothing else is it (`nearest_only`); what a machine plays for a unit lands on it (`perfect_lands`).
use Rattle.std.specs.Prelude.{ℕ, ◌+◌, ◌-◌, ◌*◌, ◌/◌, ◌≤◌, ◌<◌, ◌≡◌}
use Rattle.std.proofs.Common.{sym, ap, arith, mul-le-mul_right, div-mul-le_self, div-lt_iff_lt-mul, le-div_iff_mul-le, lt-suc_self, le_antisymm, le_of_lt, le_of_eq, lt_of_lt_of_le, lt_irrefl, lt_of_mul-lt-mul_right}
use Rattle.std.proofs.Math.Decide.{dec_le}
use Rattle.sheet.specs.Sheet.{bar_units, unit_of, bar_of}

-- how far two numbers are from each other
abbrev pub apart : ℕ → ℕ → ℕ
apart a b = (a - b) + (b - a)

-- how far unit v is from the moment t, where a bar lasts d: the distance of v from t × 20,160 / d, taken d times
abbrev pub from_unit : (d t v : ℕ) → ℕ
from_unit d t v = apart (t * bar_units) (v * d)

-- "the nearest unit, an exact half upwards": no unit is nearer to the moment, and none that is as near is later
pub record NearestUnit (d t u : ℕ) : Type 0 where
  pub nearest : (v : ℕ) → from_unit d t u ≤ from_unit d t v
  pub upwards : (v : ℕ) → from_unit d t v ≡ from_unit d t u → v ≤ u

-- there is one
pub nearest_only : (d t u v : ℕ) → NearestUnit d t u → NearestUnit d t v → u ≡ v
nearest_only d t u v h k =
    let same : from_unit d t u ≡ from_unit d t v = le_antisymm (h.nearest v) (k.nearest u) in
    le_antisymm (k.upwards u same) (h.upwards v (sym same))

-- t × 20,160 / d is at least u - 1/2 and below u + 1/2
pub record Rounded (d t u : ℕ) : Type 0 where
  pub least : 2 * (u * d) ≤ 2 * (t * bar_units) + d
  pub below : 2 * (t * bar_units) < 2 * (u * d) + d

pub unit_rounded : (d t : ℕ) → 0 < d → Rounded d t (unit_of d t)
unfolding unit_of
unit_rounded d t p =
    let n = 2 * (t * bar_units) + d in
    let u = n / (2 * d) in
    let twice : 0 < 2 * d = omega arith in
    let low : u * (2 * d) ≤ n = div-mul-le_self n (2 * d) in
    let high = (div-lt_iff_lt-mul twice).0 (lt-suc_self u) in
    record { least = omega (arith, low); below = omega (arith, high) }

pub rounded_unit : (d t u : ℕ) → 0 < d → Rounded d t u → u ≡ unit_of d t
unfolding unit_of
rounded_unit d t u p r =
    let n = 2 * (t * bar_units) + d in
    let twice : 0 < 2 * d = omega arith in
    let low : u ≤ n / (2 * d) = (le-div_iff_mul-le twice).1 (omega (arith, r.least)) in
    let high : n / (2 * d) < u + 1 = (div-lt_iff_lt-mul twice).1 (omega (arith, r.below)) in
    omega (arith, low, high)

-- so no unit is nearer: one before it is at least half a unit away, one behind it more than half
rounded_nearest : (d t u : ℕ) → Rounded d t u → NearestUnit d t u
rounded_nearest d t u r =
    record {
      nearest = λ v. close v (dec_le (v + 1) u) (dec_le (u + 1) v);
      upwards = λ v e. late v e (dec_le (u + 1) v);
    }
  where
    before : (v : ℕ) → v + 1 ≤ u → from_unit d t u ≤ from_unit d t v
    before v h = let apart-by-one : (v + 1) * d ≤ u * d = mul-le-mul_right d h in omega (arith, apart-by-one, r.least, r.below)

    behind : (v : ℕ) → u + 1 ≤ v → from_unit d t u < from_unit d t v
    behind v h = let apart-by-one : (u + 1) * d ≤ v * d = mul-le-mul_right d h in omega (arith, apart-by-one, r.least, r.below)

    close : (v : ℕ) → Dec (v + 1 ≤ u) → Dec (u + 1 ≤ v) → from_unit d t u ≤ from_unit d t v
    close v (yes h) k = before v h
    close v (no h) (yes k) = le_of_lt (behind v k)
    close v (no h) (no k) = le_of_eq (ap (from_unit d t) (le_antisymm (omega (arith, h)) (omega (arith, k))))

    late : (v : ℕ) → from_unit d t v ≡ from_unit d t u → Dec (u + 1 ≤ v) → v ≤ u
    late v e (yes h) = let far = behind v h in absurd (lt_irrefl _ (lt_of_lt_of_le far (le_of_eq e)))
    late v e (no h) = omega (arith, h)

pub unit_nearest : (d t : ℕ) → 0 < d → NearestUnit d t (unit_of d t)
unit_nearest d t p = rounded_nearest d t (unit_of d t) (unit_rounded d t p)

-- "Thirds that land": the moment of unit u, rounded down to a microsecond, is nearest to unit u, where a unit lasts two microseconds or
-- more
pub perfect_lands : (d u : ℕ) → 2 * bar_units ≤ d → NearestUnit d (u * d / bar_units) u
perfect_lands d u h =
    let t = u * d / bar_units in
    let low : t * bar_units ≤ u * d = div-mul-le_self (u * d) bar_units in
    let high = (div-lt_iff_lt-mul {k = bar_units} (omega arith)).0 (lt-suc_self t) in
    rounded_nearest d t u (record { least = omega (arith, high, h); below = omega (arith, low, h) })

-- "An onset rounded up to a bar line belongs to the next bar": where the moment is in bar b, from 0, and its unit is not, that is in bar
-- b + 1
pub next_bar : (d b t : ℕ) → 0 < d → t < (b + 1) * d → (b + 1) * bar_units ≤ unit_of d t → bar_of (unit_of d t) ≡ b + 1
next_bar d b t p inside reached =
    let r = unit_rounded d t p in
    let within : unit_of d t < (b + 1) * bar_units + 1 = lt_of_mul-lt-mul_right d (omega (arith, r.least, inside)) in
    omega (arith, reached, within)

-- `unit_of` meets its contract: the quotient is the nearest unit where what is left is less than half a unit, and else the one behind it
-- is. The quotient is small because the moment is within 64 bars. Assumes nothing.
use native.Mathlib.Omega.{arith}
use native.Mathlib.Nat.{div-lt_iff_lt-mul, mod-lt, div-add-mod'}
use Prim.Native.Nat.{ℕ, ◌+◌, ◌*◌, ◌/◌, ◌%◌, ◌≤◌, ◌<◌}
use mathlib.Core.Path.{◌≡◌, sym}
use Rattle.sheet.specs.Sheet.{bar_units, unit_of}
use Rattle.sheet.specs.Nearest.{rounded_unit}
use Rattle.sheet.proofs.clock.unit_of.Goals.{Else-d-eq0}
use Rattle.sheet.proofs.clock.unit_of.Goals as goal

-- of a moment t of bars that last d: the units that it has passed, and what is left, as the code has them
module _ (t d : ℕ) (lasts : 0 < d) where
  abbrev passed : ℕ
  passed = t * bar_units / d

  abbrev left : ℕ
  left = t * bar_units % d

  whole : passed * d + left ≡ t * bar_units
  whole = div-add-mod' (t * bar_units) d

  short : left < d
  short = mod-lt (t * bar_units) lasts

  few : t ≤ 64 * d → passed < 1290241
  few h = (div-lt_iff_lt-mul lasts).1 (omega (arith, h))

  down : 2 * left < d → passed ≡ unit_of d t
  down h = rounded_unit d t passed lasts (record { least = omega (arith, whole); below = omega (arith, whole, h) })

  up : d ≤ 2 * left → passed + 1 ≡ unit_of d t
  up h = rounded_unit d t (passed + 1) lasts (record { least = omega (arith, whole, h); below = omega (arith, whole, short) })

lasts-at : (c : Else-d-eq0) → 0 < c.args.duration.0
lasts-at c = let some = c.if-d-eq0.false in omega (arith, some)

few-at : (c : Else-d-eq0) → c.args.t.0 * bar_units / c.args.duration.0 < 1290241
few-at c =
    let lasts-at-here : 0 < c.args.duration.0 =
    let some = c.if-d-eq0.false in omega (arith, some) in
    few (c.args.t.0) (c.args.duration.0) (lasts-at-here) c.requires

-- the unit of bars that do not last
none : (t d : ℕ) → d ≡ 0 → t ≤ 64 * d → 0 ≡ unit_of d t
unfolding unit_of
none t d z h =
    let no-time : t ≡ 0 = omega (arith, z, h) in
    λ j. (2 * (sym no-time j * bar_units) + sym z j) / (2 * sym z j)

pub returns-then-d-eq0 : goal.returns-then-d-eq0
returns-then-d-eq0 c = none c.args.t.0 c.args.duration.0 c.if-d-eq0.true c.requires

pub overflow_mul-over : goal.overflow_mul-over
overflow_mul-over c = let h = short (c.args.t.0) (c.args.duration.0) (lasts-at (goal.at.overflow_mul-over c).Else-d-eq0) in record { fits = omega (arith, h) }

pub overflow_cast-result : goal.overflow_cast-result
overflow_cast-result c = let h = few-at (goal.at.overflow_cast-result c).Else-d-eq0 in record { fits = omega (arith, h) }

pub returns-then-over-d : goal.returns-then-over-d
returns-then-over-d c = down (c.args.t.0) (c.args.duration.0) (lasts-at (goal.at.returns-then-over-d c).Else-d-eq0) c.if-over-d.true

pub overflow_add-result : goal.overflow_add-result
overflow_add-result c = let h = few-at (goal.at.overflow_add-result c).Else-d-eq0 in record { fits = omega (arith, h) }

pub overflow_cast-result-2 : goal.overflow_cast-result-2
overflow_cast-result-2 c = let h = few-at (goal.at.overflow_cast-result-2 c).Else-d-eq0 in record { fits = omega (arith, h) }

pub returns : goal.returns
returns c = up (c.args.t.0) (c.args.duration.0) (lasts-at (goal.at.returns c).Else-d-eq0) c.if-over-d.false

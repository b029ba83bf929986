-- Laws of the conversion from microseconds to units.
use Rattle.std.specs.Prelude.{ℕ, ◌-◌, ◌*◌, ◌/◌, ◌^◌, ◌≤◌, ◌<◌}
use Rattle.std.proofs.Common.{arith, mul-le-mul, le-div_iff_mul-le, div-lt_iff_lt-mul, div-mul-le_self, le_trans}
use Rattle.sheet.specs.Sheet.{Timing, bar_units, unit_of, end_of, lasting}

-- B × duration fits 32 bits
pub end_fits : {b d : ℕ} → b ≤ 64 → d ≤ 60_000_000 → b * d < 2 ^ 32
end_fits {b} {d} hb hd = omega (arith, mul-le-mul {n₁ = b} {m₁ = d} {n₂ = 64} {m₂ = 60_000_000} hb hd)

-- a quotient rises with its number
pub div_mono : (d : ℕ) {a b : ℕ} → 0 < d → a ≤ b → a / d ≤ b / d
div_mono d {a} {b} p h = (le-div_iff_mul-le p).1 (le_trans (div-mul-le_self a d) h)

-- a later onset is at no earlier unit
pub unit_mono : (d : ℕ) {s t : ℕ} → 0 < d → s ≤ t → unit_of d s ≤ unit_of d t
unfolding unit_of
unit_mono d p h = div_mono (2 * d) (omega arith) (omega arith)

-- the first moment whose unit is at or past the end of the last bar: half a unit before the end
abbrev pub first_past_end : (bars : ℕ) → Timing → ℕ
first_past_end bars timing = end_of bars timing - lasting timing (bars - 1) / (2 * bar_units)

-- of a bar that lasts d: from half a unit before its end on the unit is the next bar's, and before it it is not
module _ (d t : ℕ) (lasts : 0 < d) where
  pub bar_reached : d - d / (2 * bar_units) ≤ t → bar_units ≤ unit_of d t
  unfolding unit_of
  bar_reached h = (le-div_iff_mul-le {k = 2 * d} (omega arith)).1 (omega (arith, h))

  pub bar_not_reached : t < d - d / (2 * bar_units) → unit_of d t < bar_units
  unfolding unit_of
  bar_not_reached h = (div-lt_iff_lt-mul {k = 2 * d} (omega arith)).1 (omega (arith, h))

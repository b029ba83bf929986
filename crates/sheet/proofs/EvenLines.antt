-- Laws of evenly spaced bar lines: where each is (`even_at`), and that the unit of a moment is that of one duration (`even_unit`).
use Rattle.std.specs.Prelude.{ℕ, zero, suc, ◌+◌, ◌-◌, ◌*◌, ◌/◌, ◌≤◌, ◌<◌, ◌≡◌, refl, length, get_or}
use Rattle.std.proofs.Common.{◌∙◌, arith, div-mul-le_self, div-lt_iff_lt-mul, lt-suc_self, lt_of_mul-lt-mul_right}
use Rattle.sheet.specs.Sheet.{Timing, bar_units, unit_of, line_at, lasting, unit_in, even_from, even_lines}
use Rattle.sheet.specs.Nearest.{unit_rounded, rounded_unit}
use Rattle.sheet.proofs.BarLines.{Rising, unit_at_lem}

even_from_count : (bars d from : ℕ) → length (even_from bars d from) ≡ bars + 1
unfolding even_from
even_from_count zero d from = refl
even_from_count (suc bars) d from = let e = even_from_count bars d (from + d) in omega (arith, e)

even_from_lem : (bars d from i : ℕ) → i ≤ bars → get_or (even_from bars d from) i 0 ≡ from + i * d
unfolding even_from
even_from_lem zero d from zero h = omega arith
even_from_lem zero d from (suc i) h = let f : ⊥ = omega arith in absurd f
even_from_lem (suc bars) d from zero h = omega arith
even_from_lem (suc bars) d from (suc i) h = even_from_lem bars d (from + d) i (omega arith) ∙ omega arith

module _ (bars d : ℕ) where
  abbrev even : Timing
  even = even_lines bars d

  pub even_count : length even.bar_lines ≡ bars + 1
  even_count = even_from_count bars d 0

  pub even_at : (i : ℕ) → i ≤ bars → line_at even i ≡ i * d
  even_at i h = even_from_lem bars d 0 i h ∙ omega arith

module _ (bars d : ℕ) (lasting-some : 0 < d) where
  even_rising : Rising (even bars d).bar_lines
  even_rising i h =
      let n = even_count bars d in
      let a = even_at bars d i (omega (arith, n)) in
      let b = even_at bars d (i + 1) (omega (arith, n)) in
      omega (arith, a, b)

  -- the unit is that of one duration (document 02, (v))
  pub even_unit : (t : ℕ) → t < bars * d → unit_in (even bars d) t ≡ unit_of d t
  even_unit t before =
      let b = t / d in
      let low : b * d ≤ t = div-mul-le_self t d in
      let high = (div-lt_iff_lt-mul {k = d} lasting-some).0 (lt-suc_self b) in
      let inside : b < bars = lt_of_mul-lt-mul_right d (omega (arith, low, before)) in
      let begins = even_at bars d b (omega (arith, inside)) in
      let ends = even_at bars d (b + 1) (omega (arith, inside)) in
      let is = unit_at_lem (even bars d) bars (even_count bars d) even_rising b t inside (omega (arith, begins, low))
      (omega (arith, ends, high)) in
      let lasts_d : lasting (even bars d) b ≡ d = omega (arith, begins, ends) in
      let since : t - line_at (even bars d) b ≡ t - b * d = omega (arith, begins) in
      let r = unit_rounded d (t - b * d) lasting-some in
      is ∙ (λ j. b * bar_units + unit_of (lasts_d j) (since j))
      ∙ rounded_unit d t (b * bar_units + unit_of d (t - b * d)) lasting-some
      (record { least = omega (arith, r.least, low); below = omega (arith, r.below, low) })

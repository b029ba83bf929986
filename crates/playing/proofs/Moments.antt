-- A moment by a clock: how it is refused, and where it is not. Assumes nothing.
use Prim.Native.Nat.{ℕ, ◌*◌, ◌≤◌, ◌<◌}
use mathlib.Core.Path.{◌≡◌, sym}
use mathlib.Core.List.{List}
use Rattle.sheet.specs.declared.clock.Micros.{Micros}
use native.Mathlib.Omega.{arith}
use native.Mathlib.Decide.{dec_le}
use borrow.Author.Tests.{le-leb, lt-ltb, lt-leb}
use Rattle.sheet.specs.Sheet.{Timing, bar_units, line_at, unit_in, end_of}
use Rattle.sheet.specs.Reading.{moment_refusal}
use Rattle.sheet.proofs.BarLines.{rises, end_reached, end_not_reached}
use Rattle.sheet.specs.PlayingLaws.{moment_early, moment_past, moment_late}
use Rattle.bar_lines.specs.declared.clock.Clock.{Clock}
use Rattle.bar_lines.specs.Lines.{ClockOf}
use Rattle.playing.specs.Clauses.{timing_in}

-- a moment that falls
pub falls : (bars : ℕ) (timing : Timing) (last t : ℕ) → t < last → 6 ≡ moment_refusal bars timing last t
unfolding moment_refusal
falls bars timing last t h = simp (lt-leb last t h)

-- a moment that does not, and is between the first bar line and the end in both clocks
pub inside : (bars : ℕ) (timing : Timing) (last t : ℕ) → last ≤ t → line_at timing 0 ≤ t
    → (t < end_of bars timing) × (unit_in timing t < bars * bar_units) → 0 ≡ moment_refusal bars timing last t
unfolding moment_refusal
inside bars timing last t up begins within =
    simp (le-leb last t up, le-leb _ _ begins, lt-ltb _ _ within.0, lt-ltb _ _ within.1)

module _ (cells : List Micros) (c : Clock) (h : ClockOf cells c) (t : ℕ) where
  abbrev timing : Timing
  timing = timing_in cells c

  abbrev bars : ℕ
  bars = c.bars

  pub early : (last : ℕ) → last ≤ t → t < c.first.0 → 19 ≡ moment_refusal bars timing last t
  early last up k = let is = h.first in sym (moment_early bars timing last t up (omega (arith, k, is)))

  module _ (begins : c.first.0 ≤ t) where
    pub first_line : line_at timing 0 ≤ t
    first_line = let is = h.first in omega (arith, begins, is)

    pub past : (last : ℕ) → last ≤ t → c.end.0 ≤ t → 7 ≡ moment_refusal bars timing last t
    past last up k = elim (dec_le (end_of bars timing) t) [
      | yes m ↦ sym (moment_past bars timing last t up first_line m)
      | no m ↦
          let reached = end_reached timing bars h.lines.time.count (rises bars timing h.lines.time) t h.lines.one first_line
          (let is = h.end in omega (arith, k, is)) (omega (arith, m)) in
          sym (moment_late bars timing last t up first_line reached)
    ]

    pub before_end : t < c.end.0 → (t < end_of bars timing) × (unit_in timing t < bars * bar_units)
    before_end k =
        end_not_reached timing bars h.lines.time.count (rises bars timing h.lines.time) t h.lines.one first_line
        (let is = h.end in omega (arith, k, is))

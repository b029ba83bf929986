-- Laws of a clock: of a moment before its `even` one duration tells all; and from where a search can begin.
use Rattle.std.specs.Prelude.{ℕ, ◌+◌, ◌-◌, ◌*◌, ◌≤◌, ◌<◌, ◌≡◌, List, ◌⊎◌, length}
use Rattle.std.proofs.Common.{sym, ap, ◌∙◌, inl, inr, arith, mul-le-mul_right}
use Rattle.std.proofs.Math.Decide.{dec_le}
use Rattle.sheet.specs.Sheet.{Timing, bar_units, unit_of, line_at, end_of, unit_in, bar_of}
use Rattle.sheet.proofs.BarLines.{Rising, InBar, rises, lines_up, bar_of_lem, unit_at_lem, unit_before, share_most, end_not_reached}
use Rattle.sheet.proofs.EvenLines.{even_at, even_unit}
use Rattle.sheet.specs.declared.clock.Micros.{Micros}
use Rattle.bar_lines.specs.declared.clock.Clock.{Clock}
use Rattle.bar_lines.specs.Lines.{lines_in, ClockOf, Reached}

-- a moment by a clock that is before the end of bars of one duration
module _ (cells : List Micros) (c : Clock) (h : ClockOf cells c) (t : ℕ) (before : t < c.even.0) where
  abbrev d : ℕ
  d = c.duration.0

  abbrev timing_of : Timing
  timing_of = lines_in c.bars cells

  told : (d ≡ 0 → ⊥) × (c.even.0 ≡ c.end.0)
  told = go h.even_end
    where
      go : (c.even.0 ≡ 0) ⊎ ((d ≡ 0 → ⊥) × (c.even.0 ≡ c.end.0)) → (d ≡ 0 → ⊥) × (c.even.0 ≡ c.end.0)
      go (inl z) = let f : ⊥ = omega (arith, z, before) in absurd f
      go (inr k) = k

  -- it is not before the first bar line, and before the end in both clocks
  pub even_begins : line_at timing_of 0 ≤ t
  even_begins =
      let is = ap (λ x. line_at x 0) (h.even told.0) ∙ even_at c.bars d 0 (omega arith) in
      omega (arith, is)

  pub even_ends : (t < end_of c.bars timing_of) × (unit_in timing_of t < c.bars * bar_units)
  even_ends =
      let end = h.end in
      let same = told.1 in
      end_not_reached timing_of c.bars h.lines.time.count (rises c.bars timing_of h.lines.time) t h.lines.one even_begins
      (omega (arith, end, same, before))

  -- and has the unit of one duration
  ends_even : t < c.bars * d
  ends_even =
      let is = ap (end_of c.bars) (h.even told.0) ∙ even_at c.bars d c.bars (omega arith) in
      let ends = even_ends.0 in
      omega (arith, is, ends)

  pub even_asks : t ≤ 64 * d
  even_asks = let most = mul-le-mul_right d h.lines.sixty_four in let within = ends_even in omega (arith, most, within)

  pub even_is : unit_of d t ≡ unit_in timing_of t
  even_is = sym (ap (λ x. unit_in x t) (h.even told.0) ∙ even_unit c.bars d (let some = told.0 in omega (arith, some)) t ends_even)

-- the search can begin in the bar before that of an earlier moment's unit, which may have been rounded up to the next bar line
pub reached_before : (cells : List Micros) (c : Clock) → ClockOf cells c → (s t from : ℕ) → s ≤ t
    → t < end_of c.bars (lines_in c.bars cells) → from ≡ bar_of (unit_in (lines_in c.bars cells) s) - 1 → Reached cells c from t
reached_before cells c h s t from up ends e = elim (dec_le (line_at timing 0) s) [
  | yes begins ↦ go (bar_of_lem timing bars count up_lines s begins (omega (arith, up, ends)))
  | no before ↦
      let none = unit_before timing bars count up_lines s some (omega (arith, before)) in
      let first : from ≡ 0 = omega (arith, e, none) in
      (omega (arith, first, some), inl first)
]
  where
    timing : Timing
    timing = lines_in c.bars cells

    bars : ℕ
    bars = c.bars

    some : 1 ≤ c.bars
    some = h.lines.one

    count : length timing.bar_lines ≡ bars + 1
    count = h.lines.time.count

    up_lines : Rising timing.bar_lines
    up_lines = rises bars timing h.lines.time

    go : InBar timing bars count up_lines s → Reached cells c from t
    go x =
        let is = unit_at_lem timing bars count up_lines x.bar s x.inside x.low x.high in
        let most = share_most timing bars count up_lines x.bar x.inside s x.high in
        let behind : from ≤ x.bar = omega (arith, e, is, most) in
        let inside = x.inside in
        let low = x.low in
        let line = lines_up timing bars count up_lines from x.bar behind (omega (arith, inside)) in
        (omega (arith, behind, inside), inr (omega (arith, line, low, up)))

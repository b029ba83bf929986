-- Bar lines as cells hold them. Assumes nothing.
use Prim.Native.Nat.{ℕ, ◌+◌, ◌-◌, ◌*◌, ◌/◌, ◌≤◌, ◌<◌}
use mathlib.Core.Path.{◌≡◌, sym, ap, ◌∙◌}
use mathlib.Core.List.{List, ◌++◌, map}
use mathlib.Core.Logic.{◌⊎◌, inl, inr}
use native.Mathlib.Omega.{arith}
use native.Mathlib.Decide.{dec_le}
use lib.ListN.{length, get_or, take, drop, replicate, length-replicate, length-take, get_or-map}
use lib.Seq.{get_or-take, length-take-le, ext_get_or}
use Rattle.std.proofs.lemmas.List.{length-map, map-id, take-map}
use Rattle.std.proofs.lemmas.Simd.{map-map}
use Rattle.sheet.specs.declared.clock.Micros.{Micros}
use Rattle.slices.specs.Filled.{Filled}
use Rattle.slices.specs.Over.{over, over-drop}
use Rattle.slices.specs.Pad.{pad}
use Rattle.sheet.specs.Held.{micros, moments_in, timing_table}
use Rattle.sheet.specs.Sheet.{Timing, bar_units, unit_of, line_at, lasting, end_of, unit_within, unit_in, even_lines}
use Rattle.sheet.specs.Clock.{first_past_end}
use Rattle.sheet.proofs.BarLines.{rises, lines_up, share_most, unit_at_lem}
use Rattle.sheet.proofs.EvenLines.{even_count, even_at}
use Rattle.bar_lines.specs.declared.clock.Clock.{Clock}
use Rattle.bar_lines.specs.Lines.{lines_in, GoodLines, LinesOf, BarFound, BarSearched, ClockOf, Reached}

-- the moment in a cell
abbrev pub moment : List Micros → ℕ → ℕ
moment cells i = (get_or cells i (micros 0)).0

-- a line is its cell
pub line_in_lem : (bars : ℕ) (cells : List Micros) (i : ℕ) → i ≤ bars → line_at (lines_in bars cells) i ≡ moment cells i
line_in_lem bars cells i h =
    get_or-take (bars + 1) (moments_in cells) i 0 (omega arith) ∙ get_or-map (λ (m : Micros). m.0) cells i (micros 0)

-- cells filled with the lines of one duration
pub even_in : (bars d : ℕ) (xs cells : List Micros) → Filled (micros 0) (λ i. micros (i * d)) xs cells (bars + 1) → bars < length xs
    → lines_in bars cells ≡ even_lines bars d
even_in bars d xs cells f room =
    let size = length-map cells (λ (m : Micros). m.0) ∙ f.size in
    let count = length-take-le (bars + 1) (moments_in cells) (omega (arith, size, room)) in
    let many = even_count bars d in
    let same = ext_get_or 0 (take (bars + 1) (moments_in cells)) (even_lines bars d).bar_lines (count ∙ sym many)
    (λ i h. let k : i ≤ bars = omega (arith, count) in
    line_in_lem bars cells i k ∙ ap (λ (m : Micros). m.0) (f.each i (omega (arith, k))) ∙ sym (even_at bars d i k)) in
    λ j. record { bar_lines = same j }

-- the moments of bar lines as they are held are the cells again
held_again : (n : ℕ) (cells : List Micros) → map micros (take n (moments_in cells)) ≡ take n cells
held_again n cells =
    ap (map micros) (take-map (λ (m : Micros). m.0) n cells) ∙ map-map micros (λ (m : Micros). m.0) (take n cells)
    ∙ map-id (take n cells)

-- the table of bar lines, where its front is copied from cells
pub table_copied : (bars : ℕ) (cells front : List Micros) → front ≡ take (bars + 1) cells → bars < length cells → bars ≤ 64
    → record { lines = front ++ drop (bars + 1) (replicate 65 (micros 0)) } ≡ timing_table (lines_in bars cells)
unfolding timing_table pad
table_copied bars cells front e room few =
    let n = length-take-le (bars + 1) cells (omega (arith, room)) in
    let zeros = replicate 65 (micros 0) in
    let size = length-replicate 65 (micros 0) in
    let is : front ++ drop (bars + 1) zeros ≡ over (map micros (take (bars + 1) (moments_in cells))) zeros =
    (λ j. e j ++ drop (sym n j) zeros) ∙ sym (over-drop (take (bars + 1) cells) zeros (omega (arith, n, size, few)))
    ∙ ap (λ l. over l zeros) (sym (held_again (bars + 1) cells)) in
    λ j. record { lines = is j }

-- bar lines of one duration, or tapped ones
module _ (bars d : ℕ) (cells : List Micros) (h : LinesOf bars d cells) where
  -- a bar's duration
  lasts_d : (d ≡ 0 → ⊥) → (line_at (lines_in bars cells) 0 ≡ 0) × (line_at (lines_in bars cells) 1 ≡ d)
  lasts_d f =
      let one = h.lines.one in (
        ap (λ x. line_at x 0) (h.even f) ∙ even_at bars d 0 (omega arith) ∙ omega arith,
        ap (λ x. line_at x 1) (h.even f) ∙ even_at bars d 1 (omega (arith, one)) ∙ omega arith,
      )

  pub duration_most : d ≤ 60_000_000
  duration_most = elim (dec_le 1 d) [
    | no z ↦ omega (arith, z)
    | yes k ↦
        let some : d ≡ 0 → ⊥ = λ z. omega (arith, k, z) in
        let one = h.lines.one in
        let most = h.lines.time.steps.longest 0 (let n = h.lines.time.count in omega (arith, one, n)) in
        let low = (lasts_d some).0 in
        let high = (lasts_d some).1 in
        omega (arith, most, low, high)
  ]

  pub even_or_tapped : (even end : ℕ) → even ≡ bars * d - d / 40320 → end ≡ first_past_end bars (lines_in bars cells)
      → (even ≡ 0) ⊎ ((d ≡ 0 → ⊥) × (even ≡ end))
  even_or_tapped even end e f = elim (dec_le 1 d) [
    | no z ↦ inl (let none : d ≡ 0 = omega (arith, z) in e ∙ ap (λ x. bars * x - x / 40320) none ∙ omega arith)
    | yes k ↦
        let some : d ≡ 0 → ⊥ = λ z. omega (arith, k, z) in
        let one = h.lines.one in
        let next : bars - 1 + 1 ≡ bars = omega (arith, one) in
        let ends = ap (λ x. line_at x bars) (h.even some) ∙ even_at bars d bars (omega arith) in
        let closes = ap (λ i. line_at (lines_in bars cells) i) next in
        let begins = ap (λ x. line_at x (bars - 1)) (h.even some) ∙ even_at bars d (bars - 1) (omega arith) in
        let split : bars * d ≡ (bars - 1) * d + d = ap (λ x. x * d) (sym next) ∙ omega arith in
        let lasts : lasting (lines_in bars cells) (bars - 1) ≡ d = omega (arith, ends, closes, begins, split) in
        inr (some, e ∙ sym (f ∙ (λ j. ends j - lasts j / (2 * bar_units))))
  ]

module _ (bars : ℕ) (cells : List Micros) (good : GoodLines bars cells) where
  abbrev timing : Timing
  timing = lines_in bars cells

  up : (i j : ℕ) → i ≤ j → j ≤ bars → line_at timing i + (j - i) ≤ line_at timing j
  up i j h k = lines_up timing bars good.time.count (rises bars timing good.time) i j h k

  -- there are cells enough
  pub cells_many : bars < length cells
  cells_many =
      let n = length-take (bars + 1) (moments_in cells) in
      let m = good.time.count in
      let k = length-map cells (λ (m : Micros). m.0) in
      omega (arith, n, m, k)

  -- later cells are later
  pub cells_up : (i j : ℕ) → i ≤ j → j ≤ bars → moment cells i + (j - i) ≤ moment cells j
  cells_up i j h k =
      let a = line_in_lem bars cells i (omega arith) in
      let b = line_in_lem bars cells j k in
      let m = up i j h k in
      omega (arith, a, b, m)

  -- how long a bar lasts
  pub lasting_in : (b : ℕ) → b < bars → moment cells (b + 1) - moment cells b ≡ lasting timing b
  lasting_in b h =
      let low = line_in_lem bars cells b (omega arith) in
      let high = line_in_lem bars cells (b + 1) (omega arith) in
      omega (arith, low, high)

  -- the share of a moment in its bar, by the cells, and that it is at most a bar
  pub share_in : (b t : ℕ) → b < bars
      → unit_of (moment cells (b + 1) - moment cells b) (t - moment cells b) ≡ unit_of (lasting timing b) (t - line_at timing b)
  share_in b t h =
      let since : t - moment cells b ≡ t - line_at timing b = ap (λ x. t - x) (sym (line_in_lem bars cells b (omega arith))) in
      λ j. unit_of (lasting_in b h j) (since j)

  pub share_fits : (b t : ℕ) → BarFound bars cells t b → unit_of (lasting timing b) (t - line_at timing b) ≤ bar_units
  share_fits b t found = share_most timing bars good.time.count (rises bars timing good.time) b found.inside t found.before

  -- the end
  pub past_end : moment cells bars - (moment cells bars - moment cells (bars - 1)) / 40320 ≡ first_past_end bars timing
  past_end =
      let some = good.one in
      let next : moment cells (bars - 1 + 1) ≡ moment cells bars = ap (λ i. moment cells i) (omega (arith, some)) in
      let ends = line_in_lem bars cells bars (omega arith) in
      let lasts = lasting_in (bars - 1) (omega (arith, some)) in
      omega (arith, next, ends, lasts)

  -- a bar that is found, and one that is not: the search goes on in the next
  module _ (from t : ℕ) (s : BarSearched bars cells from t) (b : ℕ) (inside : b < bars) (begun : moment cells b ≤ t) where
    pub found_here : t < moment cells (b + 1) → BarFound bars cells t b
    found_here h =
        let low = line_in_lem bars cells b (omega arith) in
        let high = line_in_lem bars cells (b + 1) (omega arith) in
        record { inside = inside; begun = omega (arith, low, begun); before = omega (arith, high, h) }

    pub found_later : moment cells (b + 1) ≤ t → b + 1 < bars
    found_later h = elim (dec_le (b + 2) bars) [
      | yes k ↦ omega (arith, k)
      | no k ↦
          let last : b + 1 ≡ bars = omega (arith, k, inside) in
          let ends = line_in_lem bars cells bars (omega arith) in
          let same = ap (λ i. moment cells i) last in
          let before = s.before in
          let f : ⊥ = omega (arith, ends, same, before, h) in absurd f
    ]

-- a moment by a clock from the first bar line on, and before the last
module _ (cells : List Micros) (c : Clock) (h : ClockOf cells c) (t : ℕ) (begins : c.first.0 ≤ t)
    (ends : t < end_of c.bars (lines_in c.bars cells)) where
  -- where they are searched for the moment
  pub searched : (from : ℕ) → Reached cells c from t → BarSearched c.bars cells from t
  searched from r = record { lines = h.lines; inside = r.0; begun = go r.1; before = ends }
    where
      go : (from ≡ 0) ⊎ (line_at (lines_in c.bars cells) from ≤ t) → line_at (lines_in c.bars cells) from ≤ t
      go (inl z) =
          let same = ap (line_at (lines_in c.bars cells)) z in
          let is = h.first in
          omega (arith, same, is, begins)
      go (inr k) = k

  pub found_is : (b : ℕ) → BarFound c.bars cells t b
      → unit_within (lines_in c.bars cells) b t ≡ unit_in (lines_in c.bars cells) t
  found_is b f =
      let timing = lines_in c.bars cells in
      let time = h.lines.time in
      sym (unit_at_lem timing c.bars time.count (rises c.bars timing time) b t f.inside f.begun f.before)

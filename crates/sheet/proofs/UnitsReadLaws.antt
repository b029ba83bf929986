-- What `read`'s contract says of bar lines and units: where it accepts the bar lines are those of the text (`bar_lines_read`), and there is
-- an onset for each `4E` line of the text, in order, each at the unit nearest to its share of its bar (`units_read`), which in a plain
-- sheet is the unit nearest to its line's time (`plain_units_read`).
use Rattle.std.specs.Prelude.{ℕ, zero, suc, ◌+◌, ◌-◌, ◌*◌, ◌≤◌, ◌<◌, ◌≡◌, Bool, false, length, get_or, Ok}
use Rattle.std.proofs.Math.Path.{refl, ap}
use Rattle.std.proofs.Common.{sym, ◌∙◌, arith}
use Rattle.std.proofs.Math.Bool.{cond}
use mathlib.Core.List.{List, [], ◌∷◌, map}
use Rattle.std.proofs.Math.Decide.{dec_le}
use Rattle.std.proofs.lemmas.List.{length-map}
use Rattle.std.proofs.Math.ListN.{get_or-eq_default}
use Rattle.std.proofs.lemmas.Bool.{eqb-false}
use Rattle.slices.specs.Pad.{pad, length-pad, get_or-pad}
use Rattle.slices.specs.Every.{every_in}
use Rattle.hextext.specs.Text.{lines}
use Rattle.sheet.specs.declared.clock.Micros.{Micros}
use Rattle.sheet.specs.declared.table.Reading.{Reading}
use Rattle.sheet.specs.Sheet.{Onset, Timing, TimedSheet, unit_of, line_at, lasting, end_of, unit_in, even_lines}
use Rattle.sheet.specs.Outcome.{Outcome, refused, accepted, accepted_not_refused, accepted_value}
use Rattle.sheet.specs.Reading.{byte, four, is_tapped, even_of, onset_of, read_sheet}
use Rattle.sheet.specs.Held.{micros, units, units_of, playing_table, timing_table, tables, reading_of, Reads}
use Rattle.sheet.specs.Good.{GoodTiming}
use Rattle.sheet.proofs.GoodLaws.{good, good_timing}
use Rattle.sheet.specs.Nearest.{NearestUnit, unit_nearest}
use Rattle.sheet.proofs.BarLines.{InBar, bar_of_lem, unit_at_lem, lasts, rises}
use Rattle.sheet.proofs.EvenLines.{even_count, even_at, even_unit}
use Rattle.sheet.specs.OnsetLines.{onset_lines, playing_line, taps_of, InTime, timing_read, onsets_read, onsets_in_time}
use Rattle.sheet.specs.UnitsRead.{time_at, unit_at, bar_line_at, NearestInBar, UnitsRead, BarLinesRead}

-- the unit of line i
unit_at_line : (timing : Timing) (ls : List (List ℕ)) (i : ℕ) → i < length ls
    → (get_or (map units_of (map (onset_of timing) ls)) i (units 0)).0 ≡ unit_in timing (four (get_or ls i []) 1)
unfolding onset_of
unit_at_line timing [] i h = let f : ⊥ = omega arith in absurd f
unit_at_line timing (l ∷ ls) zero h = refl
unit_at_line timing (l ∷ ls) (suc i) h = unit_at_line timing ls i (omega arith)

-- a bar line as it is held
held_line : (ls : List ℕ) (i : ℕ) → (get_or (map micros ls) i (micros 0)).0 ≡ get_or ls i 0
held_line [] i = refl
held_line (l ∷ ls) zero = refl
held_line (l ∷ ls) (suc i) = held_line ls i

module _ (text : List ℕ) (x : TimedSheet) (e : read_sheet text ≡ accepted x) (r : Reading) (is : r ≡ tables x) where
  abbrev ls : List (List ℕ)
  ls = onset_lines (lines text)

  abbrev os : List Onset
  os = x.sheet.playing.onsets

  abbrev bars : ℕ
  bars = x.sheet.playing.bars

  time : GoodTiming bars x.timing
  time = good_timing text x e

  as_many : length os ≡ length ls
  as_many = ap length (onsets_read text x e) ∙ length-map ls (onset_of x.timing)

  count_is : r.playing.count ≡ length ls
  unfolding tables playing_table
  count_is = ap (λ (y : Reading). y.playing.count) is ∙ as_many

  bars_are : r.playing.bars ≡ bars
  unfolding tables playing_table
  bars_are = ap (λ (y : Reading). y.playing.bars) is

  unit_is : (i : ℕ) → i < length ls → unit_at r i ≡ unit_in x.timing (time_at text i)
  unfolding tables playing_table
  unit_is i h =
      let most = (good text x e).onsets.most in
      ap (λ (y : Reading). unit_at y i) is
      ∙ ap (λ u. u.0) (get_or-pad 512 (units 0) (map units_of os) i (omega (arith, most, as_many, h)))
      ∙ ap (λ (ps : List Onset). (get_or (map units_of ps) i (units 0)).0) (onsets_read text x e)
      ∙ unit_at_line x.timing ls i h

  line_is : (i : ℕ) → bar_line_at r i ≡ line_at x.timing i
  unfolding tables timing_table
  line_is i =
      ap (λ (y : Reading). bar_line_at y i) is ∙ ap (λ m. m.0) (go (dec_le (i + 1) 65)) ∙ held_line x.timing.bar_lines i
    where
      held : List Micros
      held = map micros x.timing.bar_lines

      few : length held ≤ 65
      few =
          let n = length-map x.timing.bar_lines micros in
          let most = (good text x e).onsets.sixty_four in
          omega (arith, n, time.count, most)

      go : Dec (i + 1 ≤ 65) → get_or (pad 65 (micros 0) held) i (micros 0) ≡ get_or held i (micros 0)
      go (yes h) = get_or-pad 65 (micros 0) held i (omega (arith, h))
      go (no h) =
          get_or-eq_default (pad 65 (micros 0) held) (micros 0) (let n = length-pad 65 (micros 0) held in omega (arith, n, h))
          ∙ sym (get_or-eq_default held (micros 0) (omega (arith, few, h)))

  -- the time of line i is in a bar
  abbrev Inside : ℕ → Type 0
  Inside i = InTime x (get_or ls i [])

  in_time : (i : ℕ) → i < length ls → Inside i
  in_time i h = every_in (InTime x) ls i [] h (onsets_in_time text x e)

  of_bar : (i : ℕ) → i < length ls → InBar x.timing bars time.count (rises bars x.timing time) (time_at text i)
      → NearestInBar r (time_at text i) (unit_at r i)
  of_bar i h b =
      let timing = x.timing in
      let t = time_at text i in
      let lines-rise = rises bars timing time in
      record {
        bar = b.bar;
        inside = rw bars_are b.inside;
        begun = rw (line_is b.bar) b.low;
        before = rw (line_is (b.bar + 1)) b.high;
        share = unit_of (lasting timing b.bar) (t - line_at timing b.bar);
        unit_is = unit_is i h ∙ unit_at_lem timing bars time.count lines-rise b.bar t b.inside b.low b.high;
        nearest =
            rw (line_is b.bar, line_is (b.bar + 1))
            (unit_nearest (lasting timing b.bar) (t - line_at timing b.bar)
            (lasts timing bars time.count lines-rise b.bar b.inside));
      }

  units_of_accepted : UnitsRead text r
  units_of_accepted =
      record {
        count = count_is;
        nearest = λ i h.
            let k : i < length ls = omega (arith, h, count_is) in
            let inside = in_time i k in
            of_bar i k (bar_of_lem x.timing bars time.count (rises bars x.timing time) (time_at text i) inside.0 inside.1);
      }

  lines_of_accepted : BarLinesRead text r
  lines_of_accepted =
      let told = timing_read text x e in
      record {
        count = ap (λ (y : Timing). length y.bar_lines) (sym told) ∙ time.count ∙ ap (λ (b : ℕ). b + 1) (sym bars_are);
        each = λ i. line_is i ∙ ap (λ (y : Timing). line_at y i) told;
      }

  -- of a plain sheet the bar lines are evenly spaced
  module _ (plain : is_tapped (playing_line (lines text)) ≡ false) where
    abbrev l : List ℕ
    l = playing_line (lines text)

    even : x.timing ≡ even_lines (byte l 1) (four l 2)
    unfolding even_of
    even = timing_read text x e ∙ ap (λ (c : Bool). cond c (record { bar_lines = taps_of (lines text) }) (even_of l)) plain

    plain_of_accepted : (i : ℕ) → i < r.playing.count → NearestUnit (four l 2) (time_at text i) (unit_at r i)
    plain_of_accepted i h =
        let k : i < length ls = omega (arith, h, count_is) in
        let lasting-some : 0 < four l 2 = let some = eqb-false (four l 2) 0 plain in omega (arith, some) in
        let many = even_count (byte l 1) (four l 2) in
        let n = time.count in
        let c = ap (λ (y : Timing). length y.bar_lines) even in
        let same : bars ≡ byte l 1 = omega (arith, many, n, c) in
        let ends : time_at text i < end_of bars x.timing = (in_time i k).1 in
        let end_is : end_of bars x.timing ≡ byte l 1 * four l 2 =
        (λ j. line_at (even j) (same j)) ∙ even_at (byte l 1) (four l 2) (byte l 1) (omega arith) in
        rw (unit_is i k ∙ ap (λ (y : Timing). unit_in y (time_at text i)) even
        ∙ even_unit (byte l 1) (four l 2) lasting-some (time_at text i) (omega (arith, ends, end_is)))
        (unit_nearest (four l 2) (time_at text i) lasting-some)

-- of a reading
module _ (text : List ℕ) (r : Reading) (e : Reads text (Ok r)) where
  accepted_as : (x : TimedSheet) × (read_sheet text ≡ accepted x) × (r ≡ tables x)
  accepted_as = go (read_sheet text) refl
    where
      go : (o : Outcome TimedSheet) → read_sheet text ≡ o → (x : TimedSheet) × (read_sheet text ≡ accepted x) × (r ≡ tables x)
      go (refused k n) q = absurd (accepted_not_refused (e ∙ ap reading_of q))
      go (accepted x) q = (x, q, accepted_value (e ∙ ap reading_of q))

  pub units_read : UnitsRead text r
  units_read = let (x, q, is) = accepted_as in units_of_accepted text x q r is

  pub bar_lines_read : BarLinesRead text r
  bar_lines_read = let (x, q, is) = accepted_as in lines_of_accepted text x q r is

  pub plain_units_read : is_tapped (playing_line (lines text)) ≡ false
      → (i : ℕ) → i < r.playing.count → NearestUnit (four (playing_line (lines text)) 2) (time_at text i) (unit_at r i)
  plain_units_read plain = let (x, q, is) = accepted_as in plain_of_accepted text x q r is plain

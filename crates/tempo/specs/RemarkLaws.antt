-- What `remark_at`'s contract says, by what the text means: of a refused text (`remark_refused`), behind the last bar (`remark_last`) and
-- before it (`remark_inside`), where the two durations tell the case (`equal_then_steady`, `larger_then_faster`, `smaller_then_slower`);
-- and that a plain sheet is steady throughout (`plain_steady`).
use Rattle.std.specs.Prelude.{ℕ, ◌+◌, ◌≤◌, ◌<◌, ◌≡◌, refl, false, not, cond, List, length, T}
use Rattle.std.proofs.Common.{sym, subst, ◌∙◌, arith}
use Rattle.std.proofs.Math.Path.{ap}
use Rattle.std.proofs.Math.Decide.{dec_le}
use Rattle.std.specs.Float.Ieee.{is_nan}
use Rattle.hextext.specs.Text.{lines}
use Rattle.sheet.specs.Sheet.{Timing, TimedSheet, lasting, even_lines}
use Rattle.sheet.specs.Outcome.{Outcome, refused, accepted, value_in}
use Rattle.sheet.specs.Refusal.{outcome_of}
use Rattle.sheet.specs.Reading.{byte, four, is_tapped, even_of, read_sheet}
use Rattle.sheet.proofs.GoodLaws.{good_timing}
use Rattle.sheet.proofs.EvenLines.{even_count, even_at}
use Rattle.sheet.specs.OnsetLines.{playing_line, taps_of, timing_read}
use Rattle.tempo.specs.declared.between.Tempo.TheVariants.{Steady, Faster, Slower}
use Rattle.tempo.specs.declared.remark.Remark.{Remark}
use Rattle.tempo.specs.declared.between.TempoRecord.{TempoRecord}
use Rattle.tempo.specs.Tempo.{none, percent_of, tempo_of, percent_in, no_record, record_of, remark_with, no_remark, remark_of, Answer}
use Rattle.tempo.specs.Tempo.{remark_in, Remarks}
use Rattle.tempo.specs.TempoLaws.{InRange, equal_steady, larger_faster, smaller_slower, record_inside, record_last, on_refused}
use Rattle.tempo.specs.TempoLaws.{on_accepted}
use Rattle.tempo.specs.Signs.{percentage_known}

-- the durations of an accepted sheet's bars are in range
pub bar_in_range : (text : List ℕ) (x : TimedSheet) → read_sheet text ≡ accepted x → (b : ℕ) → b < x.sheet.playing.bars
    → InRange (lasting x.timing b)
bar_in_range text x q b inside =
    let g = good_timing text x q in
    let count = g.count in
    let least = g.steps.shortest b (omega (arith, count, inside)) in
    let most = g.steps.longest b (omega (arith, count, inside)) in
    (omega (arith, least), omega (arith, least, most))

-- "A refusal gives its number, the line [..] and zeros elsewhere"
abbrev pub refused_as : (number line : ℕ) → Outcome Remark
refused_as k n = refused k n

-- "An accepted call gives number 0 and line 0 beside its result": the remark of a bar with this record
abbrev pub remark_as : TempoRecord → Outcome Remark
remark_as bar = accepted (remark_with bar)

module _ (text : List ℕ) (i : ℕ) (r : Answer) (e : Remarks text i r) where
  pub remark_refused : (k n : ℕ) → read_sheet text ≡ refused k n → outcome_of r ≡ refused_as k n
  remark_refused k n q = e ∙ ap remark_of (on_refused text i k n q)

  module _ (x : TimedSheet) (q : read_sheet text ≡ accepted x) where
    abbrev bars : ℕ
    bars = x.sheet.playing.bars

    abbrev own : ℕ
    own = lasting x.timing i

    abbrev next : ℕ
    next = lasting x.timing (i + 1)

    pub remark_last : bars ≤ i + 1 → outcome_of r ≡ remark_as no_record
    remark_last h = e ∙ ap remark_of (on_accepted text i x q ∙ ap accepted (record_last bars x.timing i h))

    module _ (inside : i + 1 < bars) where
      pub remark_inside : outcome_of r ≡ remark_as (record_of own next)
      remark_inside = e ∙ ap remark_of (on_accepted text i x q ∙ ap accepted (record_inside bars x.timing i inside))

      tempo_is : (remark_in r).tempo ≡ tempo_of own next
      tempo_is = ap (λ (o : Outcome Remark). (value_in no_remark o).tempo) remark_inside

      pub equal_then_steady : own ≡ next → (remark_in r).tempo ≡ Steady
      equal_then_steady h = tempo_is ∙ ap (tempo_of own) (sym h) ∙ equal_steady own

      own_in_range : InRange own
      own_in_range = bar_in_range text x q i (omega (arith, inside))

      next_in_range : InRange next
      next_in_range = bar_in_range text x q (i + 1) inside

      pub larger_then_faster : next < own → (remark_in r).tempo ≡ Faster (percent_of own next)
      larger_then_faster h = tempo_is ∙ larger_faster own next own_in_range next_in_range h

      pub smaller_then_slower : own < next → (remark_in r).tempo ≡ Slower (percent_of own next)
      smaller_then_slower h = tempo_is ∙ smaller_slower own next own_in_range next_in_range h

abbrev Known : Outcome Remark → Type 0
Known o = T (not (is_nan (value_in no_remark o).bar.percentage))

-- whatever the text and i are, the percentage is no NaN, so its bits are defined
pub remark_known : (text : List ℕ) (i : ℕ) (r : Answer) → Remarks text i r → T (not (is_nan (remark_in r).bar.percentage))
remark_known text i r e = go (read_sheet text) refl
  where
    go : (o : Outcome TimedSheet) → read_sheet text ≡ o → Known (outcome_of r)
    go (refused k n) q = subst Known (sym (remark_refused text i r e k n q)) (unfold is_nan in tt)
    go (accepted x) q = elim (dec_le x.sheet.playing.bars (i + 1)) [
      | yes h ↦ subst Known (sym (remark_last text i r e x q h)) (unfold is_nan in tt)
      | no h ↦
          subst Known (sym (remark_inside text i r e x q (omega (arith, h))))
          (percentage_known (lasting x.timing i) (lasting x.timing (i + 1)))
    ]

-- the bars of a plain sheet last what its `45` line says
plain_lasting : (text : List ℕ) (x : TimedSheet) → read_sheet text ≡ accepted x → is_tapped (playing_line (lines text)) ≡ false
    → (b : ℕ) → b < x.sheet.playing.bars → lasting x.timing b ≡ four (playing_line (lines text)) 2
unfolding even_of
plain_lasting text x q plain b inside =
    let l = playing_line (lines text) in
    let is : x.timing ≡ even_lines (byte l 1) (four l 2) =
    timing_read text x q ∙ ap (λ t. cond t (record { bar_lines = taps_of (lines text) }) (even_of l)) plain in
    let count = (good_timing text x q).count in
    let many = ap (λ (t : Timing). length t.bar_lines) is ∙ even_count (byte l 1) (four l 2) in
    let begins = even_at (byte l 1) (four l 2) b (omega (arith, count, many, inside)) in
    let ends = even_at (byte l 1) (four l 2) (b + 1) (omega (arith, count, many, inside)) in
    ap (λ (t : Timing). lasting t b) is ∙ omega (arith, begins, ends)

abbrev IsSteady : Outcome Remark → Type 0
IsSteady o = ((value_in no_remark o).tempo ≡ Steady) × ((value_in no_remark o).bar.percentage ≡ none)

-- "a plain sheet is steady throughout": behind every bar, and its two durations are those of the `45` line
module _ (text : List ℕ) (i : ℕ) (r : Answer) (e : Remarks text i r) (plain : is_tapped (playing_line (lines text)) ≡ false) where
  pub plain_durations : (x : TimedSheet) → read_sheet text ≡ accepted x → i + 1 < x.sheet.playing.bars
      → outcome_of r ≡ remark_as (record_of (four (playing_line (lines text)) 2) (four (playing_line (lines text)) 2))
  plain_durations x q inside =
      let a1 = plain_lasting text x q plain i (omega (arith, inside)) in
      let a2 = plain_lasting text x q plain (i + 1) inside in
      remark_inside text i r e x q inside ∙ (λ j. remark_as (record_of (a1 j) (a2 j)))

  pub plain_steady : ((remark_in r).tempo ≡ Steady) × ((remark_in r).bar.percentage ≡ none)
  plain_steady = go (read_sheet text) refl
    where
      d : ℕ
      d = four (playing_line (lines text)) 2

      go : (o : Outcome TimedSheet) → read_sheet text ≡ o → IsSteady (outcome_of r)
      go (refused k n) q = subst IsSteady (sym (remark_refused text i r e k n q)) (equal_steady 0, refl)
      go (accepted x) q = elim (dec_le x.sheet.playing.bars (i + 1)) [
        | yes h ↦ subst IsSteady (sym (remark_last text i r e x q h)) (equal_steady 0, refl)
        | no h ↦
            subst IsSteady (sym (plain_durations x q (omega (arith, h))))
            (equal_steady d, ap percent_in (equal_steady d))
      ]

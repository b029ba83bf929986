-- The refusals of tapped sheets (document 02, (vi)) as laws, whatever has been read: 17 and 3 for a line that cannot stand where it does,
-- 18 for a step, 19 and 7 for an onset outside the bar lines.
use Rattle.std.specs.Prelude.{ℕ, ◌+◌, ◌-◌, ◌<◌, ◌≤◌, ◌≡◌, Bool, true, false, List, [], ◌⊎◌, length}
use Rattle.std.proofs.Common.{sym, ◌∙◌, inl, inr, arith}
use Rattle.std.proofs.Math.ListN.{get_or}
use borrow.Author.Tests.{eq-eqb, ne_eqb, le-leb, lt-leb}
use Rattle.sheet.specs.Sheet.{Grammar, Playing, Timing, line_at, end_of}
use Rattle.sheet.specs.Outcome.{refused}
use Rattle.sheet.specs.Reading.{byte, four, step_refusal, tap_refusal, onset_form, onset_refusal, other_refusal, in_taps, in_onsets, refusal}
use Rattle.sheet.specs.Reading.{read_lines}
use Rattle.sheet.specs.Laws.{end_in_taps}
use Rattle.sheet.specs.PlayingLaws.{moment_early, moment_past}

-- where a tap is to stand
module _ (g : Grammar) (bars : ℕ) (before l : List ℕ) where
  pub tap_missing : (byte l 0 ≡ 0x42 → ⊥) → refusal (in_taps g bars before) l ≡ 17
  unfolding refusal
  tap_missing f = simp (ne_eqb (byte l 0) 0x42 f)

  pub step_refused : byte l 0 ≡ 0x42 → length l ≡ 5 → (length before ≡ 0 → ⊥)
      → (four l 1 < get_or before (length before - 1) 0 + 1000) ⊎ (get_or before (length before - 1) 0 + 60_000_000 < four l 1)
      → refusal (in_taps g bars before) l ≡ 18
  unfolding refusal tap_refusal step_refusal
  step_refused kind count some (inl near) =
      simp (eq-eqb (byte l 0) 0x42 kind, eq-eqb (length l) 5 count, ne_eqb (length before) 0 some, lt-leb _ _ near)
  step_refused kind count some (inr far) =
      let enough : get_or before (length before - 1) 0 + 1000 ≤ four l 1 = omega (arith, far) in
      simp (eq-eqb (byte l 0) 0x42 kind, eq-eqb (length l) 5 count, ne_eqb (length before) 0 some, le-leb _ _ enough, lt-leb _ _ far)

pub end_among_taps : (g : Grammar) (bars : ℕ) (before : List ℕ) (n : ℕ) → read_lines (in_taps g bars before) n [] ≡ refused 17 n
end_among_taps = end_in_taps

-- behind the taps, or in a plain sheet
pub tap_behind : (g : Grammar) (timing : Timing) (p : Playing) (last : ℕ) (l : List ℕ) → byte l 0 ≡ 0x42
    → (refusal (in_onsets g true timing p last) l ≡ 17) × (refusal (in_onsets g false timing p last) l ≡ 3)
unfolding refusal other_refusal
tap_behind g timing p last l kind =
    let no-onset = ne_eqb (byte l 0) 0x4E (λ z. let f : ◌≡◌ {A = ℕ} 0x42 0x4E = sym kind ∙ z in omega arith) in
    (simp (no-onset, eq-eqb (byte l 0) 0x42 kind), simp no-onset)

-- an onset of the right form whose time does not fall
module _ (g : Grammar) (tapped : Bool) (timing : Timing) (p : Playing) (last : ℕ) (l : List ℕ) (kind : byte l 0 ≡ 0x4E)
    (formed : onset_form l ≡ 0) (rises : last ≤ four l 1) where
  pub before_first : four l 1 < line_at timing 0 → refusal (in_onsets g tapped timing p last) l ≡ 19
  unfolding refusal onset_refusal
  before_first h = simp (eq-eqb (byte l 0) 0x4E kind, formed, moment_early p.bars timing last (four l 1) rises h)

  pub past_last : line_at timing 0 ≤ four l 1 → end_of p.bars timing ≤ four l 1 → refusal (in_onsets g tapped timing p last) l ≡ 7
  unfolding refusal onset_refusal
  past_last begins h = simp (eq-eqb (byte l 0) 0x4E kind, formed, moment_past p.bars timing last (four l 1) rises begins h)

-- Laws of the lines of a playing, which proofs cite instead of the definitions' text: what a refusal 0 says of the `45` line, of a tap and
-- of an onset, and how a moment is refused.
use Rattle.std.specs.Prelude.{ℕ, ◌+◌, ◌-◌, ◌*◌, ◌<◌, ◌≤◌, ◌≡◌, Bool, ◌&&◌, List, length, get_or, leb}
use Rattle.std.proofs.Math.Path.{refl}
use Rattle.std.proofs.Common.{sym}
use Rattle.std.proofs.Math.Bool.{true, false, cond}
use Rattle.std.proofs.lemmas.Bool.{false≢true}
use native.Mathlib.Omega.{arith}
use Rattle.std.proofs.Math.Dec.{eqb, ltb}
use borrow.Author.Tests.{ne_eqb, le-leb, lt-leb, le-ltb, leb-true, ltb-true}
use Rattle.sheet.specs.Sheet.{Grammar, Playing, Timing, bar_units, line_at, end_of, unit_in, bar_of, in_bar}
use Rattle.sheet.specs.Reading.{demand, byte, four, playing_refusal, is_tapped, step_refusal, tap_refusal, onset_form, moment_refusal}
use Rattle.sheet.specs.Reading.{room_refusal, onset_refusal, other_refusal, in_taps, in_onsets, refusal}
use Rattle.sheet.specs.Laws.{demand_zero, cond_zero, first_zero}

pub record PlayingPassed (l : List ℕ) : Type 0 where
  pub one : 1 ≤ byte l 1
  pub sixty_four : byte l 1 ≤ 64
  pub even : is_tapped l ≡ false → (1000 ≤ four l 2) × (four l 2 ≤ 60_000_000)

pub playing_passed : (l : List ℕ) → playing_refusal l ≡ 0 → PlayingPassed l
unfolding playing_refusal
playing_passed l e =
    let e₁ = (demand_zero (eqb (length l) 6) 3 _ e).1 in
    let e₂ = demand_zero (leb 1 (byte l 1)) 4 _ e₁ in
    let e₃ = demand_zero (leb (byte l 1) 64) 4 _ e₂.1 in
    record { one = leb-true _ _ e₂.0; sixty_four = leb-true _ _ e₃.0; even = λ plain. go (is_tapped l) plain e₃.1 }
  where
    go : (tapped : Bool) → tapped ≡ false
        → cond tapped 0 (demand (leb 1000 (four l 2)) 5 (demand (leb (four l 2) 60_000_000) 5 0)) ≡ 0
        → (1000 ≤ four l 2) × (four l 2 ≤ 60_000_000)
    go true plain z = absurd (false≢true (sym plain))
    go false plain z =
        let e₄ = demand_zero (leb 1000 (four l 2)) 4 _ z in
        let e₅ = demand_zero (leb (four l 2) 60_000_000) 4 0 e₄.1 in
        (leb-true _ _ e₄.0, leb-true _ _ e₅.0)

-- a tap that is not refused has a step of a bar's length from the one before
pub tap_passed : (taps l : List ℕ) → tap_refusal taps l ≡ 0 → 0 < length taps
    → (get_or taps (length taps - 1) 0 + 1000 ≤ four l 1) × (four l 1 ≤ get_or taps (length taps - 1) 0 + 60_000_000)
unfolding tap_refusal step_refusal
tap_passed taps l e some = go (eqb (length taps) 0) (ne_eqb (length taps) 0 (λ z. omega arith)) (demand_zero (eqb (length l) 5) 3 _ e).1
  where
    before : ℕ
    before = get_or taps (length taps - 1) 0

    go : (c : Bool) → c ≡ false → cond c 0 (step_refusal before (four l 1)) ≡ 0
        → (before + 1000 ≤ four l 1) × (four l 1 ≤ before + 60_000_000)
    go true q z = absurd (false≢true (sym q))
    go false q z =
        let e₁ = demand_zero (leb (before + 1000) (four l 1)) 17 _ z in
        let e₂ = demand_zero (leb (four l 1) (before + 60_000_000)) 17 0 e₁.1 in
        (leb-true _ _ e₁.0, leb-true _ _ e₂.0)

pub record MomentPassed (bars : ℕ) (timing : Timing) (last t : ℕ) : Type 0 where
  pub rises : last ≤ t
  pub begins : line_at timing 0 ≤ t
  pub ends : t < end_of bars timing
  pub inside : unit_in timing t < bars * bar_units

pub moment_passed : (bars : ℕ) (timing : Timing) (last t : ℕ) → moment_refusal bars timing last t ≡ 0 → MomentPassed bars timing last t
unfolding moment_refusal
moment_passed bars timing last t e =
    let e₁ = demand_zero (leb last t) 5 _ e in
    let e₂ = demand_zero (leb (line_at timing 0) t) 18 _ e₁.1 in
    let e₃ = demand_zero (ltb t (end_of bars timing)) 6 _ e₂.1 in
    let e₄ = demand_zero (ltb (unit_in timing t) (bars * bar_units)) 6 0 e₃.1 in
    record { rises = leb-true _ _ e₁.0; begins = leb-true _ _ e₂.0; ends = ltb-true _ _ e₃.0; inside = ltb-true _ _ e₄.0 }

-- a moment that does not fall: before the first bar line; from it on, and at or past the last bar line, or its unit at or past the end
module _ (bars : ℕ) (timing : Timing) (last t : ℕ) (rises : last ≤ t) where
  pub moment_early : t < line_at timing 0 → moment_refusal bars timing last t ≡ 19
  unfolding moment_refusal
  moment_early h = simp (le-leb last t rises, lt-leb _ _ h)

  module _ (begins : line_at timing 0 ≤ t) where
    pub moment_past : end_of bars timing ≤ t → moment_refusal bars timing last t ≡ 7
    unfolding moment_refusal
    moment_past h = simp (le-leb last t rises, le-leb _ _ begins, le-ltb _ _ h)

    pub moment_late : bars * bar_units ≤ unit_in timing t → moment_refusal bars timing last t ≡ 7
    unfolding moment_refusal
    moment_late late = go (ltb t (end_of bars timing)) refl
      where
        go : (c : Bool) → ltb t (end_of bars timing) ≡ c → moment_refusal bars timing last t ≡ 7
        go true e = simp (le-leb last t rises, le-leb _ _ begins, e, le-ltb _ _ late)
        go false e = simp (le-leb last t rises, le-leb _ _ begins, e)

pub room_passed : (before here : ℕ) → room_refusal before here ≡ 0 → (before < 512) × (here < 32)
unfolding room_refusal
room_passed before here e =
    let e₁ = demand_zero (ltb before 512) 7 _ e in
    let e₂ = demand_zero (ltb here 32) 7 0 e₁.1 in
    (ltb-true _ _ e₁.0, ltb-true _ _ e₂.0)

form_passed : (l : List ℕ) → onset_form l ≡ 0 → byte l 5 ≤ 127
unfolding onset_form
form_passed l e = leb-true _ _ (demand_zero (leb (byte l 5) 127) 4 _ (demand_zero (eqb (length l) 7) 3 _ e).1).0

pub record OnsetPassed (timing : Timing) (p : Playing) (last : ℕ) (l : List ℕ) : Type 0 where
  pub pitch : byte l 5 ≤ 127
  pub moment : MomentPassed p.bars timing last (four l 1)
  pub room : length p.onsets < 512
  pub few : in_bar (bar_of (unit_in timing (four l 1))) p.onsets < 32

pub onset_passed : (timing : Timing) (p : Playing) (last : ℕ) (l : List ℕ) → onset_refusal timing p last l ≡ 0
    → OnsetPassed timing p last l
unfolding onset_refusal
onset_passed timing p last l e =
    let e₁ = first_zero (onset_form l) _ e in
    let e₂ = first_zero (moment_refusal p.bars timing last (four l 1)) _ e₁.1 in
    let room = room_passed _ _ e₂.1 in
    record {
      pitch = form_passed l e₁.0;
      moment = moment_passed p.bars timing last (four l 1) e₂.0;
      room = room.0;
      few = room.1;
    }

-- a line among the taps, and among the onsets, that is not refused is of that kind
pub tap_line_lem : (g : Grammar) (bars : ℕ) (taps l : List ℕ) → refusal (in_taps g bars taps) l ≡ 0
    → (eqb (byte l 0) 0x42 ≡ true) × (tap_refusal taps l ≡ 0)
unfolding refusal
tap_line_lem g bars taps l e = cond_zero (eqb (byte l 0) 0x42) (tap_refusal taps l) 16 e

module _ (g : Grammar) (tapped : Bool) (timing : Timing) (p : Playing) (last : ℕ) (l : List ℕ) where
  pub onset_line : refusal (in_onsets g tapped timing p last) l ≡ 0
      → (eqb (byte l 0) 0x4E ≡ true) × (onset_refusal timing p last l ≡ 0)
  unfolding refusal other_refusal
  onset_line e = go (eqb (byte l 0) 0x4E) (tapped && eqb (byte l 0) 0x42) e
    where
      go : (c d : Bool) → cond c (onset_refusal timing p last l) (cond d 17 3) ≡ 0 → (c ≡ true) × (onset_refusal timing p last l ≡ 0)
      go true d z = (refl, z)
      go false true z = let f : ⊥ = omega arith in absurd f
      go false false z = let f : ⊥ = omega arith in absurd f

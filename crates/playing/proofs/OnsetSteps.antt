-- Steps of reading onsets: the demands of a line one after another, and the count of the last bar, which is all that the demand on a bar's
-- onsets needs. Assumes nothing.
use Prim.Native.Nat.{ℕ, ◌+◌, ◌<◌, ◌≤◌}
use mathlib.Core.Path.{◌≡◌, refl, sym, ap, ◌∙◌}
use mathlib.Core.Bool.{Bool, cond}
use mathlib.Core.List.{List, [], ◌∷◌}
use Rattle.std.proofs.Common.{Result, Ok, Err}
use Rattle.sheet.specs.declared.refusal.Refusal.{Refusal}
use native.Mathlib.Omega.{arith}
use native.Mathlib.Decide.{ℕ_discrete}
use lib.ListN.{length}
use lib.Dec.{eqb}
use borrow.Author.Tests.{eq-eqb, ne_eqb}
use Rattle.slices.specs.Every.{Every, every_weaken}
use Rattle.playing.specs.declared.onset.Latest.{Latest}
use Rattle.playing.specs.declared.onset.OnsetStep.{OnsetStep}
use Rattle.sheet.specs.Sheet.{Onset, Grammar, Playing, Timing, unit_in, bar_of, in_bar}
use Rattle.sheet.specs.Reading.{first, byte, four, onset_form, moment_refusal, room_refusal, onset_refusal, onset_of, with_onset}
use Rattle.sheet.specs.Reading.{other_refusal}
use Rattle.sheet.specs.Reading.{in_onsets, refusal}
use Rattle.sheet.specs.Clock.{div_mono}
use Rattle.sheet.proofs.BarLines.{units_up}
use Rattle.sheet.specs.Laws.{first_met, first_failed}
use Rattle.sheet.specs.PlayingLaws.{MomentPassed, moment_passed}
use Rattle.playing.specs.Clauses.{latest_of, run_in, OnsetStepped, StepPlaced}
use Rattle.sheet.specs.Held.{micros}
use Rattle.sheet.specs.SoFar.{GoodSoFar}
use Rattle.sheet.proofs.GoodLines.{in_bar_more}

-- no onset is in a bar behind all of theirs
in_bar_none : (b : ℕ) (os : List Onset) → Every (λ (o : Onset). bar_of o.unit < b) os → in_bar b os ≡ 0
unfolding in_bar
in_bar_none b [] h = refl
in_bar_none b (o ∷ os) h =
    rw (ne_eqb (bar_of o.unit) b (λ e. omega (arith, h.0)), in_bar_none b os h.1)

module _ (timing : Timing) (p : Playing) (last t : ℕ) (good : GoodSoFar timing p last)
    (passed : MomentPassed p.bars timing last t) where
  abbrev before : ℕ
  before = bar_of (unit_in timing last)

  abbrev bar : ℕ
  bar = bar_of (unit_in timing t)

  bar_up : before ≤ bar
  bar_up =
      div_mono 20160 (omega arith)
      (units_up p.bars timing good.time last t good.onsets.one passed.rises passed.begins passed.ends)

  -- the onsets in the bar of a later time: those of the last bar if it is the same, else none
  pub run_is : run_in before (in_bar before p.onsets) bar ≡ in_bar bar p.onsets
  unfolding run_in
  run_is = go (ℕ_discrete bar before)
    where
      go : Dec (bar ≡ before) → cond (eqb bar before) (in_bar before p.onsets) 0 ≡ in_bar bar p.onsets
      go (yes e) = simp (eq-eqb bar before e) (ap (λ (x : ℕ). in_bar x p.onsets) (sym e))
      go (no e) =
          let earlier = every_weaken (λ (o : Onset). o.unit ≤ unit_in timing last) (λ (o : Onset). bar_of o.unit < bar)
          (λ o m. let k = div_mono 20160 (omega arith) m in let b = bar_up in omega (arith, e)) p.onsets good.before in
          simp (ne_eqb bar before e) (sym (in_bar_none bar p.onsets earlier))

-- one onset more is one more in its bar
pub run_more : (timing : Timing) (p : Playing) (l : List ℕ)
    → in_bar (bar_of (unit_in timing (four l 1))) (with_onset p (onset_of timing l)).onsets
    ≡ in_bar (bar_of (unit_in timing (four l 1))) p.onsets + 1
unfolding with_onset onset_of
run_more timing p l =
    in_bar_more (bar_of (unit_in timing (four l 1))) p.onsets (onset_of timing l)
    ∙ simp (eq-eqb (bar_of (unit_in timing (four l 1))) (bar_of (unit_in timing (four l 1))) refl)

module _ (g : Grammar) (tapped : Bool) (timing : Timing) (p : Playing) (last : ℕ) (l : List ℕ) where
  -- the refusal of a line of another kind
  pub other_line : (byte l 0 ≡ 0x4E → ⊥) → refusal (in_onsets g tapped timing p last) l ≡ other_refusal tapped l
  unfolding refusal
  other_line e = simp (ne_eqb (byte l 0) 0x4E e)

  -- a `4E` line, whose form, moment and room are asked in this order
  module _ (kind : byte l 0 ≡ 0x4E) where
    abbrev moment : ℕ
    moment = moment_refusal p.bars timing last (four l 1)

    abbrev room : ℕ
    room = room_refusal (length p.onsets) (in_bar (bar_of (unit_in timing (four l 1))) p.onsets)

    onset_line : refusal (in_onsets g tapped timing p last) l ≡ first (onset_form l) (first moment room)
    unfolding refusal onset_refusal
    onset_line = simp (eq-eqb (byte l 0) 0x4E kind)

    pub by_form : (onset_form l ≡ 0 → ⊥) → refusal (in_onsets g tapped timing p last) l ≡ onset_form l
    by_form f = onset_line ∙ first_failed (onset_form l) _ f

    module _ (formed : onset_form l ≡ 0) where
      pub by_moment : (moment ≡ 0 → ⊥) → refusal (in_onsets g tapped timing p last) l ≡ moment
      by_moment f = onset_line ∙ first_met (onset_form l) _ formed ∙ first_failed moment _ f

      pub by_room : moment ≡ 0 → refusal (in_onsets g tapped timing p last) l ≡ room
      by_room e = onset_line ∙ first_met (onset_form l) _ formed ∙ first_met moment _ e

  -- the numbers that the code holds are those of the playing
  module _ (good : GoodSoFar timing p last) (bars n : ℕ) (s : Latest) (eb : bars ≡ p.bars) (en : n ≡ length p.onsets)
      (es : s ≡ latest_of timing p last) where
    -- of the moment
    pub moment_is : (t : ℕ) → t ≡ four l 1
        → moment_refusal bars timing s.time.0 t ≡ moment_refusal p.bars timing last (four l 1)
    moment_is t et = λ j. moment_refusal (eb j) timing (es j).time.0 (et j)

    -- of the onsets in its bar
    pub here_is : (t u here : ℕ) → t ≡ four l 1 → moment_refusal bars timing s.time.0 t ≡ 0 → u ≡ unit_in timing t
        → here ≡ run_in s.bar s.run (bar_of u) → here ≡ in_bar (bar_of (unit_in timing (four l 1))) p.onsets
    here_is t u here et met eu eh =
        let passed = moment_passed p.bars timing last (four l 1) (sym (moment_is t et) ∙ met) in
        eh
        ∙ (λ j. run_in (es j).bar (es j).run (bar_of ((eu ∙ ap (unit_in timing) et) j)))
        ∙ run_is timing p last (four l 1) good passed

    -- a line of the right form, whose moment is not refused, by the room for it
    pub step_placed : byte l 0 ≡ 0x4E → onset_form l ≡ 0 → (t u : ℕ) → t ≡ four l 1
        → moment_refusal bars timing s.time.0 t ≡ 0 → u ≡ unit_in timing t → (r : Result OnsetStep Refusal) → StepPlaced n s t u r
        → OnsetStepped g tapped timing p last l r
    step_placed kind formed t u et met eu = go
      where
        here : run_in s.bar s.run (bar_of u) ≡ in_bar (bar_of (unit_in timing (four l 1))) p.onsets
        here = here_is t u _ et met eu refl

        unit : u ≡ unit_in timing (four l 1)
        unit = eu ∙ ap (unit_in timing) et

        room_is : room_refusal n (run_in s.bar s.run (bar_of u)) ≡ refusal (in_onsets g tapped timing p last) l
        room_is = (λ j. room_refusal (en j) (here j)) ∙ sym (by_room kind formed (sym (moment_is t et) ∙ met))

        go : (r : Result OnsetStep Refusal) → StepPlaced n s t u r → OnsetStepped g tapped timing p last l r
        go (Ok r) h =
            record {
              number = h.number ∙ room_is;
              unit = h.unit ∙ unit;
              latest =
                  h.latest
                  ∙ (λ j. record {
                    time = micros (et j);
                    bar = bar_of (unit j);
                    run = (ap (λ (k : ℕ). k + 1) here ∙ sym (run_more timing p l)) j;
                  });
            }
        go (Err e) h = h ∙ room_is

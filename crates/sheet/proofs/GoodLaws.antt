-- Every accepted text means a good sheet (`good`): what has been read is good at each step, and so at the end.
use Rattle.std.specs.Prelude.{ℕ, zero, suc, ◌+◌, ◌<◌, ◌≤◌, ◌≡◌, refl, Bool, true, false, cond, List, [], ◌∷◌, length, ltb}
use Rattle.std.proofs.Common.{sym, subst, arith, ltb-true}
use Rattle.std.proofs.Math.Decide.{dec_le}
use Rattle.slices.specs.Every.{Every}
use Rattle.hextext.specs.Text.{lines, bad_line}
use Rattle.hextext.specs.Laws.{lines_small}
use Rattle.sheet.specs.Sheet.{TimedSheet}
use Rattle.sheet.specs.Outcome.{Outcome, refused, accepted}
use Rattle.sheet.specs.Reading.{Progress, nothing, in_rules, in_taps, in_onsets, refusal, after, at_end, read_lines, read_sheet}
use Rattle.sheet.specs.Good.{GoodTiming, Good}
use Rattle.sheet.specs.SoFar.{GoodProgress}
use Rattle.sheet.specs.Laws.{read_on, read_stop, too_long, ill_formed, well_formed}
use Rattle.sheet.proofs.GoodBars.{line_small}
use Rattle.sheet.proofs.GoodLines.{good_after}

-- what holds of an accepted text: of its sheet and of its timing
abbrev GoodText : TimedSheet → Type 0
GoodText x = Good x.sheet × GoodTiming x.sheet.playing.bars x.timing

abbrev Accepted : Outcome TimedSheet → Type 0
Accepted (refused k n) = Unit {0}
Accepted (accepted x) = GoodText x

good_end : (r : Progress) (n : ℕ) → GoodProgress r → Accepted (at_end r n)
unfolding at_end
good_end nothing n h = tt
good_end (in_rules g) n h = tt
good_end (in_taps g bars taps) n h = tt
good_end (in_onsets g tapped timing p last) n h = go (ltb 0 (length p.onsets)) refl
  where
    go : (k : Bool) → ltb 0 (length p.onsets) ≡ k
        → Accepted (cond k (accepted (record { sheet = record { grammar = g; playing = p }; timing = timing })) (refused 3 n))
    go false q = tt
    go true q = (
      record {
        rules = h.0;
        some_rule = h.1;
        onsets = h.2.onsets;
        some_onset = ltb-true 0 (length p.onsets) q;
      },
      h.2.time,
    )

good_lines : (r : Progress) (n : ℕ) (ls : List (List ℕ)) → Every (Every (λ (x : ℕ). x < 256)) ls → GoodProgress r
    → Accepted (read_lines r n ls)
unfolding read_lines
good_lines r n [] s h = good_end r n h
good_lines r n (b ∷ ls) s h = go (refusal r b) refl (λ g. good_lines (after r b) (n + 1) ls s.1 g)
  where
    go : (k : ℕ) → refusal r b ≡ k
        → (GoodProgress (after r b) → Accepted (read_lines (after r b) (n + 1) ls)) → Accepted (read_lines r n (b ∷ ls))
    go zero q next =
        subst Accepted (sym (read_on r n b ls q)) (next (good_after r b (line_small b s.0) h q))
    go (suc k) q next = subst Accepted (sym (read_stop r n b ls (suc k) (sym q) (λ x. omega arith))) tt

-- whatever a text comes to
sheet_accepted : (t : List ℕ) → Accepted (read_sheet t)
sheet_accepted t = go (dec_le (length t) 16384)
  where
    formed : (k : ℕ) → k ≡ bad_line t → length t ≤ 16384 → Accepted (read_sheet t)
    formed zero q h = subst Accepted (sym (well_formed t h (sym q))) (good_lines nothing 1 (lines t) (lines_small t) tt)
    formed (suc k) q h = subst Accepted (sym (ill_formed t h (suc k) q (λ x. omega arith))) tt

    go : Dec (length t ≤ 16384) → Accepted (read_sheet t)
    go (yes h) = formed (bad_line t) refl h
    go (no h) = subst Accepted (sym (too_long t (omega arith))) tt

-- every accepted text means a good sheet, and its timing is good
pub good : (t : List ℕ) (x : TimedSheet) → read_sheet t ≡ accepted x → Good x.sheet
good t x e = (subst Accepted e (sheet_accepted t)).0

pub good_timing : (t : List ℕ) (x : TimedSheet) → read_sheet t ≡ accepted x → GoodTiming x.sheet.playing.bars x.timing
good_timing t x e = (subst Accepted e (sheet_accepted t)).1

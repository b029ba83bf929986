-- The steps of `write_text`: the head's line at the front of the score, and the leaves behind it.
use Prim.Native.Nat.{ℕ, ◌+◌, ◌≤◌}
use mathlib.Core.Path.{◌≡◌, refl, sym, ap, ◌∙◌}
use mathlib.Core.Bool.{true, cond}
use mathlib.Core.List.{List, ◌++◌}
use native.Mathlib.Omega.{arith}
use borrow.Author.Tests.{le-leb}
use lib.ListN.{length, length-append}
use Rattle.slices.specs.Over.{over, over_from, over-append, length-over}
use Rattle.hextext.specs.Written.{line_text, has_room, LineWritten}
use Rattle.sheet.specs.declared.table.PlayingTable.{PlayingTable}
use Rattle.sheet.specs.Sheet.{Sheet}
use Rattle.sheet.specs.Held.{playing_table}
use Rattle.trees.specs.Leaves.{entries_of}
use Rattle.expansions.specs.Tables.{unit_cells}
use Rattle.score.specs.Score.{head_line, score_text, entry_lines, tree_text}
use Rattle.score.specs.Clauses.{pitch_cells, BarsPre, BarsWritten, TextPre, TextWritten}

module _ {s : Sheet} {cells : List ℕ} {pl : PlayingTable} {list : List ℕ} {R D total : ℕ} {score : List ℕ}
    (h : TextPre s cells pl list R D total score) where
  abbrev head_text : List ℕ
  head_text = line_text (head_line s.playing.bars total R D)

  abbrev leaves_text : List ℕ
  leaves_text = entry_lines (entries_of s list)

  whole : tree_text s list R D total ≡ head_text ++ leaves_text
  unfolding score_text
  whole = refl

  size : length head_text + length leaves_text ≤ length score
  size = omega (arith, h.room, ap length whole, length-append head_text leaves_text)

  bars_are : pl.bars ≡ s.playing.bars
  unfolding playing_table
  bars_are = ap (λ (x : PlayingTable). x.bars) h.playing

  pub few_onsets : pl.count ≤ 512
  unfolding playing_table
  few_onsets = omega (arith, ap (λ (x : PlayingTable). x.count) h.playing, h.good.most)

  pitches_are : pl.pitches ≡ pitch_cells s.playing
  unfolding playing_table pitch_cells
  pitches_are = ap (λ (x : PlayingTable). x.pitches) h.playing

  module _ (head : List ℕ) (is : head ≡ head_line pl.bars total R D) (to : ℕ) (score₁ : List ℕ)
      (w : LineWritten head 0 score score₁ to) where
    fits : has_room (head_line s.playing.bars total R D) 0 score ≡ true
    unfolding has_room
    fits = le-leb (0 + length head_text) (length score) (omega (arith, size))

    written : LineWritten (head_line s.playing.bars total R D) 0 score score₁ to
    written = rw (is ∙ ap (λ b. head_line b total R D) bars_are) at w

    head_text_lem : score₁ ≡ over head_text score
    unfolding over_from
    head_text_lem = written.text ∙ ap (λ b. cond b (over_from 0 head_text score) score) fits

    head_end : to ≡ length head_text
    head_end =
        let e = written.end ∙ ap (λ b. cond b (0 + length head_text) 0) fits in omega (arith, e)

    pub bars_given : (us : List ℕ) → us ≡ unit_cells s.playing → BarsPre s cells us pl.pitches list pl.bars to score₁
    bars_given us e =
        record {
          rules = h.rules;
          onsets = record { units = record { good = h.good; cells = e }; pitches = pitches_are };
          bars = bars_are;
          valid = h.valid;
          room = omega (arith, size, head_end, ap length head_text_lem, length-over head_text score);
        }

    pub text_done : (r : ℕ) (score₂ : List ℕ) → BarsWritten s list to r score₁ score₂ → TextWritten s list R D total r score score₂
    text_done r score₂ b =
        record {
          text =
              b.text ∙ ap (λ i. over_from i leaves_text score₁) head_end ∙ ap (over_from (length head_text) leaves_text) head_text_lem
              ∙ over-append head_text leaves_text score (omega (arith, size)) ∙ ap (λ xs. over xs score) (sym whole);
          end = omega (arith, b.end, head_end, ap length whole, length-append head_text leaves_text);
        }

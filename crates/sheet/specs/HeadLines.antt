-- Texts whose first line has five bytes: with other bytes in a's field they are refused alike, or mean the same sheet but for a
-- (`headed_alike`). The head's refusal does not look at the field, and what is read behind the head does not depend on a.
use Prim.Native.Nat.{ℕ, zero, suc, ◌+◌, ◌*◌, ◌<◌, ◌≤◌}
use Rattle.std.specs.Prelude.{◌≡◌, Bool, eqb, ltb, length}
use Rattle.std.proofs.Math.Path.{refl, ap}
use Rattle.std.proofs.Common.{sym, ◌∙◌, arith}
use Rattle.std.proofs.Math.Bool.{true, false, cond}
use mathlib.Core.List.{List, [], ◌∷◌, ◌++◌}
use Rattle.std.proofs.Math.Decide.{dec_le}
use Rattle.slices.specs.Every.{Every, every_at}
use Rattle.hextext.specs.Text.{first, bad_from, bad_line, lines}
use Rattle.hextext.specs.Written.{pairs_of, line_text}
use Rattle.hextext.specs.WrittenLaws.{read_back}
use Rattle.hextext.specs.Formed.{line_formed}
use Rattle.sheet.specs.Sheet.{Grammar, Timing, TimedSheet, no_playing}
use Rattle.sheet.specs.Multiplier.{grammar_with, with_multiplier}
use Rattle.sheet.specs.Outcome.{Outcome, refused, accepted, and_then}
use Rattle.sheet.specs.Reading.{byte, two, four, head_refusal, head_of, rule_of, with_rule, playing_of, is_tapped, even_of, Progress}
use Rattle.sheet.specs.Reading.{nothing, in_rules, in_taps, in_onsets, refusal, after_head, after_tap, after, at_end, read_lines, read_sheet}
use Rattle.sheet.specs.Laws.{read_on, read_stop, too_long, ill_formed, well_formed}

-- what a text means with another multiplier; a refusal stays as it is
abbrev pub meaning_with : ℕ → Outcome TimedSheet → Outcome TimedSheet
meaning_with a o = and_then o (λ x. accepted (record { sheet = with_multiplier a x.sheet; timing = x.timing }))

module _ (a : ℕ) where
  abbrev progress_with : Progress → Progress
  progress_with nothing = nothing
  progress_with (in_rules g) = in_rules (grammar_with a g)
  progress_with (in_taps g bars taps) = in_taps (grammar_with a g) bars taps
  progress_with (in_onsets g tapped timing p last) = in_onsets (grammar_with a g) tapped timing p last

  -- the head has been read
  abbrev Begun : Progress → Type 0
  Begun nothing = ⊥
  Begun (in_rules g) = Unit {0}
  Begun (in_taps g bars taps) = Unit {0}
  Begun (in_onsets g tapped timing p last) = Unit {0}

  same_refusal : (r : Progress) (l : List ℕ) → refusal (progress_with r) l ≡ refusal r l
  unfolding refusal
  same_refusal nothing l = refl
  same_refusal (in_rules g) l = refl
  same_refusal (in_taps g bars taps) l = refl
  same_refusal (in_onsets g tapped timing p last) l = refl

  -- what has been read behind a line is the same but for a
  abbrev Same : (with own : Progress) → Type 0
  Same with own = (with ≡ progress_with own) × Begun own

  same_after_head : (g : Grammar) (l : List ℕ) → Same (after_head (grammar_with a g) l) (after_head g l)
  unfolding after_head
  same_after_head g l = go (is_tapped l)
    where
      go : (c : Bool)
          → Same (cond c (in_taps (grammar_with a g) (byte l 1) []) (in_onsets (grammar_with a g) false (even_of l) (playing_of l) 0))
          (cond c (in_taps g (byte l 1) []) (in_onsets g false (even_of l) (playing_of l) 0))
      go true = (refl, tt)
      go false = (refl, tt)

  same_after_tap : (g : Grammar) (bars : ℕ) (taps : List ℕ) → Same (after_tap (grammar_with a g) bars taps) (after_tap g bars taps)
  unfolding after_tap
  same_after_tap g bars taps = go (ltb bars (length taps))
    where
      timing : Timing
      timing = record { bar_lines = taps }

      go : (c : Bool)
          → Same (cond c (in_onsets (grammar_with a g) true timing (no_playing bars) 0) (in_taps (grammar_with a g) bars taps))
          (cond c (in_onsets g true timing (no_playing bars) 0) (in_taps g bars taps))
      go true = (refl, tt)
      go false = (refl, tt)

  same_after : (r : Progress) (l : List ℕ) → Begun r → Same (after (progress_with r) l) (after r l)
  unfolding after with_rule
  same_after nothing l b = absurd b
  same_after (in_rules g) l b = go (eqb (byte l 0) 0x45)
    where
      go : (c : Bool)
          → Same (cond c (after_head (grammar_with a g) l) (in_rules (with_rule (grammar_with a g) (rule_of l))))
          (cond c (after_head g l) (in_rules (with_rule g (rule_of l))))
      go true = same_after_head g l
      go false = (refl, tt)
  same_after (in_taps g bars taps) l b = same_after_tap g bars (taps ++ (four l 1 ∷ []))
  same_after (in_onsets g tapped timing p last) l b = (refl, tt)

  same_end : (r : Progress) (n : ℕ) → at_end (progress_with r) n ≡ meaning_with a (at_end r n)
  unfolding at_end
  same_end nothing n = refl
  same_end (in_rules g) n = refl
  same_end (in_taps g bars taps) n = refl
  same_end (in_onsets g tapped timing p last) n = go (ltb 0 (length p.onsets))
    where
      go : (c : Bool)
          → cond c (accepted (record { sheet = record { grammar = grammar_with a g; playing = p }; timing = timing })) (refused 3 n)
          ≡ meaning_with a (cond c (accepted (record { sheet = record { grammar = g; playing = p }; timing = timing })) (refused 3 n))
      go true = refl
      go false = refl

  same_lines : (r : Progress) (n : ℕ) (ls : List (List ℕ)) → Begun r
      → read_lines (progress_with r) n ls ≡ meaning_with a (read_lines r n ls)
  unfolding read_lines
  same_lines r n [] b = same_end r n
  same_lines r n (l ∷ ls) b =
      go (refusal r l) refl (same_lines (after r l) (n + 1) ls (same_after r l b).1)
    where
      go : (k : ℕ) → refusal r l ≡ k
          → read_lines (progress_with (after r l)) (n + 1) ls ≡ meaning_with a (read_lines (after r l) (n + 1) ls)
          → read_lines (progress_with r) n (l ∷ ls) ≡ meaning_with a (read_lines r n (l ∷ ls))
      go zero e rest =
          read_on (progress_with r) n l ls (same_refusal r l ∙ e)
          ∙ ap (λ (x : Progress). read_lines x (n + 1) ls) (same_after r l b).0
          ∙ rest ∙ ap (meaning_with a) (sym (read_on r n l ls e))
      go (suc k) e rest =
          read_stop (progress_with r) n l ls (suc k) (sym (same_refusal r l ∙ e)) (λ x. omega arith)
          ∙ ap (meaning_with a) (sym (read_stop r n l ls (suc k) (sym e) (λ x. omega arith)))

-- ---- texts whose first line has five bytes

-- such a text without a's field: the bytes before it, and the text behind the line
pub record Around : Type 0 where
  pub kind : ℕ
  pub q : ℕ
  pub start : ℕ
  pub rest : List ℕ

module _ (c : Around) where
  -- the first line, the text, and that the line's bytes are bytes
  abbrev pub head : (x y : ℕ) → List ℕ
  head x y = c.kind ∷ c.q ∷ c.start ∷ x ∷ y ∷ []

  abbrev pub headed : (x y : ℕ) → List ℕ
  headed x y = line_text (head x y) ++ c.rest

  abbrev pub Small : (x y : ℕ) → Type 0
  Small x y = Every (λ (b : ℕ). b < 256) (head x y)

  -- other bytes in the field
  pub small_with : (x y x' y' : ℕ) → Small x y → x' < 256 → y' < 256 → Small x' y'
  small_with x y x' y' h i j = (h.0, (h.1.0, (h.1.1.0, (i, (j, tt)))))

  pub headed_lines : (x y : ℕ) → Small x y → lines (headed x y) ≡ head x y ∷ lines c.rest
  headed_lines x y h = read_back (head x y) c.rest (λ i m. every_at (λ (b : ℕ). b < 256) (head x y) i 0 h (omega arith))

  headed_bad : (x y : ℕ) → Small x y → bad_line (headed x y) ≡ bad_from 2 first c.rest
  unfolding bad_line line_text pairs_of
  headed_bad x y h = line_formed 1 (head x y) c.rest (omega arith) h

  module _ (x y x' y' : ℕ) where
    -- the number in the other field
    abbrev a : ℕ
    a = x' * 256 + y'

    same_length : length (headed x' y') ≡ length (headed x y)
    unfolding line_text pairs_of
    same_length = refl

    -- the head's refusal does not look at a, and what has been read behind it is the same but for a
    pub same_head : (ls : List (List ℕ))
        → read_lines nothing 1 (head x' y' ∷ ls) ≡ meaning_with a (read_lines nothing 1 (head x y ∷ ls))
    unfolding refusal head_refusal after head_of two
    same_head ls = go (refusal nothing (head x y)) refl
      where
        go : (r : ℕ) → refusal nothing (head x y) ≡ r
            → read_lines nothing 1 (head x' y' ∷ ls) ≡ meaning_with a (read_lines nothing 1 (head x y ∷ ls))
        go zero e =
            read_on nothing 1 (head x' y') ls e
            ∙ same_lines a (after nothing (head x y)) 2 ls tt
            ∙ ap (meaning_with a) (sym (read_on nothing 1 (head x y) ls e))
        go (suc r) e =
            read_stop nothing 1 (head x' y') ls (suc r) (sym e) (λ z. omega arith)
            ∙ ap (meaning_with a) (sym (read_stop nothing 1 (head x y) ls (suc r) (sym e) (λ z. omega arith)))

    -- so such texts are refused alike, or mean sheets that are the same but for a
    pub headed_alike : Small x y → Small x' y' → read_sheet (headed x' y') ≡ meaning_with a (read_sheet (headed x y))
    headed_alike h h' = elim (dec_le (length (headed x y)) 16384) [
      | no long ↦
          too_long (headed x' y') (omega (arith, same_length)) ∙ ap (meaning_with a) (sym (too_long (headed x y) (omega arith)))
      | yes fits ↦ formed fits (bad_from 2 first c.rest) refl
    ]
      where
        formed : length (headed x y) ≤ 16384 → (b : ℕ) → bad_from 2 first c.rest ≡ b
            → read_sheet (headed x' y') ≡ meaning_with a (read_sheet (headed x y))
        formed fits zero e =
            well_formed (headed x' y') (omega (arith, same_length)) (headed_bad x' y' h' ∙ e)
            ∙ ap (read_lines nothing 1) (headed_lines x' y' h') ∙ same_head (lines c.rest)
            ∙ ap (λ (ls : List (List ℕ)). meaning_with a (read_lines nothing 1 ls)) (sym (headed_lines x y h))
            ∙ ap (meaning_with a) (sym (well_formed (headed x y) fits (headed_bad x y h ∙ e)))
        formed fits (suc n) e =
            ill_formed (headed x' y') (omega (arith, same_length)) (suc n) (sym (headed_bad x' y' h' ∙ e)) (λ z. omega arith)
            ∙ ap (meaning_with a) (sym (ill_formed (headed x y) fits (suc n) (sym (headed_bad x y h ∙ e)) (λ z. omega arith)))

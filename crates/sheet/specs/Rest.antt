-- Reading in one pass: what the rest of a text comes to, line after line. The steps of `OnePass`, for the reader of sheets, as the code
-- takes them. Assumes nothing.
use Prim.Native.Nat.{ℕ, zero, suc, ◌+◌, ◌<◌, ◌≤◌}
use Rattle.std.proofs.Math.Path.{◌≡◌, refl, ap}
use Rattle.std.proofs.Common.{sym, subst, ◌∙◌, arith, length-drop, drop_of_length-le, drop-drop}
use Rattle.std.specs.Prelude.{true, List, [], ◌∷◌, length, drop}
use Rattle.slices.specs.Every.{Every}
use Rattle.hextext.specs.declared.line.Line.{Line}
use Rattle.hextext.specs.Text.{first, bad_from, bad_line, line_bytes, line_size, lines}
use Rattle.hextext.specs.Packed.{formed, packed, line_read}
use Rattle.hextext.specs.Laws.{lines_first, lines_small}
use Rattle.hextext.specs.PackedLaws.{line_bad, line_good, line_next}
use Rattle.hextext.specs.OnePass.{unless_bad, read_text, text_end, text_bad, text_on, text_stop}
use Rattle.sheet.specs.Sheet.{TimedSheet}
use Rattle.sheet.specs.declared.refusal.Stop.{Stop}
use Rattle.sheet.specs.Outcome.{Outcome, refused}
use Rattle.sheet.specs.Refusal.{number_of}
use Rattle.sheet.specs.Reading.{Progress, nothing, refusal, after, read_lines, read_sheet}
use Rattle.sheet.specs.Held.{LineHeld}
use Rattle.sheet.specs.Laws.{read_on, read_stop, ill_formed, well_formed}

-- what the rest of a text comes to, whose first line is line n, where r has been read: its first bad line (2), and else what its lines
-- mean
abbrev pub read_rest : Progress → ℕ → List ℕ → Outcome TimedSheet
read_rest r n t = read_text (refused 2) n (read_lines r n) t

-- refusal k at line n, the first of the rest of a text: a bad line there or behind it goes before
abbrev pub stopped : (k n : ℕ) → List ℕ → Outcome TimedSheet
stopped k n t = read_text (refused 2) n (λ _. refused k n) t

-- a text t that comes to o is refused where reading stops: the line is numbered from 1, and starts at the place that is told
pub record Stopped (t : List ℕ) (o : Outcome TimedSheet) (e : Stop) : Type 0 where
  pub is : o ≡ stopped (number_of e.refusal) e.line (drop e.at t)
  pub place : e.line ≤ e.at + 1
  pub numbered : 0 < e.line

-- the whole text
pub whole : (t : List ℕ) → 0 < length t → length t ≤ 16384 → read_sheet t ≡ read_rest nothing 1 t
unfolding read_text bad_line
whole [] some fits = let f : ⊥ = omega arith in absurd f
whole (b ∷ t) some fits = go (bad_from 1 first (b ∷ t)) refl
  where
    go : (k : ℕ) → bad_from 1 first (b ∷ t) ≡ k
        → read_sheet (b ∷ t) ≡ unless_bad (refused 2) k (read_lines nothing 1 (lines (b ∷ t)))
    go zero e = well_formed (b ∷ t) fits e
    go (suc k) e = ill_formed (b ∷ t) fits (suc k) (sym e) (λ z. omega arith)

-- a refusal, by the first bad line from there on
module _ (k n : ℕ) (t : List ℕ) where
  pub stopped_bad : (bad : ℕ) → bad ≡ bad_from n first t → (bad ≡ 0 → ⊥) → stopped k n t ≡ refused 2 bad
  unfolding read_text
  stopped_bad bad e f = ap (λ (x : ℕ). unless_bad (refused 2) x (refused k n)) (sym e) ∙ go bad f
    where
      go : (x : ℕ) → (x ≡ 0 → ⊥) → ◌≡◌ {A = Outcome TimedSheet} (unless_bad (refused 2) x (refused k n)) (refused 2 x)
      go zero g = absurd (g refl)
      go (suc x) g = refl

  pub stopped_only : bad_from n first t ≡ 0 → stopped k n t ≡ refused k n
  unfolding read_text
  stopped_only e = ap (λ (x : ℕ). unless_bad (refused 2) x (refused k n)) e

-- no line is left: a refusal of the text's end
pub rest_end : (r : Progress) (n : ℕ) (t : List ℕ) (i k : ℕ) → length t ≤ i → read_lines r n [] ≡ refused k n
    → read_rest r n (drop i t) ≡ stopped k n (drop i t)
rest_end r n t i k h e =
    rw (drop_of_length-le t {i = i} h) (text_end (refused 2) n (read_lines r n) ∙ e ∙ sym (text_end (refused 2) n (λ _. refused k n)))

-- or what has been read
pub rest_past : (r : Progress) (n : ℕ) (t : List ℕ) (i : ℕ) → length t ≤ i → read_rest r n (drop i t) ≡ read_lines r n []
rest_past r n t i h = rw (drop_of_length-le t {i = i} h) (text_end (refused 2) n (read_lines r n))

-- the line that starts at place i
module _ (t : List ℕ) (i : ℕ) (inside : i < length t) (l : Line) (is : l ≡ line_read t i) where
  some : 0 < length (drop i t)
  some = omega (arith, length-drop i t)

  small : Every (λ (x : ℕ). x < 256) (line_bytes (drop i t))
  small = (subst (Every (Every (λ (x : ℕ). x < 256))) (lines_first (drop i t) some) (lines_small (drop i t))).0

  -- it is well formed where its count is not 0
  good : (l.count ≡ 0 → ⊥)
      → (formed (drop i t) ≡ true) × (line_read t i ≡ packed (line_bytes (drop i t)) (i + line_size (drop i t)))
  good filled = line_good t i (λ e. filled (ap (λ (x : Line). x.count) is ∙ e))

  -- its fields
  pub rest_held : (l.count ≡ 0 → ⊥) → LineHeld l (line_bytes (drop i t))
  unfolding packed
  rest_held filled =
      let e = is ∙ (good filled).1 in
      record {
        kind = ap (λ (x : Line). x.kind) e;
        count = ap (λ (x : Line). x.count) e;
        front = ap (λ (x : Line). x.front) e;
        tail = ap (λ (x : Line). x.tail) e;
        small = small;
      }

  module _ (r : Progress) (n : ℕ) where
    -- it is bad: reading stops, whatever the number
    pub rest_bad : 0 < n → l.count ≡ 0 → (k : ℕ) → read_rest r n (drop i t) ≡ stopped k n (drop i t)
    rest_bad pos e k =
        let bad = line_bad t i (sym (ap (λ (x : Line). x.count) is) ∙ e) in
        text_bad (refused 2) n (read_lines r n) (drop i t) some pos bad
        ∙ sym (text_bad (refused 2) n (λ _. refused k n) (drop i t) some pos bad)

    -- it is refused: reading stops
    pub rest_stop : (k : ℕ) → k ≡ refusal r (line_bytes (drop i t)) → (k ≡ 0 → ⊥)
        → read_rest r n (drop i t) ≡ stopped k n (drop i t)
    rest_stop k e f =
        text_stop (refused 2) n (read_lines r n) (drop i t) some (refused k n) (λ ls. read_stop r n (line_bytes (drop i t)) ls k e f)

    -- it is well formed, and not refused: reading goes on behind it
    pub rest_on : (l.count ≡ 0 → ⊥) → refusal r (line_bytes (drop i t)) ≡ 0
        → read_rest r n (drop i t) ≡ read_rest (after r (line_bytes (drop i t))) (n + 1) (drop l.next t)
    rest_on filled e =
        text_on (refused 2) n (read_lines r n) (drop i t) some (read_lines (after r (line_bytes (drop i t))) (n + 1)) (good filled).0
        (λ ls. read_on r n (line_bytes (drop i t)) ls e)
        ∙ ap (read_rest (after r (line_bytes (drop i t))) (n + 1))
        (drop-drop (line_size (drop i t)) i t ∙ ap (λ (k : ℕ). drop k t) (sym (line_next t i l is filled)))

-- The `45` line behind a grammar with a rule: it is refused, or taps follow, or the onsets do. Assumes nothing.
use Prim.Native.Nat.{ℕ, ◌+◌, ◌<◌, ◌≤◌}
use mathlib.Core.Path.{◌≡◌, sym, ap, ◌∙◌}
use mathlib.Core.Bool.{Bool, cond}
use mathlib.Core.List.{List}
use native.Mathlib.Nat.{le_trans, le_of_eq}
use native.Mathlib.Omega.{arith}
use lib.ListN.{length, drop}
use borrow.Author.Tests.{eq-eqb, ne_eqb, lt-ltb}
use Rattle.hextext.specs.declared.line.Line.{Line}
use Rattle.hextext.specs.Text.{line_bytes}
use Rattle.hextext.specs.Packed.{line_read}
use Rattle.hextext.specs.Laws.{line_within, line_size_pos}
use Rattle.hextext.specs.PackedLaws.{line_next}
use Rattle.sheet.specs.Sheet.{Grammar}
use Rattle.sheet.specs.Reading.{byte, four, playing_refusal, playing_of, even_of, rule_of, with_rule, in_rules, rules_refusal, refusal, after_head}
use Rattle.sheet.specs.Reading.{after}
use Rattle.sheet.specs.Rest.{read_rest, stopped, rest_stop, rest_held, rest_on}
use Rattle.sheet.specs.Held.{LineHeld}
use Rattle.sheet.specs.PlayingLaws.{playing_passed}
use Rattle.bar_lines.specs.Lines.{bars_next}

module _ (t : List ℕ) (at : ℕ) (inside : at < length t) (l : Line) (is : l ≡ line_read t at) (filled : 0 < l.count) where
  abbrev b : List ℕ
  b = line_bytes (drop at t)

  -- its fields
  pub head_held : LineHeld l b
  head_held = rest_held t at inside l is (λ z. omega arith)

  -- the next line starts within the text, behind the line's own place
  pub head_within : (l.next ≤ length t) × ((n : ℕ) → n ≤ at + 1 → n + 1 ≤ l.next + 1)
  head_within =
      let next = line_next t at l is (λ z. omega arith) in
      let further = line_size_pos t at inside in
      (le_trans (le_of_eq next) (line_within t at (omega arith)), λ n h. omega (arith, next, h, further))

  -- what the numbers of a line that is not refused are
  pub head_passed : playing_refusal b ≡ 0 → (bars d : ℕ) → bars ≡ byte b 1 → d ≡ four b 2
      → (1 ≤ bars) × (bars ≤ 64) × ((d ≡ 0 → ⊥) → (1000 ≤ d) × (d ≤ 60_000_000))
  head_passed met bars d eb ed =
      let p = playing_passed b met in
      (rw eb p.one, rw eb p.sixty_four, λ f. rw ed (p.even (ne_eqb (four b 2) 0 (λ z. f (ed ∙ z)))))

  module _ (n : ℕ) (g : Grammar) (some : 1 ≤ length g.rules) (kind : l.kind ≡ 0x45) where
    kind_is : byte b 0 ≡ 0x45
    kind_is = sym head_held.kind ∙ kind

    refusal_is : playing_refusal b ≡ refusal (in_rules g) b
    unfolding refusal rules_refusal
    refusal_is = sym (simp (eq-eqb (byte b 0) 0x45 kind_is, lt-ltb 0 (length g.rules) some))

    pub head_refused : (k : ℕ) → k ≡ playing_refusal b → (k ≡ 0 → ⊥)
        → read_rest (in_rules g) n (drop at t) ≡ stopped k n (drop at t)
    head_refused k e f = rest_stop t at inside l is (in_rules g) n k (e ∙ refusal_is) f

    -- the bar lines, or the onsets, follow from the place behind the line
    pub head_on : playing_refusal b ≡ 0 → (bars d : ℕ) → bars ≡ byte b 1 → d ≡ four b 2
        → read_rest (in_rules g) n (drop at t) ≡ read_rest (bars_next g bars d) (n + 1) (drop l.next t)
    unfolding after after_head even_of playing_of
    head_on met bars d eb ed =
        rest_on t at inside l is (in_rules g) n (λ z. omega arith) (sym refusal_is ∙ met)
        ∙ ap (λ (c : Bool). read_rest (cond c (after_head g b) (in_rules (with_rule g (rule_of b)))) (n + 1) (drop l.next t))
        (eq-eqb (byte b 0) 0x45 kind_is)
        ∙ (λ j. read_rest (bars_next g (sym eb j) (sym ed j)) (n + 1) (drop l.next t))

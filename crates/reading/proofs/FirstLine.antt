-- The first line of a text: the `47` line, or a refusal. Assumes nothing.
use Prim.Native.Nat.{ℕ, ◌<◌}
use mathlib.Core.Path.{◌≡◌, refl, sym, ◌∙◌}
use mathlib.Core.List.{List, [], ◌∷◌}
use native.Mathlib.Omega.{arith}
use lib.ListN.{length, drop}
use Rattle.hextext.specs.declared.line.Line.{Line}
use Rattle.hextext.specs.Text.{bad_line, line_bytes}
use Rattle.hextext.specs.Packed.{line_read}
use Rattle.sheet.specs.Reading.{head_of, nothing, in_rules, refusal, after, read_sheet}
use Rattle.sheet.specs.Outcome.{refused}
use Rattle.sheet.specs.Laws.{ill_formed}
use Rattle.sheet.specs.Rest.{read_rest, stopped, rest_bad, rest_stop, rest_held, rest_on}
use Rattle.sheet.specs.Held.{LineHeld}
use Rattle.sheet.specs.Good.{GoodRules}
use Rattle.sheet.proofs.GoodBars.{line_small}
use Rattle.sheet.proofs.GoodLines.{good_after}

-- a first line that is not refused: its bytes, a good grammar so far, and the text is what the lines behind it come to
pub record Taken (t : List ℕ) (l : Line) : Type 0 where
  pub filled : l.count ≡ 0 → ⊥
  pub held : LineHeld l (line_bytes (drop 0 t))
  pub good : GoodRules (head_of (line_bytes (drop 0 t)))
  pub on : read_rest nothing 1 t ≡ read_rest (in_rules (head_of (line_bytes (drop 0 t)))) 2 (drop l.next t)

-- a bad one, or one that is well formed, whose own number k is
module _ (t : List ℕ) (some : 0 < length t) (l : Line) (is : l ≡ line_read t 0) where
  pub first_bad : l.count ≡ 0 → (k : ℕ) → read_rest nothing 1 t ≡ stopped k 1 t
  first_bad e k = rest_bad t 0 some l is nothing 1 (omega arith) e k

  module _ (filled : l.count ≡ 0 → ⊥) (k : ℕ) (own : (b : List ℕ) → LineHeld l b → k ≡ refusal nothing b) where
    held : LineHeld l (line_bytes (drop 0 t))
    held = rest_held t 0 some l is filled

    pub first_refused : (k ≡ 0 → ⊥) → read_rest nothing 1 t ≡ stopped k 1 t
    first_refused f = rest_stop t 0 some l is nothing 1 k (own _ held) f

    pub first_taken : k ≡ 0 → Taken t l
    unfolding after
    first_taken none =
        let b = line_bytes (drop 0 t) in
        let met = sym (own _ held) ∙ none in
        record {
          filled = filled;
          held = held;
          good = good_after nothing b (line_small b held.small) tt met;
          on = rest_on t 0 some l is nothing 1 filled met;
        }

-- an empty text is bad at line 1
pub empty_bad : (t : List ℕ) → length t ≡ 0 → read_sheet t ≡ refused 2 1
unfolding bad_line
empty_bad [] e = ill_formed [] (omega arith) 1 refl (λ z. omega arith)
empty_bad (b ∷ t) e = let f : ⊥ = omega arith in absurd f

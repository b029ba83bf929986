-- Wrong answers that the contract of `write` rules out, by computation: what each would give, and that the contract is false of it.
use Rattle.std.specs.Prelude.{ℕ, ◌≤◌, ◌≡◌, List, [], ◌∷◌, length, get_or, Result}
use Rattle.std.proofs.Common.{sym, ap, ◌∙◌, arith}
use Rattle.slices.specs.Over.{over-drop}
use Rattle.sheet.specs.Literal.{text_of}
use Rattle.sheet.specs.Reading.{read_sheet}
use Rattle.sheet.specs.Cases.{S}
use Rattle.sheet.specs.declared.refusal.Refused.{Refused}
use Rattle.sheet.specs.Outcome.{line_in}
use Rattle.sheet.specs.Refusal.{answer_line}
use Rattle.score.specs.Writing.{write_text, score_after, Writes}
use Rattle.score.specs.Cases.{lines_of_s, S_written}

-- the line of a refusal left out: `4G` is refused at line 1
write_no_line : (list score score' : List ℕ) (r : Result ℕ Refused) → Writes (text_of "4G\n") list score score' r → answer_line r ≡ 0 → ⊥
unfolding write_text read_sheet
write_no_line list score score' r h e = let z : ◌≡◌ {A = ℕ} 0 1 = sym e ∙ ap line_in h.0 in omega arith

-- D in the place of R in the head: of S's tree R is 8 and D 1,008, `03F0`, whose 3 would be the 34th digit
write_D_for_R : (score score' : List ℕ) (r : Result ℕ Refused) → 95 ≤ length score → Writes S (1 ∷ 3 ∷ 3 ∷ []) score score' r
    → get_or score' 33 0 ≡ 51 → ⊥
unfolding score_after
write_D_for_R score score' r room h e =
    let after = h.1 ∙ ap (λ o. score_after o score) (S_written (length score) room) ∙ over-drop lines_of_s score room in
    let z : ◌≡◌ {A = ℕ} 51 48 = sym e ∙ ap (λ xs. get_or xs 33 0) after in
    omega arith

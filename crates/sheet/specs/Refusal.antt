-- Refusals as the code names them, each with its number in documents 01 and 02; and what an answer comes to.
use Rattle.std.specs.Prelude.{ℕ, ◌≡◌, cond, eqb, Result, Ok, Err}
use Rattle.std.proofs.Math.Path.{refl, ap}
use Rattle.std.proofs.Common.{arith, sym, ◌∙◌}
use Rattle.sheet.specs.declared.refusal.Refusal.{Refusal}
use Rattle.sheet.specs.declared.refusal.Refusal.TheVariants.{TextTooLong, BadLine, KindOutOfOrder, WrongByteCount, FieldOutOfRange}
use Rattle.sheet.specs.declared.refusal.Refusal.TheVariants.{TimeFalls}
use Rattle.sheet.specs.declared.refusal.Refusal.TheVariants.{PastTheEnd, TooMany, WorkShort, TreeShort, NoTree, NotATree, ScoreShort}
use Rattle.sheet.specs.declared.refusal.Refusal.TheVariants.{TapMissing, StepOutOfRange, BeforeTheFirstTap}
use Rattle.sheet.specs.declared.refusal.Refused.{Refused}
use Rattle.sheet.specs.Outcome.{Outcome, refused, accepted, number_in, line_in, value_in, accepted_not_refused, accepted_value}

abbrev pub number_of : Refusal → ℕ
number_of TextTooLong = 1
number_of BadLine = 2
number_of KindOutOfOrder = 3
number_of WrongByteCount = 4
number_of FieldOutOfRange = 5
number_of TimeFalls = 6
number_of PastTheEnd = 7
number_of TooMany = 8
number_of WorkShort = 9
number_of TreeShort = 10
number_of NoTree = 11
number_of NotATree = 12
number_of ScoreShort = 13
number_of TapMissing = 17
number_of StepOutOfRange = 18
number_of BeforeTheFirstTap = 19

-- the number that a test tells; 0: nothing is refused
abbrev pub test_number : {A : Type 0} → Result A Refusal → ℕ
test_number (Ok x) = 0
test_number (Err r) = number_of r

-- what an answer comes to: the refusal's number and line, or the value of an accepted call
abbrev pub outcome_of : {A : Type 0} → Result A Refused → Outcome A
outcome_of (Ok x) = accepted x
outcome_of (Err e) = refused (number_of e.refusal) e.line

-- "A refusal gives its number, the line"; "An accepted call gives number 0 and line 0 beside its result": these of an answer
abbrev pub answer_number : {A : Type 0} → Result A Refused → ℕ
answer_number r = number_in (outcome_of r)

abbrev pub answer_line : {A : Type 0} → Result A Refused → ℕ
answer_line r = line_in (outcome_of r)

-- its value; `zero` for a refusal
abbrev pub answer_value : {A : Type 0} → (zero : A) → Result A Refused → A
answer_value zero r = value_in zero (outcome_of r)

-- the same outcome over the code's own value
abbrev pub on_value : {A B : Type 0} → (A → B) → Outcome A → Outcome B
on_value f (refused k n) = refused k n
on_value f (accepted x) = accepted (f x)

-- ---- laws

-- no refusal has the number 0
pub number_some : (r : Refusal) → number_of r ≡ 0 → ⊥
number_some TextTooLong e = omega (arith, e)
number_some BadLine e = omega (arith, e)
number_some KindOutOfOrder e = omega (arith, e)
number_some WrongByteCount e = omega (arith, e)
number_some FieldOutOfRange e = omega (arith, e)
number_some TimeFalls e = omega (arith, e)
number_some PastTheEnd e = omega (arith, e)
number_some TooMany e = omega (arith, e)
number_some WorkShort e = omega (arith, e)
number_some TreeShort e = omega (arith, e)
number_some NoTree e = omega (arith, e)
number_some NotATree e = omega (arith, e)
number_some ScoreShort e = omega (arith, e)
number_some TapMissing e = omega (arith, e)
number_some StepOutOfRange e = omega (arith, e)
number_some BeforeTheFirstTap e = omega (arith, e)

-- an outcome over the code's own value is refused where the outcome is
pub value_refused : {A B : Type 0} (f : A → B) (o : Outcome A) {k n : ℕ} → on_value f o ≡ refused k n → o ≡ refused k n
value_refused f (refused j m) e = λ i. refused (number_in (e i)) (line_in (e i))
value_refused f (accepted x) e = absurd (accepted_not_refused e)

-- two refusals with the same number are one, and so are two answers that come to the same
abbrev refusal_with : ℕ → Refusal
refusal_with n =
    cond (eqb n 1) TextTooLong
    (cond (eqb n 2) BadLine
    (cond (eqb n 3) KindOutOfOrder
    (cond (eqb n 4) WrongByteCount
    (cond (eqb n 5) FieldOutOfRange
    (cond (eqb n 6) TimeFalls
    (cond (eqb n 7) PastTheEnd
    (cond (eqb n 8) TooMany
    (cond (eqb n 9) WorkShort
    (cond (eqb n 10) TreeShort
    (cond (eqb n 11) NoTree
    (cond (eqb n 12) NotATree
    (cond (eqb n 13) ScoreShort
    (cond (eqb n 17) TapMissing
    (cond (eqb n 18) StepOutOfRange
    BeforeTheFirstTap))))))))))))))

back : (r : Refusal) → refusal_with (number_of r) ≡ r
back TextTooLong = refl
back BadLine = refl
back KindOutOfOrder = refl
back WrongByteCount = refl
back FieldOutOfRange = refl
back TimeFalls = refl
back PastTheEnd = refl
back TooMany = refl
back WorkShort = refl
back TreeShort = refl
back NoTree = refl
back NotATree = refl
back ScoreShort = refl
back TapMissing = refl
back StepOutOfRange = refl
back BeforeTheFirstTap = refl

pub one_refusal : {r q : Refusal} → number_of r ≡ number_of q → r ≡ q
one_refusal {r} {q} e = sym (back r) ∙ ap refusal_with e ∙ back q

pub same_answer : {A : Type 0} (r q : Result A Refused) → outcome_of r ≡ outcome_of q → r ≡ q
same_answer (Ok x) (Ok y) e = ap Ok (accepted_value e)
same_answer (Ok x) (Err d) e = absurd (accepted_not_refused e)
same_answer (Err d) (Ok y) e = absurd (accepted_not_refused (sym e))
same_answer (Err d) (Err f) e =
    let is = one_refusal {r = d.refusal} {q = f.refusal} (ap number_in e) in
    λ i. Err (record { refusal = is i; line = line_in (e i) })

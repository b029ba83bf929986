-- What an operation comes to (document 01, "When it says no"): a refusal, document 01's word for an answer that gives a number and a line
-- in place of a result, or an accepted call with its value. Every entry's outcome is one of these, over its own values.
use Rattle.std.specs.Prelude.{ℕ, ◌≡◌, true, false}
use Rattle.std.proofs.lemmas.Bool.{false≢true}

pub data Outcome (A : Type 0) : Type 0 where
  refused : (number line : ℕ) → Outcome A
  accepted : A → Outcome A

-- "A refusal gives its number, the line"; "An accepted call gives number 0 and line 0 beside its result"
abbrev pub number_in : {A : Type 0} → Outcome A → ℕ
number_in (refused k n) = k
number_in (accepted x) = 0

abbrev pub line_in : {A : Type 0} → Outcome A → ℕ
line_in (refused k n) = n
line_in (accepted x) = 0

-- "and zeros elsewhere": the value of an accepted call, and `zero`, a value of zeros, for a refusal
abbrev pub value_in : {A : Type 0} → (zero : A) → Outcome A → A
value_in zero (refused k n) = zero
value_in zero (accepted x) = x

-- what comes after an operation that is accepted; a refusal stays as it is
abbrev pub and_then : {A B : Type 0} → Outcome A → (A → Outcome B) → Outcome B
and_then (refused k n) next = refused k n
and_then (accepted x) next = next x

-- ---- laws: an outcome is not both, and has one value

pub accepted_not_refused : {A : Type 0} {x : A} {k n : ℕ} → accepted x ≡ refused k n → ⊥
accepted_not_refused e = let f : false ≡ true = cc in false≢true f

pub accepted_value : {A : Type 0} {x y : A} → accepted x ≡ accepted y → x ≡ y
accepted_value e = cc

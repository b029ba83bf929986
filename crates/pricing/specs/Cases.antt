-- Document 01's cases that pricing answers, through its own outcome, and wrong pricers that its contract refutes.
use Rattle.std.specs.Prelude.{ℕ, ◌≡◌, refl, List, [], ◌∷◌}
use Rattle.std.proofs.Common.{sym, ap, ◌∙◌, arith}
use Rattle.std.proofs.Math.Option.{Option-elim}
use Rattle.sheet.specs.Outcome.{refused, number_in}
use Rattle.sheet.specs.Refusal.{outcome_of, answer_number}
use Rattle.sheet.specs.Reading.{read_sheet}
use Rattle.sheet.specs.Cases.{S}
use Rattle.derivations.specs.Derivation.{onto}
use Rattle.trees.specs.ValidTrees.{whose, distance_to}
use Rattle.pricing.specs.Pricing.{priced, price_sheet, price_text, priced_of, Answer}

-- "S with `00`": refusal 12
pub S_refuses_00 : price_text S (0 ∷ []) ≡ refused 12 0
unfolding price_text price_sheet read_sheet whose distance_to onto Option-elim
S_refuses_00 = refl

-- "Tree `010303`, R 8, D 1,008"; its total is 1,088
pub S_prices_010303 : price_text S (1 ∷ 3 ∷ 3 ∷ []) ≡ priced 3 8 1008 1088
unfolding price_text price_sheet read_sheet whose distance_to onto Option-elim
S_prices_010303 = refl

-- a function that meets the contract of `price`
abbrev Pricer : (List ℕ → List ℕ → Answer) → Type 0
Pricer f = (text list : List ℕ) → outcome_of (f text list) ≡ priced_of (price_text text list)

-- it does not say 12 to everything
pub says_12_to_everything : (f : List ℕ → List ℕ → Answer) → Pricer f → ((text list : List ℕ) → answer_number (f text list) ≡ 12) → ⊥
says_12_to_everything f h twelve =
    let z : ◌≡◌ {A = ℕ} 12 0 =
    sym (twelve S (1 ∷ 3 ∷ 3 ∷ [])) ∙ ap number_in (h S (1 ∷ 3 ∷ 3 ∷ []) ∙ ap priced_of S_prices_010303) in
    omega arith

-- and does not price `00` on S
pub prices_00 : (f : List ℕ → List ℕ → Answer) → Pricer f → answer_number (f S (0 ∷ [])) ≡ 0 → ⊥
prices_00 f h zero =
    let z : ◌≡◌ {A = ℕ} 0 12 = sym zero ∙ ap number_in (h S (0 ∷ []) ∙ ap priced_of S_refuses_00) in omega arith

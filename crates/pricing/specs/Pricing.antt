-- Pricing, in the words of document 01's sections "Pricing, score lines, finding" and "When it says no".
use Rattle.std.specs.Prelude.{ℕ, ◌≡◌, cond, List, eqb, length, Result}
use Rattle.std.proofs.Math.Option.{none, some}
use Rattle.sheet.specs.Sheet.{Sheet}
use Rattle.sheet.specs.declared.refusal.Refused.{Refused}
use Rattle.sheet.specs.Outcome.{Outcome, refused, accepted, value_in}
use Rattle.sheet.specs.Refusal.{outcome_of, on_value}
use Rattle.sheet.specs.Reading.{on_sheet}
use Rattle.derivations.specs.Derivation.{derive}
use Rattle.trees.specs.ValidTrees.{bars, total_of}
use Rattle.trees.specs.Instance.{instance_of}
use Rattle.pricing.specs.declared.Priced as answer

-- "It gives the node count, R, D and total"
pub record Figures : Type 0 where
  pub nodes : ℕ
  pub weight : ℕ
  pub distance : ℕ
  pub total : ℕ

abbrev pub priced : (nodes R D total : ℕ) → Outcome Figures
priced nodes R D total = accepted (record { nodes = nodes; weight = R; distance = D; total = total })

-- "12: list is no valid tree", with line 0
abbrev pub no_tree : Outcome Figures
no_tree = refused 12 0

-- The price of a list of bytes, or that it is no valid tree: it is derived from the bars, with nothing carried out of the last leaf.
-- `PricingLaws` has that this is a price exactly when the list is a valid tree, then its own, and refusal 12 exactly when it is none.
unfoldable pub price_sheet : Sheet → (list : List ℕ) → Outcome Figures
unfolding derive instance_of bars
price_sheet s list = elim (derive (instance_of s) list (bars s) 0) [
  | none ↦ no_tree
  | some p ↦ cond (eqb p.carry 0) (priced (length list) p.weight p.distance (total_of s p.weight p.distance)) no_tree
]

unfoldable pub price_text : (text list : List ℕ) → Outcome Figures
unfolding on_sheet
price_text text list = on_sheet text (λ s. price_sheet s list)

abbrev pub no_figures : Figures
no_figures = record { nodes = 0; weight = 0; distance = 0; total = 0 }

-- the figures as the code has them
abbrev pub struct_of : Figures → answer.Priced
struct_of f = record { nodes = f.nodes; weight = f.weight; distance = f.distance; total = f.total }

-- an outcome over the code's struct
abbrev pub priced_of : Outcome Figures → Outcome answer.Priced
priced_of o = on_value struct_of o

-- what is answered: figures, or a refusal
abbrev pub Answer : Type 0
Answer = Result answer.Priced Refused

-- the figures of an outcome and of an answer; zeros in a refusal
abbrev pub figures_of : Outcome answer.Priced → answer.Priced
figures_of o = value_in (struct_of no_figures) o

abbrev pub figures_in : Answer → answer.Priced
figures_in r = figures_of (outcome_of r)

-- the promise of `price`, for every text and every list
abbrev pub Prices : (text list : List ℕ) → Answer → Type 0
Prices text list r = outcome_of r ≡ priced_of (price_text text list)

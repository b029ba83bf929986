-- What `price` promises of valid trees, from its contract alone: demand 2 in its own words. Of a text that means a sheet, a list is priced
-- exactly when it is a valid tree of that sheet, with its own figures; 12 is given exactly when it is none.
use Rattle.std.specs.Prelude.{ℕ, ◌≡◌, List, ◌⊎◌, ◌↔◌, length}
use Rattle.std.proofs.Common.{sym, ◌∙◌, inl, inr, arith}
use Rattle.std.proofs.Math.Path.{ap}
use Rattle.sheet.specs.Sheet.{Sheet}
use Rattle.sheet.specs.Accepted.{Refuses, Accepts}
use Rattle.sheet.proofs.AcceptedLaws.{on_refusal, on_sheet_lem}
use Rattle.trees.specs.ValidTrees as trees
use Rattle.trees.specs.ValidTrees.{ValidTree, total_of}
use Rattle.trees.proofs.Found.{own_price}
use Rattle.pricing.specs.declared.Priced.{Priced}
use Rattle.sheet.specs.Outcome.{Outcome, refused, accepted, number_in, value_in}
use Rattle.sheet.specs.Refusal.{outcome_of, answer_number}
use Rattle.pricing.specs.Pricing.{no_figures, price_sheet, price_text, struct_of, priced_of, Answer, figures_in}
use Rattle.pricing.specs.PricingLaws.{tree_priced, tree_or_none, none_refused, refused_none}

-- "A refusal gives its number, the line [..] and zeros elsewhere"
abbrev pub refused_as : (number line : ℕ) → Outcome Priced
refused_as k n = refused k n

-- "An accepted call gives number 0 and line 0 beside its result": "the node count, R, D and total"
abbrev pub priced_as : Sheet → (nodes R D : ℕ) → Outcome Priced
priced_as s nodes R D = accepted (record { nodes = nodes; weight = R; distance = D; total = total_of s R D })

-- a list is a valid tree with its own R and D, or none
pub valid_or_not : (s : Sheet) (bs : List ℕ) → ((R : ℕ) × (D : ℕ) × trees.Priced s bs R D) ⊎ (ValidTree s bs → ⊥)
valid_or_not s bs = elim (tree_or_none s bs) [ inl t ↦ inl t | inr e ↦ inr (refused_none s bs e) ]

module _ (text list : List ℕ) (r : Answer) (e : outcome_of r ≡ priced_of (price_text text list)) where
  pub text_refused : (k n : ℕ) → Refuses text k n → outcome_of r ≡ refused_as k n
  unfolding price_text
  text_refused k n q = e ∙ ap priced_of (on_refusal text (λ s. price_sheet s list) k n q)

  module _ (s : Sheet) (a : Accepts text s) where
    of_sheet : outcome_of r ≡ priced_of (price_sheet s list)
    unfolding price_text
    of_sheet = e ∙ ap priced_of (on_sheet_lem text (λ s. price_sheet s list) s a)

    -- a valid tree is priced, with its own figures
    pub tree_then_priced : (R D : ℕ) → trees.Priced s list R D → outcome_of r ≡ priced_as s (length list) R D
    tree_then_priced R D p = of_sheet ∙ ap priced_of (tree_priced s list R D p)

    -- what is none is refused with 12
    pub none_then_twelve : (ValidTree s list → ⊥) → outcome_of r ≡ refused_as 12 0
    none_then_twelve h = of_sheet ∙ ap priced_of (none_refused s list h)

    number_of_tree : ValidTree s list → answer_number r ≡ 0
    number_of_tree v = let (R, D, p) = own_price s list v in ap number_in (tree_then_priced R D p)

    number_of_none : (ValidTree s list → ⊥) → answer_number r ≡ 12
    number_of_none h = ap number_in (none_then_twelve h)

    -- number 0: a valid tree, and the figures are its own
    pub zero_then_own : answer_number r ≡ 0
        → trees.Priced s list (figures_in r).weight (figures_in r).distance
        × (outcome_of r ≡ priced_as s (length list) (figures_in r).weight (figures_in r).distance)
    zero_then_own z = go (valid_or_not s list)
      where
        go : ((R : ℕ) × (D : ℕ) × trees.Priced s list R D) ⊎ (ValidTree s list → ⊥)
            → trees.Priced s list (figures_in r).weight (figures_in r).distance
            × (outcome_of r ≡ priced_as s (length list) (figures_in r).weight (figures_in r).distance)
        go (inl (R, D, p)) =
            let q = tree_then_priced R D p in
            let w : (figures_in r).weight ≡ R = ap (λ (o : Outcome Priced). (value_in (struct_of no_figures) o).weight) q in
            let d : (figures_in r).distance ≡ D = ap (λ (o : Outcome Priced). (value_in (struct_of no_figures) o).distance) q in
            (rw (w, d) p, q ∙ (λ i. priced_as s (length list) (sym w i) (sym d i)))
        go (inr h) = let t = number_of_none h in let f : ⊥ = omega arith in absurd f

    -- "An offered list is priced exactly when it is a valid tree for that sheet"
    pub zero_exactly : (answer_number r ≡ 0) ↔ ValidTree s list
    zero_exactly = (λ z. (zero_then_own z).0.valid, number_of_tree)

    -- "12: list is no valid tree"
    pub twelve_exactly : (answer_number r ≡ 12) ↔ (ValidTree s list → ⊥)
    twelve_exactly = (λ t v. let z = number_of_tree v in omega arith, number_of_none)

    -- there is no other way: each answer under its condition
    pub price_answers : ((ValidTree s list → ⊥) × (outcome_of r ≡ refused_as 12 0)) ⊎ (ValidTree s list × (answer_number r ≡ 0))
    price_answers = elim (valid_or_not s list) [
      | inl t ↦ inr (t.2.valid, number_of_tree t.2.valid)
      | inr h ↦ inl (h, none_then_twelve h)
    ]

-- What the definition of pricing says of a list: a price exactly when it is a valid tree, and then its own; refusal 12 exactly when it is
-- none. Nothing is asked of the sheet.
use Rattle.std.specs.Prelude.{ℕ, ◌≡◌, List, ◌⊎◌, length}
use Rattle.std.proofs.Math.Path.{refl, ap}
use Rattle.std.proofs.Common.{sym, ◌∙◌}
use Rattle.std.proofs.Math.Logic.{inl, inr}
use Rattle.std.proofs.Math.Option.{Option, none, some}
use Rattle.std.proofs.Math.Decide.{ℕ_discrete}
use borrow.Author.Tests.{eq-eqb, ne_eqb}
use Rattle.sheet.specs.Sheet.{Sheet}
use Rattle.derivations.specs.Derivation.{Price, derive, price_eq}
use Rattle.trees.specs.ValidTrees.{bars, ValidTree, Priced, total_of}
use Rattle.trees.specs.Instance.{instance_of, Derived}
use Rattle.trees.proofs.Equivalence.{valid_derived, derived_valid}
use Rattle.trees.proofs.Found.{own_price}
use Rattle.sheet.specs.Outcome.{accepted_not_refused, accepted_value}
use Rattle.pricing.specs.Pricing.{Figures, priced, no_tree, price_sheet}

module _ (s : Sheet) (bs : List ℕ) where
  -- ---- by how the list is derived

  pub not_derived : derive (instance_of s) bs (bars s) 0 ≡ none → price_sheet s bs ≡ no_tree
  unfolding price_sheet
  not_derived e = rw (e, price_sheet) refl

  pub carried_out_lem : (p : Price) → derive (instance_of s) bs (bars s) 0 ≡ some p → (p.carry ≡ 0 → ⊥) → price_sheet s bs ≡ no_tree
  unfolding price_sheet
  carried_out_lem p e h = rw (e, price_sheet, ne_eqb p.carry 0 h) refl

  pub all_derived : (p : Price) → derive (instance_of s) bs (bars s) 0 ≡ some p → p.carry ≡ 0
      → price_sheet s bs ≡ priced (length bs) p.weight p.distance (total_of s p.weight p.distance)
  unfolding price_sheet
  all_derived p e h = rw (e, price_sheet, eq-eqb p.carry 0 h) refl

  -- ---- by whether it is a valid tree

  -- a valid tree is priced, at its own R, D and total
  pub tree_priced : (R D : ℕ) → Priced s bs R D → price_sheet s bs ≡ priced (length bs) R D (total_of s R D)
  unfolding Derived
  tree_priced R D p = all_derived (record { carry = 0; weight = R; distance = D }) (valid_derived s bs R D p) refl

  -- a list is a valid tree, or it is refused with 12
  pub tree_or_none : ((R : ℕ) × (D : ℕ) × Priced s bs R D) ⊎ (price_sheet s bs ≡ no_tree)
  unfolding Derived
  tree_or_none = go (derive (instance_of s) bs (bars s) 0) refl
    where
      go : (o : Option Price) → derive (instance_of s) bs (bars s) 0 ≡ o → ((R : ℕ) × (D : ℕ) × Priced s bs R D) ⊎ (price_sheet s bs ≡ no_tree)
      go none e = inr (not_derived e)
      go (some p) e = elim (ℕ_discrete p.carry 0) [
        | yes z ↦ inl (p.weight, p.distance, derived_valid s bs p.weight p.distance (e ∙ ap some (price_eq p _ z refl refl)))
        | no z ↦ inr (carried_out_lem p e z)
      ]

  -- what is no valid tree is refused with 12
  pub none_refused : (ValidTree s bs → ⊥) → price_sheet s bs ≡ no_tree
  none_refused h = elim tree_or_none [ inl t ↦ absurd (h t.2.valid) | inr e ↦ e ]

  -- and nothing else is
  pub refused_none : price_sheet s bs ≡ no_tree → ValidTree s bs → ⊥
  refused_none e v = let (R, D, p) = own_price s bs v in accepted_not_refused (sym (tree_priced R D p) ∙ e)

  -- what is priced is a valid tree, and the price is its own
  pub price_own : (n R D t : ℕ) → price_sheet s bs ≡ priced n R D t → Priced s bs R D × (n ≡ length bs) × (t ≡ total_of s R D)
  price_own n R D t e = go tree_or_none
    where
      go : ((R : ℕ) × (D : ℕ) × Priced s bs R D) ⊎ (price_sheet s bs ≡ no_tree) → Priced s bs R D × (n ≡ length bs) × (t ≡ total_of s R D)
      go (inl (R₂, D₂, p)) =
          let f : priced (length bs) R₂ D₂ (total_of s R₂ D₂) ≡ priced n R D t = sym (tree_priced R₂ D₂ p) ∙ e in
          let same = accepted_value f in
          let r : R₂ ≡ R = ap (λ (x : Figures). x.weight) same in
          let d : D₂ ≡ D = ap (λ (x : Figures). x.distance) same in
          let m : length bs ≡ n = ap (λ (x : Figures). x.nodes) same in
          let u : total_of s R₂ D₂ ≡ t = ap (λ (x : Figures). x.total) same in
          (rw (← r, ← d) p, sym m, rw (← r, ← d) (sym u))
      go (inr h) = absurd (accepted_not_refused (sym e ∙ h))

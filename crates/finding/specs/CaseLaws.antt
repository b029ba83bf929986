-- What the tests of the cases mean: outcomes that are alike are equal, and bytes that pass `none_before` are the sheet's first tree.
use Rattle.std.specs.Prelude.{ℕ, ◌≤◌, ◌<◌, ◌≡◌, Bool, true, List, [], ◌∷◌, ◌⊎◌, eqb, length}
use Rattle.std.proofs.Math.Bool.{false≢true}
use Rattle.std.proofs.Math.Logic.{inl, inr}
use Rattle.std.proofs.Math.Decide.{dec_lt}
use Rattle.std.proofs.Common.{arith, eqb-true, le-ltb}
use Rattle.slices.specs.Test.{and_both}
use Rattle.sheet.specs.Sheet.{Sheet}
use Rattle.sheet.specs.Outcome.{Outcome, refused, accepted}
use Rattle.derivations.specs.Derivation.{Price}
use Rattle.trees.specs.ValidTrees as trees
use Rattle.trees.specs.ValidTrees.{bars, ValidTree, total_of}
use Rattle.trees.specs.Instance.{instance_of, Derived}
use Rattle.trees.proofs.Laws.{lawful}
use Rattle.trees.proofs.Equivalence.{valid_derived}
use Rattle.trees.specs.LeastTrees.{InDictionaryOrder, FirstTree}
use Rattle.trees.proofs.Found.{own_price}
use Rattle.pricing.specs.Pricing.{Figures, priced, price_sheet}
use Rattle.pricing.specs.PricingLaws.{price_own}
use Rattle.finding.specs.EveryReading.{reading_passes}
use Rattle.finding.specs.Cases.{alike, then_by, in_order, none_before, carries_out, every_list}

less_or : (x y : ℕ) (b : Bool) → then_by x y b ≡ true → (x < y) ⊎ ((x ≡ y) × (b ≡ true))
unfolding then_by
less_or x y b e = elim (dec_lt x y) [
  | yes h ↦ inl h
  | no h ↦ let (q, t) = and_both (eqb x y) b (rw (le-ltb x y (omega arith)) at e) in inr (eqb-true x y q, t)
]

in_order_lem : (xs ys : List ℕ) → in_order xs ys ≡ true → InDictionaryOrder xs ys
unfolding in_order
in_order_lem [] ys e = tt
in_order_lem (x ∷ xs) [] e = absurd (false≢true e)
in_order_lem (x ∷ xs) (y ∷ ys) e = elim (less_or x y (in_order xs ys) e) [ inl h ↦ inl h | inr (h, t) ↦ inr (h, in_order_lem xs ys t) ]

pub alike_eq : (o o' : Outcome Figures) → alike o o' ≡ true → o ≡ o'
unfolding alike
alike_eq (accepted x) (accepted y) e =
    let (a, u) = and_both (eqb x.nodes y.nodes) _ e in
    let (b, v) = and_both (eqb x.weight y.weight) _ u in
    let (c, d) = and_both (eqb x.distance y.distance) (eqb x.total y.total) v in
    let nodes = eqb-true x.nodes y.nodes a in
    let weight = eqb-true x.weight y.weight b in
    let distance = eqb-true x.distance y.distance c in
    let total = eqb-true x.total y.total d in
    λ i. priced (nodes i) (weight i) (distance i) (total i)
alike_eq (accepted x) (refused k l) e = absurd (false≢true e)
alike_eq (refused k l) (accepted x) e = absurd (false≢true e)
alike_eq (refused k l) (refused k' l') e =
    let (a, b) = and_both (eqb k k') (eqb l l') e in λ i. refused (eqb-true k k' a i) (eqb-true l l' b i)

module _ (s : Sheet) where
  abbrev owned : (R D : ℕ) → Price
  owned R D = record { carry = 0; weight = R; distance = D }

  -- a valid tree passes a test that every list passes
  tested : (test : List ℕ → Price → Bool) → every_list s test ≡ true → (xs : List ℕ) (R D : ℕ) → trees.Priced s xs R D
      → test xs (owned R D) ≡ true
  unfolding every_list Derived
  tested test e xs R D p = reading_passes (instance_of s) (lawful s) 8 (bars s) 0 test e xs (owned R D) (valid_derived s xs R D p)

  none_before_lem : (bs : List ℕ) (t : ℕ) → every_list s (none_before s bs t) ≡ true → (xs : List ℕ) (R D : ℕ) → trees.Priced s xs R D
      → (t < total_of s R D) ⊎ ((t ≡ total_of s R D) × InDictionaryOrder bs xs)
  unfolding none_before
  none_before_lem bs t e xs R D p = elim (less_or t (total_of s R D) (in_order bs xs) (tested (none_before s bs t) e xs R D p)) [
    | inl h ↦ inl h
    | inr (h, o) ↦ inr (h, in_order_lem bs xs o)
  ]

  -- so these bytes are the first tree, with their R and D
  pub first_computed : (bs : List ℕ) (n R D t : ℕ) → every_list s (none_before s bs t) ≡ true → price_sheet s bs ≡ priced n R D t
      → FirstTree s bs R D
  first_computed bs n R D t all e =
      record { tree = record { valid = own.0; least = low }; first = λ xs R' D' l. lowest xs R' D' l.valid (l.least bs R D own.0) }
    where
      own : trees.Priced s bs R D × (n ≡ length bs) × (t ≡ total_of s R D)
      own = price_own s bs n R D t e

      low : (xs : List ℕ) (R' D' : ℕ) → trees.Priced s xs R' D' → total_of s R D ≤ total_of s R' D'
      low xs R' D' p = elim (none_before_lem bs t all xs R' D' p) [
        | inl h ↦ omega (arith, own.2)
        | inr (h, o) ↦ omega (arith, own.2)
      ]

      lowest : (xs : List ℕ) (R' D' : ℕ) → trees.Priced s xs R' D' → total_of s R' D' ≤ total_of s R D → InDictionaryOrder bs xs
      lowest xs R' D' p h = elim (none_before_lem bs t all xs R' D' p) [
        | inl k ↦ let f : ⊥ = omega (arith, own.2) in absurd f
        | inr (k, o) ↦ o
      ]

  pub no_tree_lem : every_list s carries_out ≡ true → (xs : List ℕ) → ValidTree s xs → ⊥
  unfolding carries_out
  no_tree_lem e xs v = let (R, D, p) = own_price s xs v in false≢true (tested carries_out e xs R D p)

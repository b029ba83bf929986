-- Sliding between plain and close (document 02, (xiv); 000, Pareto points): what the multiplier does to the least trees of a sheet. Which
-- lists are valid trees, and their R and D, do not depend on it. So R does not rise and D does not fall as a grows (`slides`); and first
-- trees with one R and one D are one list (`same_tree`), so what two multipliers share every multiplier between them has (`skips`). Of one
-- sheet, no valid tree is better than a least one in one of R and D and no worse in the other (`none_dominates`).
use Rattle.std.specs.Prelude.{ℕ, ◌+◌, ◌-◌, ◌*◌, ◌≤◌, ◌<◌, ◌≡◌, List}
use Rattle.std.proofs.Math.Path.{refl, ap}
use Rattle.std.proofs.Common.{sym, subst, ◌∙◌, add-mul, mul-le-mul_left, arith}
use Rattle.std.proofs.Math.Option.{none, some, Option-elim}
use Rattle.std.proofs.Math.Decide.{dec_lt}
use Rattle.std.proofs.Math.ListN.{length}
use Rattle.sheet.specs.Sheet.{Rule, division, leaf, Sheet}
use Rattle.sheet.specs.Multiplier.{with_multiplier}
use Rattle.derivations.specs.Derivation.{Item, Instance, derive}
use Rattle.trees.specs.ValidTrees.{rule_at, bars, weight_at, ValidTree, Priced}
use Rattle.trees.specs.Instance.{expand_by, instance_of, Derived}
use Rattle.trees.proofs.Equivalence.{valid_derived, derived_valid}
use Rattle.trees.specs.LeastTrees.{LeastTree, FirstTree, same_place, one_first_tree}
use Rattle.trees.proofs.Found.{own_price}

-- "With a of 1 or more, no valid tree has R and D both as small as the tree found and one of them smaller": where both are as small, both
-- are the same
pub none_dominates : (s : Sheet) (bs xs : List ℕ) (R D R' D' : ℕ) → 1 ≤ s.grammar.multiplier
    → LeastTree s bs R D → Priced s xs R' D' → R' ≤ R → D' ≤ D → (R' ≡ R) × (D' ≡ D)
none_dominates s bs xs R D R' D' one l p hr hd = (same_r, omega (arith, l.least xs R' D' p, ap (s.grammar.multiplier *◌) same_r))
  where
    a : ℕ
    a = s.grammar.multiplier

    same_r : R' ≡ R
    same_r = elim (dec_lt R' R) [
      | no h ↦ omega arith
      | yes h ↦
          let more : a * (R' + 1) ≤ a * R = mul-le-mul_left a (omega arith) in
          let f : ⊥ = omega (arith, more, l.least xs R' D' p) in absurd f
    ]

module _ (s : Sheet) where
  -- ---- the valid trees of a sheet are those of the sheet with another multiplier

  same_expansion : (a : ℕ) (g : Item) (c : ℕ) (ru : Rule) → expand_by (with_multiplier a s) g c ru ≡ expand_by s g c ru
  unfolding expand_by
  same_expansion a g c (division h w ks) = refl
  same_expansion a g c (leaf h w n) = refl

  same_instance : (a : ℕ) → instance_of (with_multiplier a s) ≡ instance_of s
  unfolding instance_of
  same_instance a = λ i. record {
    count = length s.grammar.rules;
    weight = weight_at s;
    expand = λ g c r. Option-elim (rule_at s r) none (λ ru. same_expansion a g c ru i);
  }

  same_derived : (a : ℕ) (bs : List ℕ) (R D : ℕ) → Derived (with_multiplier a s) bs R D ≡ Derived s bs R D
  unfolding Derived
  same_derived a bs R D =
      ap (λ (P : Instance). derive P bs (bars s) 0 ≡ some (record { carry = 0; weight = R; distance = D })) (same_instance a)

  pub priced_slid : (a b : ℕ) (bs : List ℕ) (R D : ℕ) → Priced (with_multiplier a s) bs R D → Priced (with_multiplier b s) bs R D
  priced_slid a b bs R D p =
      derived_valid (with_multiplier b s) bs R D
      (subst (λ (X : Type 0). X) (same_derived a bs R D ∙ sym (same_derived b bs R D)) (valid_derived (with_multiplier a s) bs R D p))

  pub valid_slid : (a b : ℕ) (bs : List ℕ) → ValidTree (with_multiplier a s) bs → ValidTree (with_multiplier b s) bs
  valid_slid a b bs v = let (R, D, p) = own_price (with_multiplier a s) bs v in (priced_slid a b bs R D p).valid

  -- ---- two multipliers

  -- "R doesn't rise and D doesn't fall" as a grows, whichever least trees are taken
  pub slides : (a b : ℕ) (bs xs : List ℕ) (R D R' D' : ℕ) → a < b → LeastTree (with_multiplier a s) bs R D
      → LeastTree (with_multiplier b s) xs R' D' → (R' ≤ R) × (D ≤ D')
  slides a b bs xs R D R' D' h l k = (lighter, farther)
    where
      near : a * R + D ≤ a * R' + D'
      near = l.least xs R' D' (priced_slid b a xs R' D' k.valid)

      far : b * R' + D' ≤ b * R + D
      far = k.least bs R D (priced_slid a b bs R D l.valid)

      apart : (n : ℕ) → b * n ≡ a * n + (b - a) * n
      apart n = ap (λ (x : ℕ). x * n) (omega arith) ∙ add-mul a (b - a) n

      lighter : R' ≤ R
      lighter = elim (dec_lt R R') [
        | no i ↦ omega arith
        | yes i ↦
            let more : (b - a) * (R + 1) ≤ (b - a) * R' = mul-le-mul_left (b - a) (omega arith) in
            let f : ⊥ = omega (arith, more, near, far, apart R, apart R') in
            absurd f
      ]

      farther : D ≤ D'
      farther = omega (arith, near, mul-le-mul_left a lighter)

  -- of first trees also where it does not grow, since a sheet has one
  pub first_slides : (a b : ℕ) (bs xs : List ℕ) (R D R' D' : ℕ) → a ≤ b → FirstTree (with_multiplier a s) bs R D
      → FirstTree (with_multiplier b s) xs R' D' → (R' ≤ R) × (D ≤ D')
  first_slides a b bs xs R D R' D' h f g = elim (dec_lt a b) [
    | yes k ↦ slides a b bs xs R D R' D' k f.tree g.tree
    | no k ↦
        let same : b ≡ a = omega arith in
        let (e, r, d) = one_first_tree (with_multiplier a s) bs xs R D R' D' f
        (subst (λ (n : ℕ). FirstTree (with_multiplier n s) xs R' D') same g) in
        (omega arith, omega arith)
  ]

  -- a valid tree with R and D of a least tree is as least as that
  as_least : (a b : ℕ) (bs xs : List ℕ) (R D : ℕ) → LeastTree (with_multiplier a s) bs R D → Priced (with_multiplier b s) xs R D
      → LeastTree (with_multiplier a s) xs R D
  as_least a b bs xs R D l p = record { valid = priced_slid b a xs R D p; least = l.least }

  -- first trees with the same R and D are one list, whatever the multipliers
  pub same_tree : (a b : ℕ) (bs xs : List ℕ) (R D : ℕ)
      → FirstTree (with_multiplier a s) bs R D → FirstTree (with_multiplier b s) xs R D → bs ≡ xs
  same_tree a b bs xs R D f g =
      same_place bs xs (f.first xs R D (as_least a b bs xs R D f.tree g.tree.valid))
      (g.first bs R D (as_least b a xs bs R D g.tree f.tree.valid))

  -- So where two multipliers give the same R and D, each between them gives these too, and the same list.
  pub skips : (a b c : ℕ) (bs xs ys : List ℕ) (R D R' D' : ℕ) → a ≤ b → b ≤ c → FirstTree (with_multiplier a s) bs R D
      → FirstTree (with_multiplier b s) xs R' D' → FirstTree (with_multiplier c s) ys R D
      → (xs ≡ bs) × (R' ≡ R) × (D' ≡ D)
  skips a b c bs xs ys R D R' D' h k f g i = (sym (same_tree a b bs xs R D f between), r, d)
    where
      down : (R' ≤ R) × (D ≤ D')
      down = first_slides a b bs xs R D R' D' h f g

      up : (R ≤ R') × (D' ≤ D)
      up = first_slides b c xs ys R' D' R D k g i

      r : R' ≡ R
      r = omega (arith, down.0, up.0)

      d : D' ≡ D
      d = omega (arith, down.1, up.1)

      between : FirstTree (with_multiplier b s) xs R D
      between =
          subst (λ (n : ℕ). FirstTree (with_multiplier b s) xs n D) r
          (subst (λ (n : ℕ). FirstTree (with_multiplier b s) xs R' n) d g)

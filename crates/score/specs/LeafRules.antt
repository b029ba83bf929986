-- How many leaves a valid tree has, by its list: as many as the list has leaf rules.
use Rattle.std.specs.Prelude.{ℕ, ◌+◌, ◌≤◌, ◌≡◌}
use Rattle.std.proofs.Math.Path.{refl, ap}
use Rattle.std.proofs.Common.{sym, ◌∙◌}
use mathlib.Core.List.{List, [], ◌∷◌, ◌++◌}
use Rattle.std.proofs.Math.Option.{Option, none, some}
use native.Mathlib.Omega.{arith}
use Rattle.std.proofs.Math.ListN.{length, length-append}
use Rattle.sheet.specs.Sheet.{Rule, division, leaf, Onset, Sheet}
use Rattle.derivations.specs.Derivation.{Item}
use Rattle.trees.specs.ValidTrees.{Forest, written, written_all, rule_at, late, Leaf, by_leaf, by_division}
use Rattle.trees.specs.ValidTrees.{ParsedAll, empty_forest, next_tree, placed_from, ValidTree}
use Rattle.trees.specs.Leaves.{leaves_of, entries_of}
use Rattle.trees.proofs.LeafLaws.{leaves_of_lem}

abbrev pub is_leaf : Option Rule → ℕ
is_leaf none = 0
is_leaf (some (division h w ks)) = 0
is_leaf (some (leaf h w n)) = 1

-- 1 if rule r of the sheet is a leaf
unfoldable pub leaf_one : Sheet → ℕ → ℕ
leaf_one s r = is_leaf (rule_at s r)

-- how many numbers of a list are leaf rules
unfoldable pub leaf_rules : Sheet → List ℕ → ℕ
leaf_rules s [] = 0
leaf_rules s (r ∷ bs) = leaf_one s r + leaf_rules s bs

at_most_one : (o : Option Rule) → is_leaf o ≤ 1
at_most_one none = omega arith
at_most_one (some (division h w ks)) = omega arith
at_most_one (some (leaf h w n)) = omega arith

module _ (s : Sheet) where
  pub leaf_rules_most : (bs : List ℕ) → leaf_rules s bs ≤ length bs
  unfolding leaf_rules leaf_one
  leaf_rules_most [] = omega arith
  leaf_rules_most (r ∷ bs) = omega (arith, at_most_one (rule_at s r), leaf_rules_most bs)

  leaf_rules-append : (xs ys : List ℕ) → leaf_rules s (xs ++ ys) ≡ leaf_rules s xs + leaf_rules s ys
  unfolding leaf_rules
  leaf_rules-append [] ys = omega arith
  leaf_rules-append (x ∷ xs) ys = omega (arith, leaf_rules-append xs ys)

  leaf_counts : (r h w n : ℕ) → rule_at s r ≡ some (leaf h w n) → leaf_one s r ≡ 1
  unfolding leaf_one
  leaf_counts r h w n e = ap is_leaf e

  division_counts : (r h w : ℕ) (ks : List ℕ) → rule_at s r ≡ some (division h w ks) → leaf_one s r ≡ 0
  unfolding leaf_one
  division_counts r h w ks e = ap is_leaf e

  -- the writing of a forest has a leaf rule for each of its leaves
  forest_leaf_rules : {ts : Forest} {gs : List Item} {ls : List Leaf} → ParsedAll s ts gs ls → leaf_rules s (written_all ts) ≡ length ls
  unfolding written leaf_rules
  forest_leaf_rules p =
      elim p as (λ t g ls q. leaf_rules s (written t) ≡ length ls) (λ ts gs ls q. leaf_rules s (written_all ts) ≡ length ls) [
        | by_leaf r h w n g e f ↦ omega (arith, leaf_counts r h w n e)
        | by_division r h w ks g ts ls e f d (q → ih) ↦ omega (arith, division_counts r h w ks e, ih)
        | empty_forest ↦ refl
        | next_tree t g ls ts gs ms (q → ih) (qs → ihs) ↦
            omega (arith, leaf_rules-append (written t) (written_all ts), length-append ls ms, ih, ihs)
      ]

  length_placed : (cs : List Onset) (ls : List Leaf) → length (placed_from s cs ls) ≡ length ls
  unfolding placed_from
  length_placed cs [] = refl
  length_placed cs (l ∷ ls) = omega (arith, length_placed (late s l.left l.len) ls)

  -- a valid tree's leaves
  pub leaf_rules_of : (bs : List ℕ) → ValidTree s bs → leaf_rules s bs ≡ length (leaves_of s bs)
  leaf_rules_of bs v = ap (leaf_rules s) (sym v.writing) ∙ forest_leaf_rules v.parsed ∙ ap length (leaves_of_lem s bs v)

  pub leaf_rules_entries : (bs : List ℕ) → ValidTree s bs → leaf_rules s bs ≡ length (entries_of s bs)
  leaf_rules_entries bs v = leaf_rules_of bs v ∙ sym (length_placed [] (leaves_of s bs))

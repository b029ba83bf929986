-- Counting leaf rules: the rule in a cell of the table is the sheet's, and a valid tree has a leaf for each leaf rule of its list.
use Prim.Native.Nat.{ℕ, ◌+◌, ◌≤◌, ◌<◌}
use mathlib.Core.Path.{◌≡◌, sym, ap}
use mathlib.Core.List.{List}
use mathlib.Core.Logic.{inl, inr}
use native.Mathlib.Omega.{arith}
use lib.ListN.{length, drop, get_or, drop_of_length-le}
use Rattle.slices.specs.Lookup.{past_end, drop-step}
use Rattle.sheet.specs.declared.table.Rule.TheVariants.{Division, Leaf}
use Rattle.sheet.specs.Sheet.{Sheet}
use Rattle.trees.specs.ValidTrees.{rule_at}
use Rattle.expansions.specs.Tables.{unpacked_of, cell_of, RulesHeld}
use Rattle.expansions.specs.RuleCells.{leaf_rule, division_rule}
use Rattle.score.specs.LeafRules.{is_leaf, leaf_one, leaf_rules}

pub cell_at : (s : Sheet) (cells : List ℕ) → RulesHeld s cells → (r : ℕ) → r < 64 → unpacked_of (get_or cells r 0) ≡ cell_of (rule_at s r)
cell_at s cells h r k = h.rules r k

-- a leaf in a cell, a division in a cell, and a number that is no place of the table
module _ (s : Sheet) (r : ℕ) where
  pub one_leaf : (h w n : ℕ) → cell_of (rule_at s r) ≡ Leaf h w n → 1 ≡ leaf_one s r
  unfolding leaf_one
  one_leaf h w n e = ap is_leaf (sym (leaf_rule (rule_at s r) h w n e))

  pub one_division : (h w n : ℕ) → cell_of (rule_at s r) ≡ Division h w n → 0 ≡ leaf_one s r
  unfolding leaf_one
  one_division h w n e = elim (division_rule (rule_at s r) h w n e) [
    | inl d ↦ ap is_leaf (sym d.0)
    | inr d ↦ ap is_leaf (sym d.1)
  ]

  pub one_past : (cells : List ℕ) → RulesHeld s cells → 64 ≤ r → 0 ≡ leaf_one s r
  unfolding leaf_one
  one_past cells h k = ap is_leaf (sym (past_end s.grammar.rules r (omega (arith, h.good.most))))

-- how many of the first i numbers are counted
abbrev pub CountedTo : (cells list : List ℕ) (leaves i : ℕ) → Type 0
CountedTo cells list leaves i = (s : Sheet) → RulesHeld s cells → leaves + leaf_rules s (drop i list) ≡ leaf_rules s list

module _ (cells list : List ℕ) where
  pub one_counted : (leaves i one : ℕ) → i < length list → ((s : Sheet) → RulesHeld s cells → one ≡ leaf_one s (get_or list i 0))
      → CountedTo cells list leaves i → CountedTo cells list (leaves + one) (i + 1)
  unfolding leaf_rules
  one_counted leaves i one k e t s h =
      let all = (rw (drop-step list i k) at (t s h)) in omega (arith, e s h, all)

  pub all_counted : (leaves i : ℕ) → length list ≤ i → CountedTo cells list leaves i → (s : Sheet) → RulesHeld s cells
      → leaves ≡ leaf_rules s list
  unfolding leaf_rules
  all_counted leaves i k t s h = omega (arith, rw (drop_of_length-le list k) at (t s h))

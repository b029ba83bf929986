-- "So at most ten divisions nest" (document 01, "Valid trees"): a tree over an item is no deeper than its length allows.
use Rattle.std.specs.Prelude.{ℕ, suc, ◌/◌, ◌≤◌, max, List, replicate}
use native.Mathlib.Omega.{arith}
use Rattle.std.proofs.Math.ListN.{length}
use Rattle.slices.specs.Every.{Every}
use Rattle.sheet.specs.Sheet.{Sheet, bar_units}
use Rattle.sheet.specs.Good.{GoodRules}
use Rattle.derivations.specs.Derivation.{Item}
use Rattle.trees.specs.ValidTrees.{Tree, Forest, node, nil, cons, bars, Leaf, by_leaf, by_division, ParsedAll, empty_forest, next_tree}
use Rattle.trees.specs.ValidTrees.{ValidTree}
use Rattle.trees.specs.Depth.{depth, depth_bar}
use Rattle.trees.proofs.RoomLaws.{division_deep}
use Rattle.trees.proofs.Laws.{adjoining_every}

-- over the trees below a root: one for the root's division, none where there is no tree
abbrev under : Forest → ℕ → ℕ
under nil n = 0
under (cons t ts) n = suc n

-- how many divisions nest in a tree, and the most in a forest
unfoldable mutual
  pub nesting : Tree → ℕ
  nesting (node r ts) = under ts (nesting_all ts)

  pub nesting_all : Forest → ℕ
  nesting_all nil = 0
  nesting_all (cons t ts) = max (nesting t) (nesting_all ts)

under_most : (ts : Forest) (n : ℕ) → under ts n ≤ suc n
under_most nil n = omega arith
under_most (cons t ts) n = omega arith

module _ (s : Sheet) (good : GoodRules s.grammar) where
  -- over items of depth at most n, at most n
  nests : {ts : Forest} {gs : List Item} {ls : List Leaf} → ParsedAll s ts gs ls → (n : ℕ) → Every (λ (g : Item). depth g.len ≤ n) gs
      → nesting_all ts ≤ n
  unfolding nesting
  nests p =
      elim p as (λ t g ls q. nesting t ≤ depth g.len)
      (λ ts gs ls q. (n : ℕ) → Every (λ (g : Item). depth g.len ≤ n) gs → nesting_all ts ≤ n) [
        | by_leaf r h w n g e f ↦ omega arith
        | by_division r h w ks g ts ls e f d (q → ih) ↦
            let below = ih (depth (g.len / length ks)) (adjoining_every _ g.left (g.len / length ks) ks (λ j c i. omega arith)) in
            omega (arith, below, under_most ts (nesting_all ts), division_deep s good r h w ks g.left g.len e d)
        | empty_forest ↦ λ n every. omega arith
        | next_tree t g ls ts gs ms (q → ih) (qs → ihs) ↦ λ n every. omega (arith, ih, ihs n every.1, every.0)
      ]

  pub at_most_ten_nest : (bs : List ℕ) (v : ValidTree s bs) → nesting_all v.trees ≤ 10
  unfolding bars
  at_most_ten_nest bs v =
      nests v.parsed 10 (adjoining_every _ 0 bar_units (replicate s.playing.bars s.grammar.start)
      (λ j c i. omega (arith, depth_bar)))

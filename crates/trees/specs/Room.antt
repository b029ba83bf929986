-- How large a tree can be: each item has room for so many nodes, and its onsets can be so far from their places; what an expansion uses and
-- what its parts have is no more. So a tree of a sheet has at most B + 80 × N nodes, and no total reaches 2^49.
use Rattle.std.specs.Prelude.{ℕ, ◌+◌, ◌*◌, ◌≤◌, List, length}
use Rattle.sheet.specs.Sheet.{division, Sheet}
use Rattle.derivations.specs.Derivation.{Item}
use Rattle.derivations.specs.Bound.{sum_of}
use Rattle.trees.specs.ValidTrees.{bars}
use Rattle.trees.specs.Instance.{onsets_in}
use Rattle.trees.specs.Depth.{depth}

-- the most nodes that a tree has, a byte each: one for each of 64 bars and 80 for each of 512 onsets (`Theorems`' `nodes_most`)
abbrev pub tree_most : ℕ
tree_most = 41024

module _ (s : Sheet) where
  -- an amount for each item: b, and f of its length for each onset inside
  abbrev pub share : (b : ℕ) (f : ℕ → ℕ) → Item → ℕ
  share b f g = b + f g.len * onsets_in s g.left g.len

  -- the room of an item: one node, and eight for each onset inside and each division that may follow
  abbrev pub room : Item → ℕ
  room = share 1 (λ n. 8 * depth n)

  -- how far the onsets inside can be from their places
  abbrev pub reach : Item → ℕ
  reach = share 0 (λ n. n)

  -- A stretch: items in a row with no more room and reach than 64 bars with 512 onsets have. The bars are one, and so are the items that
  -- are left at any moment of a derivation from the bars, and any front of them: all that a tree's part can be read against.
  pub record Stretch (gs : List Item) : Type 0 where
    pub nodes : sum_of room gs ≤ tree_most
    pub distances : sum_of reach gs ≤ 10321920

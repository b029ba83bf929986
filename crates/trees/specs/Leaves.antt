-- The leaves of a valid tree, computed from its list: a valid tree is given with a forest that it is the writing of, and a writer of score
-- lines has the list alone. So the entries of a valid tree are those of the leaves computed here.
use Rattle.std.specs.Prelude.{ℕ, ◌/◌, length}
use mathlib.Core.List.{List, [], ◌∷◌, ◌++◌}
use Rattle.std.proofs.Math.Option.{none, some}
use Rattle.sheet.specs.Sheet.{division, leaf, Sheet}
use Rattle.derivations.specs.Derivation.{Item}
use Rattle.trees.specs.ValidTrees.{adjoining, bars, rule_at, Leaf}
use Rattle.trees.specs.ValidTrees.{Entry, entries}

-- the leaf at an item, under a rule of this n
abbrev pub leaf_at : Item → ℕ → Leaf
leaf_at g n = record { left = g.left; len = g.len; n = n }

-- The leaves of a list that is read against items as `derive` reads it: each number is the rule of the first item, and the parts of a
-- division come before the items that follow. Heads, kinds and the division rule are not looked at: of a list that is no valid tree nothing
-- is promised.
unfoldable pub leaves_from : Sheet → List ℕ → List Item → List Leaf
leaves_from s [] gs = []
leaves_from s (r ∷ bs) [] = []
leaves_from s (r ∷ bs) (g ∷ gs) = elim (rule_at s r) [
  | none ↦ []
  | some ru ↦ elim ru [
    | division h w ks ↦ leaves_from s bs (adjoining g.left (g.len / length ks) ks ++ gs)
    | leaf h w n ↦ leaf_at g n ∷ leaves_from s bs gs
  ]
]

-- the leaves of a list that is read against the bars, and these leaves with their placed onsets
abbrev pub leaves_of : Sheet → List ℕ → List Leaf
leaves_of s bytes = leaves_from s bytes (bars s)

abbrev pub entries_of : Sheet → List ℕ → List Entry
entries_of s bytes = entries s (leaves_of s bytes)

-- Valid trees as code and search use them: the derivations of a sheet's instance. `Equivalence` shows that a list is derived at a price
-- exactly when it is a valid tree, in the sense of `ValidTrees`, with that R and D.
use Rattle.std.specs.Prelude.{ℕ, ◌+◌, ◌/◌, ◌≡◌, cond, List, [], eqb, leb}
use Rattle.std.proofs.Math.Option.{Option, none, some, Option-elim}
use Rattle.std.proofs.Math.ListN.{length}
use Rattle.sheet.specs.Sheet.{Rule, division, leaf, Sheet}
use Rattle.derivations.specs.Derivation.{Item, Expansion, Instance, derive}
use Rattle.trees.specs.ValidTrees.{inside, early, late, onsets_before, adjoining, bars, rule_at, may_divide, token, weight_at, distance_to}

-- A late onset is placed at the next leaf's left bound, which is this leaf's right bound. So its distance belongs to the leaf that it lies
-- in, and of the onsets carried in only their number matters.
module _ (s : Sheet) (left len : ℕ) where
  -- how many onsets lie inside, how many of them are early, how many late
  unfoldable pub onsets_in : ℕ
  unfolding inside
  onsets_in = length (inside s left len)

  unfoldable pub early_count : ℕ
  unfolding early inside
  early_count = length (early s left len)

  unfoldable pub late_count : ℕ
  unfolding late inside
  late_count = length (late s left len)

  -- how far they are from their places
  unfoldable pub own_distance : ℕ
  unfolding early late inside
  own_distance = distance_to left (early s left len) + distance_to (left + len) (late s left len)

-- what a leaf and what a division makes of an item
unfoldable pub at_leaf : Sheet → Item → Expansion
at_leaf s g = record { parts = []; carry = late_count s g.left g.len; distance = own_distance s g.left g.len }

unfoldable pub at_division : Item → (carried : ℕ) → List ℕ → Expansion
at_division g c ks = record { parts = adjoining g.left (g.len / length ks) ks; carry = c; distance = 0 }

-- a rule at an item that c onsets are carried into: its head is the item's nonterminal, a leaf's n fits and at most three are late, a
-- division is allowed
unfoldable pub expand_by : Sheet → Item → ℕ → Rule → Option Expansion
unfolding at_leaf at_division early_count late_count own_distance onsets_before may_divide
expand_by s g c (leaf h w n) =
    cond (eqb h g.nonterminal)
    (cond (leb (late_count s g.left g.len) 3)
    (cond (eqb n (token (c + early_count s g.left g.len) (onsets_before s g.left))) (some (at_leaf s g)) none)
    none)
    none
expand_by s g c (division h w ks) =
    cond (eqb h g.nonterminal) (cond (may_divide s (length ks) g.left g.len) (some (at_division g c ks)) none) none

unfoldable pub instance_of : Sheet → Instance
unfolding expand_by weight_at
instance_of s =
    record {
      count = length s.grammar.rules;
      weight = weight_at s;
      expand = λ g c r. Option-elim (rule_at s r) none (expand_by s g c);
    }

-- the list is a valid tree with R and D, as the search sees it: nothing is carried in or out
unfoldable pub Derived : Sheet → (bytes : List ℕ) → (R D : ℕ) → Type 0
unfolding instance_of bars
Derived s bytes R D = derive (instance_of s) bytes (bars s) 0 ≡ some (record { carry = 0; weight = R; distance = D })

-- The rows of items with one onset inside and one before that nothing is carried into: what the functions that give cells 0 and 1 of them
-- are given and give. Cells 2 and 3 have no tree, since no more onsets are carried on than are inside.
use Rattle.std.specs.Prelude.{ℕ, ◌+◌, ◌-◌, ◌*◌, ◌/◌, ◌≤◌, ◌<◌, min, ◌≡◌, List, [], ◌∷◌, length}
use Rattle.std.proofs.Math.Option.{some}
use Rattle.sheet.specs.declared.clock.Units.{Units}
use Rattle.sheet.specs.Sheet.{division, Sheet}
use Rattle.trees.specs.ValidTrees.{rule_at, token}
use Rattle.trees.specs.Instance.{onsets_in}
use Rattle.trees.specs.LeastTotal.{NONE}
use Rattle.expansions.specs.Tables.{UnitsHeld, last_unit}
use Rattle.expansions.specs.Items.{first_at}
use Rattle.plan.specs.Plan.{Prepared, lengths, length_at, leaf_cell, way_cell, Divides}
use Rattle.rows.specs.declared.slots.Bar.{Bar}
use Rattle.rows.specs.declared.one.Pair.{Pair}
use Rattle.rows.specs.OnsetLaws.{unit_at}
use Rattle.rows.specs.Slots.{item_at, Stands, Inhabited, Sound}
use Rattle.rows.specs.Rows.{SolveEntry}
use Rattle.rows.specs.PackedTurnLaws.{packed_to}
use Rattle.rows.specs.TurnLaws.{Ruled}

-- the row with cells 0 and 1
abbrev pub pair_row : Pair → List ℕ
pair_row x = x.zero ∷ x.one ∷ 64 * NONE ∷ 64 * NONE ∷ []

-- an interval with an onset inside, of which it is asked whether it is the only one
pub record AloneEntry (s : Sheet) (plan units : List ℕ) (l : ℕ) (left : Units) (from : ℕ) : Type 0 where
  pub prepared : Prepared s plan
  pub onsets : UnitsHeld s units
  pub length_in : l < lengths s
  pub near : left.0 + length_at s l ≤ last_unit
  pub first : from ≡ first_at s left.0
  pub inhabited : Inhabited s l left

-- an item with one onset inside and one before it
pub record OnePart (s : Sheet) (plan units rows : List ℕ) (bar : Bar) (q l : ℕ) (left : Units) (from : ℕ) : Type 0 where
  pub stands : Stands s plan units bar q l left from
  pub begun : 0 < from
  pub one : onsets_in s left.0 (length_at s l) ≡ 1
  pub sound : Sound s rows

-- and the place of its row from carry state 0
pub record OneEntry (s : Sheet) (plan units rows : List ℕ) (bar : Bar) (q l : ℕ) (left : Units) (from at : ℕ) : Type 0 where
  pub entry : SolveEntry s plan units rows bar q l left from 0 at
  pub begun : 0 < from
  pub one : onsets_in s left.0 (length_at s l) ≡ 1

-- cells 0 and 1 of a leaf of nonterminal q, with an onset before it, whose only onset is d behind its left bound: an onset in the first
-- half is early
pub record LeafOne (plan : List ℕ) (q len d : ℕ) (x : Pair) : Type 0 where
  pub early : 2 * d < len → (x.zero ≡ min (64 * NONE) (leaf_cell plan q (token 1 1) + 64 * d)) × (x.one ≡ 64 * NONE)
  pub late : len ≤ 2 * d → (x.zero ≡ 64 * NONE) × (x.one ≡ min (64 * NONE) (leaf_cell plan q (token 0 1) + 64 * (len - d)))

-- what rule r comes to where only its part j has an onset, of which y are cells 0 and 1; the plan has what the other parts and the rule
-- add
abbrev pub by_way : (plan : List ℕ) (r j : ℕ) → Pair → Pair
by_way plan r j y = record {
  zero = min (y.zero / 64 * 64 + way_cell plan r j 0) (y.one / 64 * 64 + way_cell plan r j 1);
  one = y.one / 64 * 64 + way_cell plan r j 2;
}

-- part j of a division, and cells of it that fit
pub record WayEntry (s : Sheet) (plan : List ℕ) (r j : ℕ) (y : Pair) : Type 0 where
  pub prepared : Prepared s plan
  pub head : ℕ
  pub weight : ℕ
  pub parts : List ℕ
  pub rule : rule_at s r ≡ some (division head weight parts)
  pub within : j < length parts
  pub zero_low : y.zero ≤ 64 * NONE
  pub one_low : y.one ≤ 64 * NONE

-- rule r comes to x at an interval of nonterminal q: the lesser of what the rules before it come to and of x is what they and it come to
pub record Comes (s : Sheet) (q l : ℕ) (left : Units) (r : ℕ) (x : Pair) : Type 0 where
  pub zeroth : packed_to s (item_at s q l left) 0 (r + 1) 0 ≡ min (packed_to s (item_at s q l left) 0 r 0) x.zero
  pub first : packed_to s (item_at s q l left) 0 (r + 1) 1 ≡ min (packed_to s (item_at s q l left) 0 r 1) x.one

-- rule r divides an item with one onset, d behind its left bound, and one before it, into parts of the length with index l; the rules
-- before r are done
pub record OneRule (s : Sheet) (plan units rows : List ℕ) (bar : Bar) (r l : ℕ) (left : Units) (from d : ℕ) (best : Pair) : Type 0 where
  pub q : ℕ
  pub whole : ℕ
  pub arity : ℕ
  pub stands : Stands s plan units bar q whole left from
  pub begun : 0 < from
  pub one : onsets_in s left.0 (length_at s whole) ≡ 1
  pub divides : Divides s q whole r arity l
  pub along : d ≡ unit_at s from - left.0
  pub done : Ruled s rows (item_at s q whole left) 0 r (pair_row best)

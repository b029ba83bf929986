-- One rule at one item, as functions compute it: what they are given, and what they give.
use Rattle.std.specs.Prelude.{ℕ, ◌+◌, ◌≤◌, ◌≡◌, true, false, List, length, Option, Some, None}
use Rattle.std.proofs.Math.Option.{none, some}
use Rattle.sheet.specs.Sheet.{division, leaf, Sheet}
use Rattle.sheet.specs.Held.{units}
use Rattle.derivations.specs.Derivation.{Item}
use Rattle.trees.specs.ValidTrees.{onsets_before, rule_at, may_divide, token}
use Rattle.trees.specs.Instance.{early_count, late_count, own_distance, at_leaf, at_division, instance_of}
use Rattle.expansions.specs.declared.Interval.{Interval}
use Rattle.expansions.specs.declared.Placed.{Placed}
use Rattle.expansions.specs.declared.Expansion.{Expansion}
use Rattle.expansions.specs.declared.Expansion.TheVariants.{Leaf, Division}
use Rattle.expansions.specs.Tables.{RulesHeld, UnitsHeld, last_unit}

-- an interval by its numbers
abbrev pub interval : (left len : ℕ) → Interval
interval left len = record { left = units left; len = units len }

-- the place of the first onset at or behind unit u: how many onsets are before it
abbrev pub first_at : Sheet → ℕ → ℕ
first_at s u = onsets_before s u

-- the units are those of the sheet, the interval is within the longest piece, and `from` is the first onset at or behind its left bound
pub record Here (s : Sheet) (units : List ℕ) (over : Interval) (from : ℕ) : Type 0 where
  pub onsets : UnitsHeld s units
  pub within : over.left.0 + over.len.0 ≤ last_unit
  pub first : from ≡ first_at s over.left.0

-- and at most three onsets are carried in
pub record Entered (s : Sheet) (units : List ℕ) (over : Interval) (from carried : ℕ) : Type 0 where
  pub here : Here s units over from
  pub few : carried ≤ 3

-- and the rules are those of the sheet
pub record At (s : Sheet) (cells units : List ℕ) (over : Interval) (from carried : ℕ) : Type 0 where
  pub rules : RulesHeld s cells
  pub entered : Entered s units over from carried

-- of the onsets inside an interval e are early and l late, and they are d units from their places
pub record Counts (s : Sheet) (left len e l d : ℕ) : Type 0 where
  pub early : e ≡ early_count s left len
  pub late : l ≡ late_count s left len
  pub distance : d ≡ own_distance s left len

-- what `place` gives
abbrev pub PlacedAt : Sheet → Interval → Placed → Type 0
PlacedAt s over p = Counts s over.left.0 over.len.0 p.early p.late p.distance

abbrev pub item_of : ℕ → Interval → Item
item_of q over = record { nonterminal = q; left = over.left.0; len = over.len.0 }

-- a leaf of this n fits the interval, into which c onsets are carried
pub record LeafFits (s : Sheet) (left len c n : ℕ) (e l d : ℕ) : Type 0 where
  pub counts : Counts s left len e l d
  pub kind : n ≡ token (c + e) (first_at s left)
  pub few : l ≤ 3

-- it does not: more than three are late, or n is not the token kind of what is placed and of what lies before
abbrev pub LeafUnfit : Sheet → Interval → ℕ → ℕ → Type 0
LeafUnfit s over c n =
    late_count s over.left.0 over.len.0 ≤ 3
    → n ≡ token (c + early_count s over.left.0 over.len.0) (first_at s over.left.0) → ⊥

-- what `leaf_at` gives
abbrev pub AsLeaf : Sheet → Interval → ℕ → ℕ → ℕ → Option Expansion → Type 0
AsLeaf s over c w n None = LeafUnfit s over c n
AsLeaf s over c w n (Some (Leaf v e l d)) = (v ≡ w) × LeafFits s over.left.0 over.len.0 c n e l d
AsLeaf s over c w n (Some (Division v k)) = ⊥

-- what `division_at` gives, of a division of weight w into k parts
abbrev pub AsDivision : Sheet → Interval → ℕ → ℕ → Option Expansion → Type 0
AsDivision s over w k None = (k ≡ 0 → ⊥) → may_divide s k over.left.0 over.len.0 ≡ false
AsDivision s over w k (Some (Leaf v e l d)) = ⊥
AsDivision s over w k (Some (Division v a)) = (v ≡ w) × (a ≡ k) × (may_divide s k over.left.0 over.len.0 ≡ true) × (a ≡ 0 → ⊥)

-- rule r is a leaf that fits the item
pub record LeafMade (s : Sheet) (g : Item) (c r : ℕ) (w e l d : ℕ) : Type 0 where
  pub n : ℕ
  pub rule : rule_at s r ≡ some (leaf g.nonterminal w n)
  pub expands : (instance_of s).expand g c r ≡ some (at_leaf s g)
  pub fits : LeafFits s g.left g.len c n e l d

-- rule r is a division into k parts that is allowed at the item
pub record DivisionMade (s : Sheet) (g : Item) (c r : ℕ) (w k : ℕ) : Type 0 where
  pub parts : List ℕ
  pub rule : rule_at s r ≡ some (division g.nonterminal w parts)
  pub count : k ≡ length parts
  pub allowed : may_divide s (length parts) g.left g.len ≡ true
  pub expands : (instance_of s).expand g c r ≡ some (at_division g c parts)

-- what `expand` gives: the instance's expansion
abbrev pub Expands : Sheet → Item → ℕ → ℕ → Option Expansion → Type 0
Expands s g c r None = (instance_of s).expand g c r ≡ none
Expands s g c r (Some (Leaf w e l d)) = LeafMade s g c r w e l d
Expands s g c r (Some (Division w k)) = DivisionMade s g c r w k

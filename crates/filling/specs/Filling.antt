-- Rows with one onset filled ahead: what the functions that fill them are given and give. The cells of an onset's intervals stand in a
-- scratch array by length and nonterminal, since a division's part is shorter than the whole and has the same onset.
use Rattle.std.specs.Prelude.{◌≡◌, ℕ, ◌+◌, ◌-◌, ◌*◌, ◌/◌, ◌%◌, ◌<◌, ◌≤◌, min, Bool, true, false, List, length, Option, ◌≢◌, slice_index}
use Rattle.std.proofs.Math.Option.{some}
use Rattle.sheet.specs.declared.clock.Units.{Units}
use Rattle.sheet.specs.Sheet.{division, Sheet, bar_units}
use Rattle.sheet.specs.Held.{units}
use Rattle.trees.specs.ValidTrees.{rule_at}
use Rattle.trees.specs.Instance.{onsets_in}
use Rattle.trees.specs.Intervals.{Aligned}
use Rattle.expansions.specs.Items.{first_at}
use Rattle.plan.specs.Plan.{lengths, length_at, arity_of}
use Rattle.rows.specs.declared.slots.Bar.{Bar}
use Rattle.rows.specs.OnsetLaws.{unit_at}
use Rattle.rows.specs.PackedLaws.{packed_cell}
use Rattle.rows.specs.PackedTurnLaws.{packed_to}
use Rattle.rows.specs.Slots.{item_at, InBar, Sound}
use Rattle.rows.specs.One.{LeafOne}
use Rattle.filling.specs.Order.{IsDivision, UsedOf, first_of, used_in, ByArity, Ordered}

-- what `fill_bar` is given
pub record FillEntry (s : Sheet) (plan us : List ℕ) (order : Option (List ℕ)) (rows : List ℕ) (bar : Bar) : Type 0 where
  pub in_bar_lem : InBar s plan us bar
  pub ordered : Ordered s order
  pub sound : Sound s rows

-- ---- an onset and its intervals

-- `from` is the place of an onset of the bar
pub record OfBar (s : Sheet) (plan us : List ℕ) (bar : Bar) (from : ℕ) : Type 0 where
  pub in_bar_lem : InBar s plan us bar
  pub behind : bar.first ≤ from
  pub before : from < first_at s (bar.number * bar_units + bar_units)

-- the interval from `left` on that has the length with index l lies in the bar, at a multiple of its length, the onset at place `from` is
-- the only one inside, and one lies before
pub record Lone (s : Sheet) (bar : Bar) (l : ℕ) (left : Units) (from : ℕ) : Type 0 where
  pub length_in : l < lengths s
  pub aligned : (q : ℕ) → Aligned (bar.number * bar_units) (item_at s q l left)
  pub first : from ≡ first_at s left.0
  pub begun : 0 < from
  pub one : onsets_in s left.0 (length_at s l) ≡ 1

-- the cells of the lengths from index n on where the onset is alone, for each nonterminal in use: cells 0 and 1 of its row
pub record Filled (s : Sheet) (order pairs : List ℕ) (bar : Bar) (from n : ℕ) : Type 0 where
  pub size : length pairs ≡ 2688
  pub cell : (l : ℕ) (left : Units) → n ≤ l → Lone s bar l left from → (q m : ℕ) → q < used_in order → m < 2
      → slice_index pairs (32 * l + 2 * q + m) ≡ packed_cell s (item_at s q l left) 0 m

-- ---- the cells of one interval

-- rule r is met: the cells of its head are no more than what it comes to
pub record Met (s : Sheet) (best : List ℕ) (l : ℕ) (left : Units) (r : ℕ) : Type 0 where
  pub low : (q w : ℕ) (ks : List ℕ) → rule_at s r ≡ some (division q w ks) → (m : ℕ) → m < 2
      → min (packed_to s (item_at s q l left) 0 r m) (slice_index best (2 * q + m)) ≤ packed_to s (item_at s q l left) 0 (r + 1) m

-- the leaf and all rules of fewer than k parts are met, and no cell is less than the row's
pub record Best (s : Sheet) (order best : List ℕ) (l : ℕ) (left : Units) (k : ℕ) : Type 0 where
  pub size : length best ≡ 32
  pub least : (q m : ℕ) → q < used_in order → m < 2 → packed_cell s (item_at s q l left) 0 m ≤ slice_index best (2 * q + m)
  pub leaf : (q m : ℕ) → q < used_in order → m < 2 → slice_index best (2 * q + m) ≤ packed_to s (item_at s q l left) 0 0 m
  pub met : (r : ℕ) → arity_of (rule_at s r) < k → Met s best l left r

-- the cells are the row's
pub record Solved (s : Sheet) (order best : List ℕ) (l : ℕ) (left : Units) : Type 0 where
  pub size : length best ≡ 32
  pub cell : (q m : ℕ) → q < used_in order → m < 2 → slice_index best (2 * q + m) ≡ packed_cell s (item_at s q l left) 0 m

-- ---- what each function is given and gives

-- whether the interval from `left` to `right` has no other onset than that at place `from`: as the cells beside it say
pub record LoneBy (us : List ℕ) (first from left right : ℕ) (x : Bool) : Type 0 where
  pub yes : x ≡ true → (right ≤ slice_index us (from + 1)) × ((from ≢ first) → slice_index us (from - 1) < left)
  pub no : x ≡ false → right ≤ slice_index us (from + 1) → ((from ≢ first) → slice_index us (from - 1) < left) → ⊥

-- the leaves of the first n nonterminals
pub record LeavesTo (plan best : List ℕ) (len d n : ℕ) : Type 0 where
  pub size : length best ≡ 32
  pub leaf : (q : ℕ) → q < n → LeafOne plan q len d (record { zero = slice_index best (2 * q); one = slice_index best (2 * q + 1) })

-- an interval with one onset in k parts of the length with index h: part j has the onset, and its cells are known for the first u
-- nonterminals, which are those in use
pub record PartKnown (s : Sheet) (plan pairs : List ℕ) (u k h j : ℕ) : Type 0 where
  pub us : List ℕ
  pub bar : Bar
  pub l : ℕ
  pub left : Units
  pub from : ℕ
  pub in_bar_lem : InBar s plan us bar
  pub lone : Lone s bar l left from
  pub used : UsedOf s 64 u
  pub part_in : h < lengths s
  pub whole : length_at s l ≡ k * length_at s h
  pub part : j ≡ (unit_at s from - left.0) / length_at s h
  pub size : length pairs ≡ 2688
  pub cell : (q m : ℕ) → q < u → m < 2
      → slice_index pairs (32 * h + 2 * q + m) ≡ packed_cell s (item_at s q h (units (left.0 + j * length_at s h))) 0 m

-- rule r divides it so
pub record RuleEntry (s : Sheet) (plan pairs : List ℕ) (r h j : ℕ) : Type 0 where
  pub u : ℕ
  pub k : ℕ
  pub known : PartKnown s plan pairs u k h j
  pub rule : IsDivision s r k

-- the rules of k parts are to be met
pub record ArityEntry (s : Sheet) (plan order pairs best : List ℕ) (k h j : ℕ) : Type 0 where
  pub known : PartKnown s plan pairs (used_in order) k h j
  pub ordered : ByArity s order
  pub two : 2 ≤ k
  pub eight : k ≤ 8
  pub done : Best s order best known.l known.left k

-- and those at the places before n are
pub record ArityTo (s : Sheet) (order best : List ℕ) (l : ℕ) (left : Units) (k n : ℕ) : Type 0 where
  pub done : Best s order best l left k
  pub met : (i : ℕ) → first_of order k ≤ i → i < n → Met s best l left (slice_index order i % 64)

-- all rules are to be met, where the onset is d behind the left bound; the cells of all shorter intervals are known
pub record LengthEntry (s : Sheet) (plan order pairs best : List ℕ) (l d : ℕ) : Type 0 where
  pub us : List ℕ
  pub bar : Bar
  pub left : Units
  pub from : ℕ
  pub in_bar_lem : InBar s plan us bar
  pub lone : Lone s bar l left from
  pub ordered : ByArity s order
  pub along : d ≡ unit_at s from - left.0
  pub filled : Filled s order pairs bar from (l + 1)
  pub done : Best s order best l left 2

-- the cells of an interval are to be stored
pub record KeepEntry (s : Sheet) (plan order rows pairs best : List ℕ) (bar : Bar) (l from : ℕ) : Type 0 where
  pub us : List ℕ
  pub left : Units
  pub in_bar_lem : InBar s plan us bar
  pub lone : Lone s bar l left from
  pub ordered : ByArity s order
  pub size : length pairs ≡ 2688
  pub solved : Solved s order best l left
  pub sound : Sound s rows

-- the cells of the first n nonterminals are stored, and those of shorter lengths are as before
pub record KeptTo (s : Sheet) (rows before pairs best : List ℕ) (l n : ℕ) : Type 0 where
  pub sound : Sound s rows
  pub size : length pairs ≡ 2688
  pub cell : (q m : ℕ) → q < n → m < 2 → slice_index pairs (32 * l + 2 * q + m) ≡ slice_index best (2 * q + m)
  pub kept : (i : ℕ) → 32 * l + 32 ≤ i → slice_index pairs i ≡ slice_index before i

-- an interval of an onset that is not the first of the piece, or all of them, are to be filled
pub record AtEntry (s : Sheet) (plan us order rows pairs best : List ℕ) (bar : Bar) (from l : ℕ) : Type 0 where
  pub of_bar : OfBar s plan us bar from
  pub begun : 0 < from
  pub ordered : ByArity s order
  pub sound : Sound s rows
  pub length_in : l < lengths s
  pub filled : Filled s order pairs bar from (l + 1)
  pub size : length best ≡ 32

pub record FilledAt (s : Sheet) (order rows pairs best : List ℕ) (bar : Bar) (from l : ℕ) : Type 0 where
  pub sound : Sound s rows
  pub filled : Filled s order pairs bar from l
  pub size : length best ≡ 32

pub record OnsetEntry (s : Sheet) (plan us order rows pairs : List ℕ) (bar : Bar) (from : ℕ) : Type 0 where
  pub of_bar : OfBar s plan us bar from
  pub ordered : ByArity s order
  pub sound : Sound s rows
  pub size : length pairs ≡ 2688

pub record OnsetFilled (s : Sheet) (rows pairs : List ℕ) : Type 0 where
  pub sound : Sound s rows
  pub size : length pairs ≡ 2688

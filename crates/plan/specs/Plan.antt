-- What the search looks up of a grammar, as a function of the sheet, and where it stands in the plan: one flat array of numbers that is
-- prepared once for a sheet.
use Rattle.std.specs.Prelude.{ℕ, ◌+◌, ◌-◌, ◌*◌, ◌%◌, ◌≤◌, ◌<◌, ◌≡◌, List, map, length, get_or, Option, IfSome, MatchOption, ◌≢◌}
use Rattle.std.proofs.Math.Option.{some}
use Rattle.groups.specs.Groups.{key_count, number_in}
use Rattle.sheet.specs.Sheet.{division, Sheet}
use Rattle.sheet.specs.Good.{GoodRules}
use Rattle.sheet.specs.Held.{parts_of, child_cells}
use Rattle.trees.specs.ValidTrees.{rule_at, token}
use Rattle.sizes.specs.Sizes.{largest, lengths_of, length_count}
use Rattle.expansions.specs.Tables.{PackedRules}
use Rattle.plan.specs.Layout.{kinds, children_at, leaves_at, lengths_at, part_lengths_at, order_at, first_at}
use Rattle.plan.specs.Layout.{savings_at, multiplier_at, nonterminals_at, length_count_at, ways_at}
use Rattle.plan.specs.declared.Shape.{Shape}
use Rattle.plan.specs.declared.Split.{Split}
unfoldable pub use Rattle.plan.specs.Leaves.{rule_count, leaf_cost, least_leaf}
unfoldable pub use Rattle.plan.specs.Heads.{arity_of}
use Rattle.plan.specs.Heads.{RuleGroup}
use Rattle.plan.specs.Packed.{packed_leaf}
use Rattle.plan.specs.Ways.{beside, one_to_zero, one_to_one}

-- ---- what is looked up

-- the number of lengths, and the length with index l, from the largest down
abbrev pub lengths : Sheet → ℕ
lengths s = length_count s.grammar.rules

abbrev pub length_at : Sheet → ℕ → ℕ
length_at s l = get_or (lengths_of s.grammar.rules) l 0

-- by how much a leaf of nonterminal q that e onsets are early in, with an onset before it, is cheaper with c onsets carried in than with
-- none; 0 where it is not. A leaf that no rule makes costs the cap, and is not cheaper than any.
abbrev pub saved_at : Sheet → (q c e : ℕ) → ℕ
saved_at s q c e = least_leaf s q (token e 1) - least_leaf s q (token (c + e) 1)

-- the most of it, over all nonterminals and kinds
unfoldable pub saved_by : Sheet → (c : ℕ) → ℕ
unfolding largest least_leaf
saved_by s c = largest (λ q. largest (saved_at s q c) 4) s.grammar.nonterminals

-- h is the index of the length with index l divided by k; where that is no length, h is past them
pub record PartLength (s : Sheet) (l k h : ℕ) : Type 0 where
  pub is : h < lengths s → length_at s l ≡ k * length_at s h
  pub none : lengths s ≤ h → (i : ℕ) → i < lengths s → length_at s l ≡ k * length_at s i → ⊥

-- ---- where it stands

abbrev pub child_cell : List ℕ → (r j : ℕ) → ℕ
child_cell plan r j = get_or plan (children_at + 8 * r + j) 0

-- a packed cell: 64 times the least cost, and its rule
abbrev pub leaf_cell : List ℕ → (q n : ℕ) → ℕ
leaf_cell plan q n = get_or plan (leaves_at + kinds * q + n) 0

abbrev pub length_cell : List ℕ → ℕ → ℕ
length_cell plan l = get_or plan (lengths_at + l) 0

abbrev pub part_cell : List ℕ → (l k : ℕ) → ℕ
part_cell plan l k = get_or plan (part_lengths_at + 9 * l + k) 0

-- a cell of the rules by head, and the number of its rule
abbrev pub order_cell : List ℕ → ℕ → ℕ
order_cell plan i = get_or plan (order_at + i) 0

abbrev pub rule_in : List ℕ → ℕ → ℕ
rule_in plan i = number_in (order_cell plan i)

-- the first place of the group with key k
abbrev pub place_cell : List ℕ → ℕ → ℕ
place_cell plan k = get_or plan (first_at + k) 0

-- the first place of the divisions of nonterminal q, and the place behind them, where its leaves begin
abbrev pub first_cell : List ℕ → ℕ → ℕ
first_cell plan q = place_cell plan (2 * q)

abbrev pub last_cell : List ℕ → ℕ → ℕ
last_cell plan q = place_cell plan (2 * q + 1)

-- place i is one of the divisions of nonterminal q
pub record DivisionAt (plan : List ℕ) (q i : ℕ) : Type 0 where
  pub head : q < 16
  pub begun : first_cell plan q ≤ i
  pub less : i < last_cell plan q

abbrev pub saved_cell : List ℕ → ℕ → ℕ
saved_cell plan c = get_or plan (savings_at + c) 0

abbrev pub multiplier_cell : List ℕ → ℕ
multiplier_cell plan = get_or plan multiplier_at 0

abbrev pub nonterminals_cell : List ℕ → ℕ
nonterminals_cell plan = get_or plan nonterminals_at 0

abbrev pub lengths_cell : List ℕ → ℕ
lengths_cell plan = get_or plan length_count_at 0

abbrev pub way_cell : List ℕ → (r j i : ℕ) → ℕ
way_cell plan r j i = get_or plan (ways_at + 3 * (8 * r + j) + i) 0

-- what is added to the cells of part j of rule r where only that part has an onset: to cell 0 to come to cell 0 of the whole, to cell 1 to
-- come to cell 0, and to cell 1 to come to cell 1
pub record WaysOf (s : Sheet) (plan : List ℕ) (r : ℕ) (ks : List ℕ) (j : ℕ) : Type 0 where
  pub straight : way_cell plan r j 0 ≡ beside s r ks j 0
  pub crossed : way_cell plan r j 1 ≡ one_to_zero s r ks j
  pub onward : way_cell plan r j 2 ≡ one_to_one s r ks j

-- the plan of a sheet
pub record Prepared (s : Sheet) (plan : List ℕ) : Type 0 where
  pub good : GoodRules s.grammar
  pub rules : PackedRules s.grammar plan
  pub child : (r j : ℕ) → r < 64 → j < 8 → child_cell plan r j ≡ get_or (child_cells (map parts_of s.grammar.rules)) (8 * r + j) 0
  pub leaves : (q n : ℕ) → q < 16 → n < kinds → leaf_cell plan q n ≡ packed_leaf s q n
  pub length-at : (l : ℕ) → l < 84 → length_cell plan l ≡ length_at s l
  pub part : (l k : ℕ) → l < lengths s → 2 ≤ k → k ≤ 8 → PartLength s l k (part_cell plan l k)
  pub group : (k : ℕ) → k < key_count → RuleGroup s (order_cell plan) k (place_cell plan k) (place_cell plan (k + 1))
  pub places : (k : ℕ) → k ≤ key_count → place_cell plan k ≤ rule_count s
  pub saved_are : (c : ℕ) → c < 4 → saved_cell plan c ≡ saved_by s c
  pub multiplier : multiplier_cell plan ≡ s.grammar.multiplier
  pub nonterminals : nonterminals_cell plan ≡ s.grammar.nonterminals
  pub lengths_are : lengths_cell plan ≡ lengths s
  pub ways : (r j q w : ℕ) (ks : List ℕ) → rule_at s r ≡ some (division q w ks) → j < length ks → WaysOf s plan r ks j

-- ---- a rule as a division

-- rule r is a division of the shape x
pub record HasShape (s : Sheet) (r : ℕ) (x : Shape) : Type 0 where
  pub arity : x.arity ≡ arity_of (rule_at s r)
  pub some_parts : x.arity ≢ 0
  pub head : (q w : ℕ) (ks : List ℕ) → rule_at s r ≡ some (division q w ks) → x.head ≡ q

-- what `shape_at` gives: None where the rule has no parts
abbrev pub ShapeAt : Sheet → (r : ℕ) → Option Shape → Type 0
ShapeAt s r x = MatchOption x (arity_of (rule_at s r) ≡ 0) (HasShape s r)

-- ---- a rule at a nonterminal and a length

-- rule r divides intervals of nonterminal q and the length with index l into `arity` parts of the length with index `part`
pub record Divides (s : Sheet) (q l r arity part : ℕ) : Type 0 where
  pub weight : ℕ
  pub parts : List ℕ
  pub rule : rule_at s r ≡ some (division q weight parts)
  pub count : length parts ≡ arity
  pub shorter : part < lengths s
  pub whole : length_at s l ≡ arity * length_at s part

-- a split into parts is into 2 to 8 of them
abbrev pub InArities : Option Split → Type 0
InArities x = IfSome x (λ y. (2 ≤ y.arity) × (y.arity ≤ 8))

-- the length with index l is k parts of the length with index x.part
pub record HasParts (s : Sheet) (l k : ℕ) (x : Split) : Type 0 where
  pub into : x.arity ≡ k
  pub shorter : x.part < lengths s
  pub whole : length_at s l ≡ k * length_at s x.part

-- where k is an arity, no length is a k-th of the length with index l
abbrev pub NoParts : Sheet → (l k : ℕ) → Type 0
NoParts s l k = 2 ≤ k → k ≤ 8 → (i : ℕ) → i < lengths s → length_at s l ≡ k * length_at s i → ⊥

-- what `split_by` gives: None where there is no such part or k is no arity
abbrev pub PartsOf : Sheet → (l k : ℕ) → Option Split → Type 0
PartsOf s l k x = MatchOption x (NoParts s l k) (HasParts s l k)

-- rule r is no division of nonterminal q whose arity divides the length with index l
abbrev pub NoDivision : Sheet → (q l r : ℕ) → Type 0
NoDivision s q l r = (w : ℕ) (ks : List ℕ) → rule_at s r ≡ some (division q w ks) → length_at s l % length ks ≡ 0 → ⊥

-- what `split_at` gives: None where there is no division
abbrev pub SplitAt : Sheet → (q l r : ℕ) → Option Split → Type 0
SplitAt s q l r x = MatchOption x (NoDivision s q l r) (λ y. Divides s q l r y.arity y.part)

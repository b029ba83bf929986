-- What the functions that prepare the plan give: the packed leaf cells as a table, the index of a part, the ways, and the plan section
-- after section, over the tables that it comes from.
use Rattle.std.specs.Prelude.{ℕ, ◌+◌, ◌*◌, ◌/◌, ◌≤◌, ◌<◌, ◌≡◌, cond, List, map, ltb, length, get_or}
use Rattle.std.proofs.Math.Option.{some}
use Rattle.groups.specs.Groups.{first_cells}
use Rattle.sheet.specs.Sheet.{division, Sheet}
use Rattle.sheet.specs.Good.{GoodRules}
use Rattle.sheet.specs.Held.{parts_of, child_cells}
use Rattle.trees.specs.ValidTrees.{rule_at, token, weight_at}
use Rattle.trees.specs.LeastTotal.{NONE}
use Rattle.expansions.specs.Tables.{RulesHeld}
use Rattle.plan.specs.Layout.{kinds, leaf_cells, children_at, leaves_at, part_lengths_at, order_at, savings_at, ways_at, plan_cells}
use Rattle.plan.specs.Leaves.{leaf_cost}
use Rattle.plan.specs.Packed.{packed, packed_leaf}
use Rattle.plan.specs.Ways.{beside_sum, beside, one_to_zero, one_to_one}
use Rattle.plan.specs.Plan.{length_cell, part_cell, order_cell, place_cell, saved_by, saved_cell, way_cell}
use Rattle.plan.specs.Plan.{multiplier_cell, nonterminals_cell, lengths_cell}

-- the packed leaf cells, a place for each kind of a nonterminal
abbrev pub PackedLeaves : Sheet → List ℕ → Type 0
PackedLeaves s leaves = (q n : ℕ) → q < 16 → n < kinds → get_or leaves (kinds * q + n) 0 ≡ packed_leaf s q n

-- the same of the first i rules
abbrev pub PackedUpto : Sheet → List ℕ → ℕ → Type 0
PackedUpto s leaves i =
    (q n : ℕ) → q < 16 → n < kinds
    → get_or leaves (kinds * q + n) 0 ≡ packed NONE (λ r. leaf_cost s.grammar.multiplier q n (rule_at s r)) i

-- of the first `count` cells, h is the place of one that is a k-th of the cell at l; where there is none, h is past them
pub record PartAmong (lens : List ℕ) (count l k h : ℕ) : Type 0 where
  pub is : h < count → get_or lens l 0 ≡ k * get_or lens h 0
  pub none : count ≤ h → (i : ℕ) → i < count → get_or lens l 0 ≡ k * get_or lens i 0 → ⊥

-- x is the most that a leaf of a nonterminal below `heads` is cheaper with c onsets carried in
abbrev pub MostSaved : (leaves : List ℕ) (heads c x : ℕ) → Type 0
MostSaved leaves heads c x = (s : Sheet) → GoodRules s.grammar → PackedLeaves s leaves → heads ≡ s.grammar.nonterminals
    → x ≡ saved_by s c

-- every cell fits 32 bits; an array behind a reference does not tell this by its type
abbrev pub Small : List ℕ → Type 0
Small xs = (i : ℕ) → get_or xs i 0 < 4294967296

-- and 64 bits
abbrev pub Wide : List ℕ → Type 0
Wide xs = (i : ℕ) → get_or xs i 0 < 18446744073709551616

-- the first `count` cells fall
abbrev pub Falling : (lens : List ℕ) (count : ℕ) → Type 0
Falling lens count = (i j : ℕ) → i < j → j < count → get_or lens j 0 < get_or lens i 0

-- h is the first place of the first `count` cells of which k times are no more than the cell at l
pub record Beyond (lens : List ℕ) (count l k h : ℕ) : Type 0 where
  pub within : h ≤ count
  pub above : (i : ℕ) → i < h → get_or lens l 0 < k * get_or lens i 0
  pub at_most : h < count → k * get_or lens h 0 ≤ get_or lens l 0

-- ---- ways

-- the children and the packed leaf cells are a sheet's
pub record PartsHeld (s : Sheet) (children leaves : List ℕ) : Type 0 where
  pub good : GoodRules s.grammar
  pub children_are : children ≡ child_cells (map parts_of s.grammar.rules)
  pub leaves_are : PackedLeaves s leaves

-- and its rule r is a division into the k parts ks
pub record DivisionHeld (s : Sheet) (children leaves : List ℕ) (r k : ℕ) (ks : List ℕ) : Type 0 where
  pub tables : PartsHeld s children leaves
  pub head : ℕ
  pub weight : ℕ
  pub rule : rule_at s r ≡ some (division head weight ks)
  pub count : k ≡ length ks

-- x is way i at part j of rule r, a division into the parts ks
pub record WayIs (s : Sheet) (r : ℕ) (ks : List ℕ) (j i x : ℕ) : Type 0 where
  pub straight : i ≡ 0 → x ≡ beside s r ks j 0
  pub crossed : i ≡ 1 → x ≡ one_to_zero s r ks j
  pub onward : i ≡ 2 → x ≡ one_to_one s r ks j

-- what the code adds up: a leaf of nonterminal q with n placed, and part i of rule r as a leaf of nothing
abbrev pub placed_in : (leaves : List ℕ) (q n : ℕ) → ℕ
placed_in leaves q n = cond (ltb q 16) (get_or leaves (kinds * q + token n 1) 0 / 64) 0

abbrev pub rest_in : (children leaves : List ℕ) (r i : ℕ) → ℕ
rest_in children leaves r i = placed_in leaves (get_or children (8 * r + i) 0) 0

-- the three ways of part j of rule r are stored, and the cells before them kept
pub record WaysPut (before after : List ℕ) (r j straight crossed onward : ℕ) : Type 0 where
  pub size : length after ≡ length before
  pub first : way_cell after r j 0 ≡ straight
  pub second : way_cell after r j 1 ≡ crossed
  pub third : way_cell after r j 2 ≡ onward
  pub kept : (i : ℕ) → i < ways_at + 3 * (8 * r + j) → get_or after i 0 ≡ get_or before i 0

-- the ways of part j of rule r, of k parts, where the rule and the other parts cost x
pub record PartWays (children leaves : List ℕ) (x r k j : ℕ) (before after : List ℕ) : Type 0 where
  pub size : length after ≡ length before
  pub each : (s : Sheet) (ks : List ℕ) → DivisionHeld s children leaves r k ks
      → x ≡ s.grammar.multiplier * weight_at s r + beside_sum s ks j 0 → (i : ℕ) → i < 3
      → WayIs s r ks j i (way_cell after r j i)
  pub kept : (i : ℕ) → i < ways_at + 3 * (8 * r + j) → get_or after i 0 ≡ get_or before i 0

-- the ways of the first m of its parts, where the rule costs so much
pub record DivisionWays (children leaves : List ℕ) (cost r k : ℕ) (before after : List ℕ) (m : ℕ) : Type 0 where
  pub size : length after ≡ length before
  pub each : (s : Sheet) (ks : List ℕ) → DivisionHeld s children leaves r k ks → cost ≡ s.grammar.multiplier * weight_at s r
      → (j i : ℕ) → j < m → i < 3 → WayIs s r ks j i (way_cell after r j i)
  pub kept : (i : ℕ) → i < ways_at + 24 * r → get_or after i 0 ≡ get_or before i 0

-- the same of the rule in the table, where it is a division
abbrev pub WayOf : (rules children leaves : List ℕ) (a r j i x : ℕ) → Type 0
WayOf rules children leaves a r j i x =
    (s : Sheet) → RulesHeld s rules → PartsHeld s children leaves → a ≡ s.grammar.multiplier → (q w : ℕ) (ks : List ℕ)
    → rule_at s r ≡ some (division q w ks) → j < length ks → WayIs s r ks j i x

-- ---- sections, laid one behind the other

-- the m cells from `at` on are f 0, f 1 and so on; those before them are kept
pub record Laid (f : ℕ → ℕ) (before after : List ℕ) (at m : ℕ) : Type 0 where
  pub size : length after ≡ length before
  pub each : (i : ℕ) → i < m → get_or after (at + i) 0 ≡ f i
  pub kept : (i : ℕ) → i < at → get_or after i 0 ≡ get_or before i 0

-- the rules, the nonterminals of their parts, the leaves and the lengths
pub record TablesLaid (rules children leaves lens plan : List ℕ) : Type 0 where
  pub size : length plan ≡ plan_cells
  pub rule : (i : ℕ) → i < 64 → get_or plan i 0 ≡ get_or rules i 0
  pub child : (i : ℕ) → i < 512 → get_or plan (children_at + i) 0 ≡ get_or children i 0
  pub leaf : (i : ℕ) → i < leaf_cells → get_or plan (leaves_at + i) 0 ≡ get_or leaves i 0
  pub length-at : (i : ℕ) → i < 84 → length_cell plan i ≡ get_or lens i 0

-- the parts of the length with index l by the arities below m
pub record PartsOfLaid (lens : List ℕ) (count l : ℕ) (before after : List ℕ) (m : ℕ) : Type 0 where
  pub size : length after ≡ length before
  pub each : (k : ℕ) → 2 ≤ k → k < m → PartAmong lens count l k (part_cell after l k)
  pub kept : (i : ℕ) → i < part_lengths_at + 9 * l → get_or after i 0 ≡ get_or before i 0

-- the parts of the first m lengths
pub record PartsLaid (lens : List ℕ) (count : ℕ) (before after : List ℕ) (m : ℕ) : Type 0 where
  pub size : length after ≡ length before
  pub each : (l k : ℕ) → l < m → 2 ≤ k → k < 9 → PartAmong lens count l k (part_cell after l k)
  pub kept : (i : ℕ) → i < part_lengths_at → get_or after i 0 ≡ get_or before i 0

-- the rules by head, and the first place of each group
pub record GroupsLaid (order first before after : List ℕ) : Type 0 where
  pub size : length after ≡ length before
  pub order_at_lem : (i : ℕ) → i < 64 → order_cell after i ≡ get_or order i 0
  pub first_at_lem : (k : ℕ) → k < first_cells → place_cell after k ≡ get_or first k 0
  pub kept : (i : ℕ) → i < order_at → get_or after i 0 ≡ get_or before i 0

-- what each carry state saves, the multiplier, the number of nonterminals and the number of lengths
pub record NumbersLaid (leaves : List ℕ) (a heads count : ℕ) (before after : List ℕ) : Type 0 where
  pub size : length after ≡ length before
  pub saved : (c : ℕ) → c < 4 → MostSaved leaves heads c (saved_cell after c)
  pub multiplier : multiplier_cell after ≡ a
  pub nonterminals : nonterminals_cell after ≡ heads
  pub lengths : lengths_cell after ≡ count
  pub kept : (i : ℕ) → i < savings_at → get_or after i 0 ≡ get_or before i 0

-- the ways of the first n rules
pub record WaysLaid (rules children leaves : List ℕ) (a : ℕ) (before after : List ℕ) (n : ℕ) : Type 0 where
  pub size : length after ≡ length before
  pub each : (r j i : ℕ) → r < n → i < 3 → WayOf rules children leaves a r j i (way_cell after r j i)
  pub kept : (i : ℕ) → i < ways_at → get_or after i 0 ≡ get_or before i 0

-- all of them
pub record Sections (rules children leaves lens order first : List ℕ) (a heads count n : ℕ) (plan : List ℕ) : Type 0 where
  pub rule : (i : ℕ) → i < 64 → get_or plan i 0 ≡ get_or rules i 0
  pub child : (i : ℕ) → i < 512 → get_or plan (children_at + i) 0 ≡ get_or children i 0
  pub leaf : (i : ℕ) → i < leaf_cells → get_or plan (leaves_at + i) 0 ≡ get_or leaves i 0
  pub length-at : (i : ℕ) → i < 84 → length_cell plan i ≡ get_or lens i 0
  pub part : (l k : ℕ) → l < count → 2 ≤ k → k < 9 → PartAmong lens count l k (part_cell plan l k)
  pub order_at_lem : (i : ℕ) → i < 64 → order_cell plan i ≡ get_or order i 0
  pub first_at_lem : (k : ℕ) → k < first_cells → place_cell plan k ≡ get_or first k 0
  pub saved : (c : ℕ) → c < 4 → MostSaved leaves heads c (saved_cell plan c)
  pub multiplier : multiplier_cell plan ≡ a
  pub nonterminals : nonterminals_cell plan ≡ heads
  pub lengths : lengths_cell plan ≡ count
  pub way : (r j i : ℕ) → r < n → i < 3 → WayOf rules children leaves a r j i (way_cell plan r j i)

-- Writing the first least list of an item, from its row and the suffix costs behind it. What the functions are given, and what they give.
use Rattle.std.specs.Prelude.{ℕ, ◌+◌, ◌*◌, ◌≤◌, ◌<◌, ◌≡◌, List, [], ◌∷◌, ◌++◌, ◌⊎◌, length, drop, get_or}
use Rattle.slices.specs.Over.{over_from}
use Rattle.sheet.specs.declared.clock.Units.{Units}
use Rattle.sheet.specs.Sheet.{Sheet}
use Rattle.derivations.specs.Derivation.{Item, Price, ◌⊞◌}
use Rattle.derivations.specs.Bound.{sum_of}
use Rattle.derivations.specs.Minima.{FirstPlace}
use Rattle.derivations.specs.First.{First}
use Rattle.derivations.specs.Folds.{rule_total, backward}
use Rattle.trees.specs.ValidTrees.{adjoining}
use Rattle.trees.specs.Instance.{instance_of}
use Rattle.trees.specs.LeastTotal.{NONE, carries, cell_of}
use Rattle.trees.specs.Room.{room}
use Rattle.plan.specs.Plan.{length_at, rule_count}
use Rattle.rows.specs.declared.slots.Bar.{Bar}
use Rattle.rows.specs.Vectors.{vec, Low}
use Rattle.rows.specs.PackedLaws.{packed_cell}
use Rattle.rows.specs.Slots.{item_at, Sound}
use Rattle.rows.specs.Rows.{Entry, PartsEntry, parts_at}
use Rattle.building.specs.declared.Built.{Built}

-- ---- suffix costs behind items

-- a vector, as a function of carry states
abbrev pub at : List ℕ → ℕ → ℕ
at v m = get_or v m 0

-- what items in a row total with the suffix costs v behind them, by the carry state that they are entered with
abbrev pub suffix_costs : Sheet → List Item → (ℕ → ℕ) → ℕ → ℕ
suffix_costs s gs v = backward carries NONE (cell_of s) gs v

-- the parts of a division from part j on
abbrev pub parts_from : Sheet → (l : ℕ) → Units → List ℕ → ℕ → List Item
parts_from s l left kids j = adjoining (left.0 + j * length_at s l) (length_at s l) (drop j kids)

-- no least list passes carry state m between an item with the totals y and the items behind it: there is none to m, or through 0 is cheaper
abbrev pub Dominated : Sheet → List Item → (y v : ℕ → ℕ) → ℕ → Type 0
Dominated s gs y v m = (NONE ≤ y m) ⊎ (y 0 + suffix_costs s gs v 0 < y m + suffix_costs s gs v m)

-- w is what the items total with v behind them, or the cap where no least list passes
abbrev pub Passed : Sheet → List Item → (y v : ℕ → ℕ) → (m w : ℕ) → Type 0
Passed s gs y v m w = (w ≡ suffix_costs s gs v m) ⊎ (Dominated s gs y v m × (NONE ≤ w))

-- the parts of rule r from part i on, k of the length with index l from `left` on, behind an item with the totals y
pub record SuffixPre (s : Sheet) (plan units rows : List ℕ) (bar : Bar) (r i k l : ℕ) (left : Units) (from c : ℕ) (y v : List ℕ) : Type 0
  where
    pub parts : PartsEntry s plan units rows bar r i k l left from c
    pub low_row : Low y
    pub low : Low v

-- w is what they total from c, or the cap
pub record PassedAs (s : Sheet) (rows : List ℕ) (gs : List Item) (y v : List ℕ) (c w : ℕ) : Type 0 where
  pub is : Passed s gs (at y) (at v) c w
  pub low : w ≤ NONE
  pub sound : Sound s rows

-- w is the suffix costs before those parts
pub record SuffixCosts (s : Sheet) (rows : List ℕ) (gs : List Item) (y v w : List ℕ) : Type 0 where
  pub each : (m : ℕ) → m < carries → Passed s gs (at y) (at v) m (at w m)
  pub low : Low w
  pub sound : Sound s rows

-- ---- choosing a rule

-- what rule r totals at an item from carry state c, with the suffix costs v behind it
unfoldable pub rest_total : Sheet → Item → (ℕ → ℕ) → (c r : ℕ) → ℕ
rest_total s g v c r = rule_total (instance_of s) s.grammar.multiplier NONE (λ parts. suffix_costs s parts v) g c r

-- r is the first rule at the item that comes to the least total, and there is one
pub record Chosen (s : Sheet) (g : Item) (v : ℕ → ℕ) (c r : ℕ) : Type 0 where
  pub place : FirstPlace (rest_total s g v c) (rule_count s) r
  pub total : rest_total s g v c r ≡ suffix_costs s (g ∷ []) v c
  pub reached : suffix_costs s (g ∷ []) v c < NONE

-- ---- building

-- the first least list of the items from c on, with the suffix costs v behind them, is written to the tree from `to` on
pub record BuiltAs (s : Sheet) (rows tree after : List ℕ) (gs : List Item) (v : ℕ → ℕ) (c to : ℕ) (b : Built) : Type 0 where
  pub bytes : List ℕ
  pub price : Price
  pub first : First (instance_of s) s.grammar.multiplier gs v c bytes price
  pub carry_is : b.carry ≡ price.carry
  pub next_is : b.to ≡ to + length bytes
  pub written : after ≡ over_from to bytes tree
  pub sound : Sound s rows

-- an item is built, of which y is the row
pub record BuildPre (s : Sheet) (plan units rows tree : List ℕ) (bar : Bar) (q l : ℕ) (left : Units) (from c : ℕ) (y v : List ℕ) (to : ℕ)
    : Type 0 where
  pub entry : Entry s plan units rows bar q l left from c
  pub row_is : y ≡ vec (packed_cell s (item_at s q l left) c)
  pub low : Low v
  pub reached : suffix_costs s (item_at s q l left ∷ []) (at v) c < NONE
  pub fits : to + room s (item_at s q l left) ≤ length tree

-- the parts of a rule are built
pub record PartsBuildPre (s : Sheet) (plan units rows tree : List ℕ) (bar : Bar) (r k l : ℕ) (left : Units) (from c : ℕ) (v : List ℕ)
    (to : ℕ) : Type 0 where
  pub parts : PartsEntry s plan units rows bar r 0 k l left from c
  pub low : Low v
  pub reached : suffix_costs s (parts_at s l left parts.divides.parts) (at v) c < NONE
  pub fits : to + sum_of (room s) (parts_at s l left parts.divides.parts) ≤ length tree

-- Building a row of items `gs` from left to right: `rest` is to come. What is written is the front of the first least list, whatever the
-- rest of it is.
pub record Partway (s : Sheet) (tree after : List ℕ) (gs rest : List Item) (v : ℕ → ℕ) (c to : ℕ) (carry next : ℕ) : Type 0 where
  pub bytes : List ℕ
  pub price : Price
  pub carry_is : carry ≡ price.carry
  pub few : carry < carries
  pub and_then : (xs : List ℕ) (q : Price) → First (instance_of s) s.grammar.multiplier rest v carry xs q
      → First (instance_of s) s.grammar.multiplier gs v c (bytes ++ xs) (price ⊞ q)
  pub reached : suffix_costs s rest v carry < NONE
  pub next_is : next ≡ to + length bytes
  pub written : after ≡ over_from to bytes tree
  pub fits : next + sum_of (room s) rest ≤ length tree

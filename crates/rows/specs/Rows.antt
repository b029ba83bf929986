-- Rows of the table: what the functions that give an item's row, or take a vector over items, are given and give.
use Rattle.std.specs.Prelude.{ℕ, ◌+◌, ◌-◌, ◌*◌, ◌≤◌, ◌<◌, ◌≡◌, List, get_or, drop}
use Rattle.std.proofs.Math.Option.{some}
use Rattle.sheet.specs.declared.clock.Units.{Units}
use Rattle.sheet.specs.Sheet.{division, Sheet, bar_units}
use Rattle.derivations.specs.Derivation.{Item}
use Rattle.derivations.specs.Minima.{lowest, only}
use Rattle.derivations.specs.Folds.{forward}
use Rattle.trees.specs.ValidTrees.{adjoining, rule_at}
use Rattle.trees.specs.LeastTotal.{NONE, carries, cell_of}
use Rattle.trees.specs.Intervals.{Aligned}
use Rattle.expansions.specs.Items.{first_at, Entered}
use Rattle.expansions.specs.declared.Interval.{Interval}
use Rattle.plan.specs.Plan.{Prepared, lengths, length_at, Divides}
use Rattle.rows.specs.declared.slots.Bar.{Bar}
use Rattle.rows.specs.Vectors.{vec, Low}
use Rattle.rows.specs.PackedLaws.{packed_cell}
use Rattle.rows.specs.Slots.{item_at, InBar, Stands, Inhabited, slot_in, Sound}

-- the entry of a row: an item that stands, entered with c
pub record Entry (s : Sheet) (plan units rows : List ℕ) (bar : Bar) (q l : ℕ) (left : Units) (from c : ℕ) : Type 0 where
  pub stands : Stands s plan units bar q l left from
  pub few : c < carries
  pub sound : Sound s rows

-- r is the item's row from c, of packed cells, and the table is sound
pub record Row (s : Sheet) (rows : List ℕ) (g : Item) (c : ℕ) (r : List ℕ) : Type 0 where
  pub is : r ≡ vec (packed_cell s g c)
  pub sound : Sound s rows

-- r is the vector v taken over the item, its first m carry states
pub record Taken (s : Sheet) (rows : List ℕ) (g : Item) (v : List ℕ) (m : ℕ) (r : List ℕ) : Type 0 where
  pub is : r ≡ vec (λ x. lowest NONE (λ c. get_or v c 0 + cell_of s g c x) m)
  pub sound : Sound s rows

-- an item with an onset inside, and the place of its row
pub record SolveEntry (s : Sheet) (plan units rows : List ℕ) (bar : Bar) (q l : ℕ) (left : Units) (from c at : ℕ) : Type 0 where
  pub entry : Entry s plan units rows bar q l left from c
  pub inhabited : Inhabited s l left
  pub place : at ≡ 4 * slot_in s bar.number q l (from - bar.first) c

-- a part that the vector v is taken over; `to` is the place of the first onset behind it
pub record PartEntry (s : Sheet) (plan units rows : List ℕ) (bar : Bar) (q l : ℕ) (left : Units) (from to : ℕ) (v : List ℕ) : Type 0 where
  pub stands : Stands s plan units bar q l left from
  pub ends : to ≡ first_at s (left.0 + length_at s l)
  pub low : Low v
  pub sound : Sound s rows

-- a part with an onset inside, over which v is taken from the carry states before c; `zero` and `a` are its totals to 0 and to c
pub record LiftEntry (s : Sheet) (plan units rows : List ℕ) (bar : Bar) (q l : ℕ) (left : Units) (from : ℕ) (v : List ℕ) (zero a c : ℕ)
    (o : List ℕ) : Type 0 where
  pub stands : Stands s plan units bar q l left from
  pub few : c < carries
  pub inhabited : Inhabited s l left
  pub low : Low v
  pub zero_is : zero ≡ get_or v 0 0
  pub total_is : a ≡ get_or v c 0
  pub taken : Taken s rows (item_at s q l left) v c o

-- the vector v reaches no carry state from n on
pub record ReachedTo (v : List ℕ) (n : ℕ) : Type 0 where
  pub most : n ≤ carries
  pub none : (i : ℕ) → n ≤ i → i < carries → NONE ≤ get_or v i 0

-- a, b and d are the totals of v to carry state c and the two behind it, as far as there are so many
pub record MovedTo (v : List ℕ) (c a b d : ℕ) : Type 0 where
  pub first : c < carries → a ≡ get_or v c 0
  pub second : c + 1 < carries → b ≡ get_or v (c + 1) 0
  pub third : c + 2 < carries → d ≡ get_or v (c + 2) 0

-- rule r divides an interval from `start` on into k parts of the length with index l; `left` is the left bound of part i, or the right
-- bound of the last where i is k, and `from` the place of the first onset at or behind it
pub record PartsEntry (s : Sheet) (plan units rows : List ℕ) (bar : Bar) (r i k l : ℕ) (left : Units) (from c : ℕ) : Type 0 where
  pub in_bar_lem : InBar s plan units bar
  pub q : ℕ
  pub whole : ℕ
  pub start : ℕ
  pub divides : Divides s q whole r k l
  pub whole_in : whole < lengths s
  pub aligned : Aligned (bar.number * bar_units) (record { nonterminal = q; left = start; len = length_at s whole })
  pub part_in : i ≤ k
  pub left_is : left.0 ≡ start + i * length_at s l
  pub first : from ≡ first_at s left.0
  pub few : c < carries
  pub sound : Sound s rows

-- the intervals of the parts, under their nonterminals
abbrev pub parts_at : Sheet → (l : ℕ) → Units → List ℕ → List Item
parts_at s l left kids = adjoining left.0 (length_at s l) kids

-- x is the vector over the parts of rule r from part i on, from carry state c to each
pub record Parted (s : Sheet) (rows : List ℕ) (r i l : ℕ) (left : Units) (c : ℕ) (x : List ℕ) : Type 0 where
  pub is : (q w : ℕ) (kids : List ℕ) → rule_at s r ≡ some (division q w kids)
      → x ≡ vec (forward carries NONE (cell_of s) (parts_at s l left (drop i kids)) (only NONE c))
  pub sound : Sound s rows

-- a leaf of nonterminal q over an interval that c onsets are carried into
pub record LeafEntry (s : Sheet) (plan units : List ℕ) (q : ℕ) (over : Interval) (from c : ℕ) : Type 0 where
  pub prepared : Prepared s plan
  pub entered : Entered s units over from c
  pub nonterminal : q < s.grammar.nonterminals

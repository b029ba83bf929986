-- Where an item lies, which slot of the table names it, and what a slot holds: packed cells. The slots are turned by bar: a bar uses few of
-- them, so that rows of other bars stay when they are turned apart.
use Rattle.std.specs.Prelude.{ℕ, ◌+◌, ◌-◌, ◌*◌, ◌/◌, ◌%◌, ◌≤◌, ◌<◌, ◌≡◌, List, get_or}
use Rattle.sheet.specs.declared.clock.Units.{Units}
use Rattle.sheet.specs.Sheet.{Sheet, bar_units}
use Rattle.sheet.specs.Good.{GoodOnsets}
use Rattle.derivations.specs.Derivation.{Item}
use Rattle.trees.specs.Instance.{onsets_in}
use Rattle.trees.specs.LeastTotal.{carries}
use Rattle.trees.specs.Intervals.{Aligned}
use Rattle.sizes.specs.Sizes.{most_in_bar}
use Rattle.expansions.specs.Tables.{UnitsHeld, unit_cells}
use Rattle.expansions.specs.Items.{first_at}
use Rattle.plan.specs.Plan.{Prepared, lengths, length_at}
use Rattle.rows.specs.declared.slots.Bar.{Bar}
use Rattle.rows.specs.Memo.{Memo}
use Rattle.rows.specs.PackedLaws.{packed_cell}

-- ---- slots

-- Q × L × E × 4 slots
abbrev pub slots : Sheet → ℕ
slots s = 4 * (s.grammar.nonterminals * lengths s * most_in_bar s.playing)

-- by how many places the slots of bar b are turned
abbrev pub shift_of : Sheet → ℕ → ℕ
shift_of s b = b * (slots s / 4 + 1) % slots s

-- slot t of n, turned by k places, and turned back
abbrev pub turned : (n k t : ℕ) → ℕ
turned n k t = (t + k) % n

abbrev pub turned_back : (n k t : ℕ) → ℕ
turned_back n k t = (t + n - k) % n

-- the slot of an item by its length, the place of its first onset in the bar, its nonterminal and the carry state that it is entered with
abbrev pub slot_of : Sheet → (q l i c : ℕ) → ℕ
slot_of s q l i c = ((i * lengths s + l) * s.grammar.nonterminals + q) * 4 + c

-- and turned as bar b has it
abbrev pub slot_in : Sheet → (b q l i c : ℕ) → ℕ
slot_in s b q l i c = turned (slots s) (shift_of s b) (slot_of s q l i c)

-- ---- where an item lies

-- the item of nonterminal q over the interval from `left` on that has the length with index l
abbrev pub item_at : Sheet → (q l : ℕ) → Units → Item
item_at s q l left = record { nonterminal = q; left = left.0; len = length_at s l }

-- the tables are the sheet's, the bar is one of its bars, `first` is the place of the first onset at or behind the bar's start, and `shift`
-- by how many of the `slots` it is turned
pub record InBar (s : Sheet) (plan units : List ℕ) (bar : Bar) : Type 0 where
  pub prepared : Prepared s plan
  pub onsets : UnitsHeld s units
  pub bar_in : bar.number < s.playing.bars
  pub bar_first : bar.first ≡ first_at s (bar.number * bar_units)
  pub shift_is : bar.shift ≡ shift_of s bar.number
  pub slots_are : bar.slots ≡ slots s

-- and the item lies in the bar, at a multiple of its length; `from` is the place of the first onset at or behind its left bound
pub record Stands (s : Sheet) (plan units : List ℕ) (bar : Bar) (q l : ℕ) (left : Units) (from : ℕ) : Type 0 where
  pub in_bar_lem : InBar s plan units bar
  pub nonterminal : q < s.grammar.nonterminals
  pub length_in : l < lengths s
  pub aligned : Aligned (bar.number * bar_units) (item_at s q l left)
  pub first : from ≡ first_at s left.0

-- an onset lies inside
abbrev pub Inhabited : Sheet → (l : ℕ) → Units → Type 0
Inhabited s l left = 0 < onsets_in s left.0 (length_at s l)

-- ---- what a slot names

-- the unit of onset i of bar b, counted from the bar's start
abbrev pub unit_in : Sheet → (b i : ℕ) → ℕ
unit_in s b i = get_or (unit_cells s.playing) (first_at s (b * bar_units) + i) 0 - b * bar_units

-- the item that a slot of bar b names: its left bound is the last multiple of its length at or before the onset
abbrev pub named_item : Sheet → (b q l i : ℕ) → Item
named_item s b q l i =
    record {
      nonterminal = q;
      left = b * bar_units + unit_in s b i / length_at s l * length_at s l;
      len = length_at s l;
    }

-- the packed cells of that item, from the carry state that the slot names
unfoldable pub slot_cell : Sheet → (b slot x : ℕ) → ℕ
unfolding packed_cell
slot_cell s b slot x =
    let q = s.grammar.nonterminals in
    let t = turned_back (slots s) (shift_of s b) slot in
    packed_cell s (named_item s b (t / 4 % q) (t / 4 / q % lengths s) (t / 4 / q / lengths s)) (t % 4) x

-- the table's claims are right
abbrev pub Sound : Sheet → List ℕ → Type 0
Sound s rows = Memo (slot_cell s) rows (slots s)

-- a slot is asked for
pub record SlotEntry (s : Sheet) (plan : List ℕ) (bar : Bar) (q l from c : ℕ) : Type 0 where
  pub prepared : Prepared s plan
  pub onsets : GoodOnsets s.playing
  pub shift_is : bar.shift ≡ shift_of s bar.number
  pub slots_are : bar.slots ≡ slots s
  pub nonterminal : q < s.grammar.nonterminals
  pub length_in : l < lengths s
  pub behind : bar.first ≤ from
  pub within : from - bar.first < most_in_bar s.playing
  pub few : c < carries

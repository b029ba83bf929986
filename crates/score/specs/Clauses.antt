-- Writing the score lines of a valid tree, step by step: what the functions are given, and what they give.
use Rattle.std.specs.Prelude.{ℕ, ◌+◌, ◌-◌, ◌≤◌, ◌≡◌, List, ◌∷◌, ◌++◌, map, length, take, drop}
use Rattle.std.proofs.Math.Option.{some}
use Rattle.slices.specs.Over.{over, over_from}
use Rattle.slices.specs.Pad.{pad}
use Rattle.hextext.specs.Written.{line_text}
use Rattle.sheet.specs.declared.table.GrammarTable.{GrammarTable}
use Rattle.sheet.specs.declared.table.PlayingTable.{PlayingTable}
use Rattle.sheet.specs.Sheet.{Onset, Playing, Sheet}
use Rattle.sheet.specs.Good.{GoodOnsets}
use Rattle.sheet.specs.Held.{pitch_of, playing_table}
use Rattle.sheet.specs.Accepted.{SheetHeld}
use Rattle.derivations.specs.Derivation.{Item, Price, derive}
use Rattle.trees.specs.ValidTrees.{early, late, Entry, placed_from, ValidTree}
use Rattle.trees.specs.Instance.{late_count, instance_of}
use Rattle.trees.specs.Leaves.{leaves_from, entries_of}
use Rattle.trees.specs.LeafBounds.{InOneBar}
use Rattle.expansions.specs.declared.Interval.{Interval}
use Rattle.expansions.specs.Tables.{RulesHeld, UnitsHeld}
use Rattle.expansions.specs.Items.{first_at, item_of}
use Rattle.sheet.specs.Refusal.{outcome_of}
use Rattle.pricing.specs.Pricing.{price_sheet, priced_of, Answer}
use Rattle.score.specs.declared.tree.Place.{Place}
use Rattle.score.specs.Score.{ScoreLeaf, leaf_line, score_leaf, entry_lines, tree_text}

-- ---- tables that hold a sheet

-- the pitches of the onsets, and 0 in every place behind them
unfoldable pub pitch_cells : Playing → List ℕ
pitch_cells p = pad 512 0 (map pitch_of p.onsets)

pub record OnsetsHeld (s : Sheet) (us ps : List ℕ) : Type 0 where
  pub units : UnitsHeld s us
  pub pitches : ps ≡ pitch_cells s.playing

-- ---- a leaf's line

-- the leaf over an interval, with these pitches placed
abbrev pub leaf_over : Interval → (n : ℕ) → (pitches : List ℕ) → ScoreLeaf
leaf_over over n ps = record { left = over.left.0; len = over.len.0; n = n; pitches = ps }

-- a line in 44 bytes from the front, with 0 in the places that are left, and how many bytes it has
pub record LineHeld (l : List ℕ) (count : ℕ) (bytes : List ℕ) : Type 0 where
  pub size : count ≡ length l
  pub cells : bytes ≡ pad 44 0 l

-- ---- where writing stands

-- the onsets that are carried in: the last `carried` before the first at or behind the left bound
abbrev pub carried_into : Sheet → Place → List Onset
carried_into s p = take p.carried (drop (p.from - p.carried) s.playing.onsets)

-- a place at a left bound
pub record StandsAt (s : Sheet) (left : ℕ) (p : Place) : Type 0 where
  pub first : p.from ≡ first_at s left
  pub before : p.carried ≤ p.from
  pub few : p.carried ≤ 3

-- a leaf with what is placed at it
abbrev pub entry_at : Sheet → Interval → (n : ℕ) → Place → Entry
entry_at s over n p =
    record {
      leaf = record { left = over.left.0; len = over.len.0; n = n };
      placed = carried_into s p ++ early s over.left.0 over.len.0;
    }

abbrev pub leaf_text : Sheet → Interval → (n : ℕ) → Place → List ℕ
leaf_text s over n p = line_text (leaf_line (score_leaf (entry_at s over n p)))

-- what `write_leaf` is given: its line has room
pub record LeafPre (s : Sheet) (us ps : List ℕ) (over : Interval) (n : ℕ) (p : Place) (score : List ℕ) : Type 0 where
  pub onsets : OnsetsHeld s us ps
  pub in_bar_lem : InOneBar s over.left.0 over.len.0
  pub stands : StandsAt s over.left.0 p
  pub few_late : late_count s over.left.0 over.len.0 ≤ 3
  pub room : p.to + length (leaf_text s over n p) ≤ length score

-- and what it does
pub record LeafWritten (s : Sheet) (over : Interval) (n : ℕ) (p r : Place) (score score' : List ℕ) : Type 0 where
  pub at : r.at ≡ p.at
  pub stands : StandsAt s (over.left.0 + over.len.0) r
  pub carried : r.carried ≡ late_count s over.left.0 over.len.0
  pub into : carried_into s r ≡ late s over.left.0 over.len.0
  pub to : r.to ≡ p.to + length (leaf_text s over n p)
  pub text : score' ≡ over_from p.to (leaf_text s over n p) score

-- the lines of the leaves that are left: the list is read from place p on against the items
abbrev pub text_left : Sheet → (list : List ℕ) → List Item → Place → List ℕ
text_left s list gs p = entry_lines (placed_from s (carried_into s p) (leaves_from s (drop p.at list) gs))

-- from place p on the list is read against the items, and the score has room for the lines that are left
pub record Ahead (s : Sheet) (list : List ℕ) (left : ℕ) (gs : List Item) (p : Place) (score : List ℕ) : Type 0 where
  pub stands : StandsAt s left p
  pub price : Price
  pub read : derive (instance_of s) (drop p.at list) gs p.carried ≡ some price
  pub room : p.to + length (text_left s list gs p) ≤ length score

-- from p, with the items gs, writing went on to r, with the items hs: the lines left there complete the same text, with the same end
pub record WentOn (s : Sheet) (list : List ℕ) (gs : List Item) (p : Place) (score : List ℕ) (hs : List Item) (r : Place) (score' : List ℕ) :
    Type 0 where
  pub text : over_from r.to (text_left s list hs r) score' ≡ over_from p.to (text_left s list gs p) score
  pub end : r.to + length (text_left s list hs r) ≡ p.to + length (text_left s list gs p)

-- what `write_tree` is given: the rules of a nonterminal q over the interval stand in the list, and then those of the items that follow
pub record TreePre (s : Sheet) (q : ℕ) (rest : List Item) (cells us ps list : List ℕ) (over : Interval) (p : Place)
    (score : List ℕ) : Type 0 where
  pub rules : RulesHeld s cells
  pub onsets : OnsetsHeld s us ps
  pub in_bar_lem : InOneBar s over.left.0 over.len.0
  pub ahead : Ahead s list over.left.0 (item_of q over ∷ rest) p score

-- and what it does: the items that follow are left
pub record TreeWritten (s : Sheet) (q : ℕ) (rest : List Item) (list : List ℕ) (over : Interval) (p r : Place) (score score' : List ℕ) :
    Type 0 where
  pub ahead : Ahead s list (over.left.0 + over.len.0) rest r score'
  pub went_on : WentOn s list (item_of q over ∷ rest) p score rest r score'

-- ---- the whole text

-- what `write_bars` is given: the list is a valid tree, and the lines of its leaves have room from place `to` on
pub record BarsPre (s : Sheet) (cells us ps list : List ℕ) (count to : ℕ) (score : List ℕ) : Type 0 where
  pub rules : RulesHeld s cells
  pub onsets : OnsetsHeld s us ps
  pub bars : count ≡ s.playing.bars
  pub valid : ValidTree s list
  pub room : to + length (entry_lines (entries_of s list)) ≤ length score

-- and what it does
pub record BarsWritten (s : Sheet) (list : List ℕ) (to r : ℕ) (score score' : List ℕ) : Type 0 where
  pub text : score' ≡ over_from to (entry_lines (entries_of s list)) score
  pub end : r ≡ to + length (entry_lines (entries_of s list))

-- what `write_text` is given: the tables hold the sheet, the list is a valid tree, and its text has room
pub record TextPre (s : Sheet) (cells : List ℕ) (p : PlayingTable) (list : List ℕ) (R D total : ℕ) (score : List ℕ) : Type 0 where
  pub rules : RulesHeld s cells
  pub good : GoodOnsets s.playing
  pub playing : p ≡ playing_table s.playing
  pub valid : ValidTree s list
  pub room : length (tree_text s list R D total) ≤ length score

-- and what it does
pub record TextWritten (s : Sheet) (list : List ℕ) (R D total r : ℕ) (score score' : List ℕ) : Type 0 where
  pub text : score' ≡ over (tree_text s list R D total) score
  pub end : r ≡ length (tree_text s list R D total)

-- what `write_priced` is given: the tables hold the sheet, and the price is what pricing the list gives
pub record PricedPre (s : Sheet) (g : GrammarTable) (p : PlayingTable) (list : List ℕ) (price : Answer) : Type 0 where
  pub held : SheetHeld s g p
  pub own : outcome_of price ≡ priced_of (price_sheet s list)

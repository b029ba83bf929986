-- How large the fields of a valid tree's leaves are: each leaf lies in one bar, and at most 35 onsets are placed at it, since a bar of an
-- accepted sheet has at most 32 and at most three are carried in. So a leaf's fields fit the bytes that a score line has for them.
use Rattle.std.specs.Prelude.{ℕ, ◌+◌, ◌*◌, ◌≤◌, ◌<◌, length}
use Rattle.sheet.specs.Sheet.{Sheet, bar_units}
use Rattle.derivations.specs.Derivation.{Item}
use Rattle.trees.specs.ValidTrees.{bars, Leaf}
use Rattle.trees.specs.ValidTrees.{Entry}

-- an interval lies in one bar of the piece
pub record InOneBar (s : Sheet) (left len : ℕ) : Type 0 where
  pub bar : ℕ
  pub below : bar < s.playing.bars
  pub begins : bar * bar_units ≤ left
  pub ends : left + len ≤ bar * bar_units + bar_units

abbrev pub ItemInOneBar : Sheet → Item → Type 0
ItemInOneBar s g = InOneBar s g.left g.len

abbrev pub LeafInOneBar : Sheet → Leaf → Type 0
LeafInOneBar s l = InOneBar s l.left l.len

-- an entry's fields: its interval ends with the piece or before, is no longer than a bar, and has at most 35 onsets placed
pub record EntryBounds (s : Sheet) (e : Entry) : Type 0 where
  pub ends : e.leaf.left + e.leaf.len ≤ s.playing.bars * bar_units
  pub short : e.leaf.len ≤ bar_units
  pub few_placed : length e.placed ≤ 35

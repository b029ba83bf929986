-- The token kind by what lies before a leaf: when it is a rest, when a continuation, and that more than one onset before makes no
-- difference.
use Rattle.std.specs.Prelude.{◌<◌, ◌≡◌, ◌↔◌, length}
use Rattle.sheet.specs.Sheet.{Sheet}
use Rattle.trees.specs.ValidTrees.{onsets_before, continuation, rest, Entry}

-- with nothing placed a leaf is a rest exactly where no onset lies before its left bound, and a continuation exactly where one does
pub record RestFits (s : Sheet) (e : Entry) : Type 0 where
  pub silent : (e.leaf.n ≡ rest) ↔ ((length e.placed ≡ 0) × (onsets_before s e.leaf.left ≡ 0))
  pub sounding : (e.leaf.n ≡ continuation) ↔ ((length e.placed ≡ 0) × (0 < onsets_before s e.leaf.left))

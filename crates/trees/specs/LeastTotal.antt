-- The least total of a sheet by computing: the exact cells of its instance, and the backward fold over its bars. `Found` shows that it is
-- the least total of the valid trees, or the cap where there is none.
use Rattle.std.specs.Prelude.{ℕ, ◌^◌}
use Rattle.sheet.specs.Sheet.{Sheet}
use Rattle.derivations.specs.Minima.{only}
use Rattle.derivations.specs.Folds.{Cells, backward}
use Rattle.derivations.specs.Cells.{cell, cell_to}
use Rattle.trees.specs.ValidTrees.{bars}
use Rattle.trees.specs.Instance.{instance_of}

-- what stands for "no tree": above every total, with room for 64 times two of them, and a stamp, in 64 bits
abbrev pub NONE : ℕ
NONE = 2 ^ 50

-- carry states 0 to 3: how many onsets are carried
abbrev pub carries : ℕ
carries = 4

-- the cells of a sheet, by item, carry in and carry out
unfoldable pub cell_of : Sheet → Cells
unfolding cell_to instance_of
cell_of s = cell (instance_of s) s.grammar.multiplier NONE carries (λ g. g.len)

unfoldable pub least_total : Sheet → ℕ
unfolding cell_of bars backward only
least_total s = backward carries NONE (cell_of s) (bars s) (only NONE 0) 0

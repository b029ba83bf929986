-- `tree_bytes` meets its contract. Assumes nothing.
use Prim.Native.Nat.{◌+◌, ◌*◌}
use Rattle.sheet.specs.Held.{playing_table}
use Rattle.sizes.specs.Sizes.{tree_bytes}
use Rattle.sizes.proofs.tree_bytes.Goals as goal

pub returns : goal.returns
unfolding tree_bytes playing_table
returns c s e = λ j. (e j).bars + 80 * (e j).count

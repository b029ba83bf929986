-- `rhythm_tree_bytes` meets its contract, for a refused text and for an accepted one. Assumes nothing.
use mathlib.Core.Path.{ap}
use Rattle.cabi.specs.Entries.{tree_of}
use Rattle.cabi.proofs.Readings.{refusal_is, counts, tree_is}
use Rattle.cabi.proofs.rhythm_tree_bytes.Goals as goal

pub returns-in-Err : goal.returns-in-Err
returns-in-Err c = ap tree_of (refusal_is c.args.text.now _ c.in-Err.ensures)

pub tree_bytes-requires : goal.tree_bytes-requires
tree_bytes-requires c = (counts c.args.text.now c.in-Ok.r c.in-Ok.ensures).1

pub returns-in-Ok : goal.returns-in-Ok
returns-in-Ok c = tree_is c.args.text.now c.in-Ok.r c.in-Ok.ensures _ c.tree_bytes.ensures

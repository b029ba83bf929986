-- `rhythm_work_cells` meets its contract, for a refused text and for an accepted one. Assumes nothing.
use mathlib.Core.Path.{ap}
use Rattle.cabi.specs.Entries.{work_of}
use Rattle.cabi.proofs.Readings.{refusal_is, counts, work_is}
use Rattle.cabi.proofs.rhythm_work_cells.Goals as goal

pub returns-in-Err : goal.returns-in-Err
returns-in-Err c = ap work_of (refusal_is c.args.text.now _ c.in-Err.ensures)

pub work_cells-requires : goal.work_cells-requires
work_cells-requires c = counts c.args.text.now c.in-Ok.r c.in-Ok.ensures

pub returns-in-Ok : goal.returns-in-Ok
returns-in-Ok c = work_is c.args.text.now c.in-Ok.r c.in-Ok.ensures _ c.work_cells.ensures

-- `lay_cells` meets its contract: the table is copied to its place. Assumes nothing.
use native.Mathlib.Omega.{arith}
use Rattle.plan.proofs.LaySteps.{laid_copied}
use Rattle.plan.proofs.lay.lay_cells.Goals as goal

pub returns : goal.returns
returns c = laid_copied _ _ _ _ _ c.copy_from_slice.ensures.after (omega arith) c.requires

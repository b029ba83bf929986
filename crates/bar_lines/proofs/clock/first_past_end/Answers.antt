-- `first_past_end` meets its contract: half a unit is no longer than a bar. Assumes nothing.
use native.Mathlib.Omega.{arith}
use Prim.Native.Nat.{◌-◌}
use Rattle.bar_lines.proofs.Cells.{cells_up, past_end}
use Rattle.bar_lines.proofs.clock.first_past_end.Goals as goal

pub overflow_sub-lasts-2 : goal.overflow_sub-lasts-2
overflow_sub-lasts-2 c =
    let good = c.requires in
    let one = good.one in
    let up = cells_up _ _ good (c.args.bars - 1) c.args.bars (omega arith) (omega arith) in
    omega (arith, up)

pub returns : goal.returns
returns c = past_end _ _ c.requires

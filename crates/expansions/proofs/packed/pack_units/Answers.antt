use borrow.Author.Rules.{rules}
use native.Mathlib.Omega.{arith}
use Rattle.slices.specs.Pad.{pad_nil}
use Rattle.expansions.specs.Tables.{last_unit}
use Rattle.expansions.proofs.UnitCellSteps.{units_none, units_more, units_all}
use Rattle.expansions.proofs.packed.pack_units.Goals as goal

pub loop-i-init : goal.loop-i-init
loop-i-init c = units_none _ _ (pad_nil 513 last_unit)

pub loop-i-preserved : goal.loop-i-preserved
loop-i-preserved c = units_more _ _ _ c.loop-i.invariant (search rules)

pub returns : goal.returns
returns c = units_all _ _ c.loop-i.i c.loop-i.invariant (omega arith)

-- `pack_units` meets its contract. The loop's invariant: of any playing that the table holds, the cells are its first `i` units and
-- then the end of the longest piece. Assumes nothing.
use Rattle.expansions.proofs.UnitCellSteps.{UnitsOf}
use Rattle.expansions.proofs.packed.pack_units.Given as goal

abbrev pub invariant-loop-i : goal.invariant-loop-i
invariant-loop-i l = UnitsOf l.p l.out l.i

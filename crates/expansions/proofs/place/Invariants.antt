-- `place` meets its contract. The loop's invariant: of any sheet whose units the table holds, what is counted and what is left of the
-- onsets inside are all of them (`Counted`), so that the counts are small. The measure is the number of places left. Assumes nothing.
use Prim.Native.Nat.{◌-◌}
use Rattle.sheet.specs.Sheet.{Sheet}
use Rattle.expansions.specs.Items.{interval, Here}
use Rattle.expansions.proofs.PlaceSteps.{Counted, Small}
use Rattle.expansions.proofs.place.Given as goal

abbrev pub invariant-loop-i : goal.invariant-loop-i
invariant-loop-i l =
    Small l.i l.early l.late l.distance × ((s : Sheet) → Here s l.units (interval l.left l.len) l.from → Counted s l.left l.len l.i l.early l.late l.distance)

abbrev pub decreases-loop-i : goal.decreases-loop-i
decreases-loop-i l = 513 - l.i

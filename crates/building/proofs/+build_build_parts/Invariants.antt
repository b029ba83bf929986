use Prim.Native.Nat.{◌+◌, ◌*◌}
use mathlib.Core.Path.{◌≡◌}
use Rattle.plan.specs.Plan.{length_cell}
use Rattle.sheet.specs.Sheet.{Sheet}
use Rattle.building.specs.Clauses.{PartsBuildPre}
use Rattle.sheet.specs.Held.{units as units_of}
use Rattle.building.proofs.PartSteps.{InParts}
use Rattle.building.proofs.+build_build_parts.Given as goal

abbrev pub decreases-build : goal.decreases-build
decreases-build l = 2 * length_cell l.plan.now l.l

abbrev pub decreases-build_parts : goal.decreases-build_parts
decreases-build_parts l = 2 * length_cell l.plan.now l.l + 1

abbrev pub invariant-build_parts-loop-j : goal.invariant-build_parts-loop-j
invariant-build_parts-loop-j l =
    (l.lo ≡ l.initial.lo + l.j * l.len)
    × ((s : Sheet) (e : PartsBuildPre s l.plan l.units l.initial.rows l.initial.tree l.bar l.r l.k l.l
    (units_of l.initial.lo) l.from l.c l.v l.to)
    → InParts s l.rows l.initial.tree l.tree l.l (units_of l.initial.lo) e.parts.divides.parts l.v l.c l.to l.j l.lo l.at l.carry l.next)

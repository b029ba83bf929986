use Prim.Native.Nat.{ℕ, ◌-◌, ◌+◌, ◌*◌}
use mathlib.Core.Path.{◌≡◌}
use lib.ListN.{get_or}
use mathlib.Core.List.{List}
use Rattle.plan.specs.Plan.{length_cell}
use Rattle.sheet.specs.Sheet.{Sheet}
use Rattle.rows.specs.Slots.{item_at}
use Rattle.rows.specs.Rows.{Taken, PartEntry, MovedTo, PartsEntry, SolveEntry}
use Rattle.sheet.specs.Held.{units}
use Rattle.rows.specs.PartLaws.{PartsDone, kids_of}
use Rattle.rows.specs.SolveLaws.{Done}
use Rattle.rows.proofs.table.+fresh_lift_part_parts_solve.Given as goal

abbrev pub decreases-fresh : goal.decreases-fresh
decreases-fresh l = 5 * length_cell l.plan.now l.l + 1

abbrev pub decreases-lift : goal.decreases-lift
decreases-lift l = 5 * length_cell l.plan.now l.l + 2

abbrev pub decreases-part : goal.decreases-part
decreases-part l = 5 * length_cell l.plan.now l.l + 3

abbrev pub decreases-parts : goal.decreases-parts
decreases-parts l = 5 * length_cell l.plan.now l.l + 4

abbrev pub decreases-solve : goal.decreases-solve
decreases-solve l = 5 * length_cell l.plan.now l.l

abbrev pub invariant-part-loop-c : goal.invariant-part-loop-c
invariant-part-loop-c l =
    (s : Sheet) (v : List ℕ) → PartEntry s l.plan l.units l.initial.rows l.bar l.q l.l l.left l.from l.to v → l.zero ≡ get_or v 0 0
    → MovedTo v 0 l.initial.a l.initial.b l.initial.d
    → l.e ≡ get_or v 3 0 → MovedTo v l.c l.a l.b l.d × Taken s l.rows (item_at s l.q l.l l.left) v l.c l.o

abbrev pub invariant-parts-loop-j : goal.invariant-parts-loop-j
invariant-parts-loop-j l =
    (l.lo + l.i * l.len.0 ≡ l.initial.lo + l.j * l.len.0)
    × ((s : Sheet) (e : PartsEntry s l.plan l.units l.initial.rows l.bar l.r l.i l.k l.l (units l.initial.lo) l.from l.c)
    → PartsDone s l.rows (kids_of e) l.l (units l.initial.lo) l.c (l.j - l.i) l.lo l.at l.v)

abbrev pub invariant-solve-loop-n : goal.invariant-solve-loop-n
invariant-solve-loop-n l =
    (s : Sheet) (e : SolveEntry s l.plan l.units l.initial.rows l.bar l.q l.l l.left l.from l.c l.at) → Done e l.rows l.n l.best

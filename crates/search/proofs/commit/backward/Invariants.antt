-- `backward` meets its contract. The invariant of the loop: v is the vector before the bars from bar b on, and the table has it and those
-- behind it (`Backward`). It speaks of the table as it is where the loop begins, with the last vector stored (`same`). Assumes nothing.
-- ---- where the last vector is stored
-- ---- in the loop
-- ---- the needs
use Prim.Native.Nat.{◌≤◌}
use mathlib.Core.Path.{◌≡◌}
use lib.ListN.{length}
use Rattle.sheet.specs.Sheet.{Sheet}
use Rattle.search.specs.Clauses.{BackwardPre}
use Rattle.search.proofs.BackSteps.{Backward}
use Rattle.search.proofs.commit.backward.Given as goal

abbrev pub invariant-loop-b : goal.invariant-loop-b
invariant-loop-b l =
    (l.b ≤ l.end) × (l.from ≤ l.b) × (length l.vectors ≡ length l.initial.vectors)
    × ((s : Sheet) → BackwardPre s l.roots l.initial.vectors l.from l.end → Backward s l.vectors l.end l.b l.v)

-- `pass` meets its contract. The invariant of the loop: the rows from the carry states before c are stored, and v is taken over the bar
-- from them (`Passing`). A turn stores one row more. Assumes nothing.
-- ---- places
-- ---- where the row from carry state c is known
-- ---- the needs
use mathlib.Core.Path.{◌≡◌}
use lib.ListN.{length}
use Rattle.sheet.specs.Sheet.{Sheet}
use Rattle.search.specs.Clauses.{PassPre, RootsTo}
use Rattle.search.proofs.PassSteps.{Passing}
use Rattle.search.proofs.bars.pass.Given as goal

abbrev pub invariant-loop-c : goal.invariant-loop-c
invariant-loop-c l =
    (length l.roots ≡ length l.initial.roots)
    × ((s : Sheet) → PassPre s l.plan l.units l.initial.rows l.bar l.start l.v → RootsTo s l.initial.roots l.bar.number 0
    → Passing s l.rows l.roots l.bar.number l.v l.c l.o)

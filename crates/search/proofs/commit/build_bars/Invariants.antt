-- `build_bars` meets its contract. The invariant of the loop: the bars before bar b are built, and some least list passes the carry state
-- behind them (`InBars`). A turn builds bar b with the suffix costs behind it. Assumes nothing.
-- ---- places
-- ---- where bar b is entered
-- ---- where its row and the suffix costs behind it are loaded: it may be built
-- ---- the needs
use Rattle.sheet.specs.Sheet.{Sheet}
use Rattle.search.specs.Clauses.{BarsBuildPre}
use Rattle.search.proofs.BarSteps.{InBars}
use Rattle.search.proofs.commit.build_bars.Given as goal

abbrev pub invariant-loop-b : goal.invariant-loop-b
invariant-loop-b l =
    (s : Sheet) → BarsBuildPre s l.plan l.units l.initial.rows l.initial.tree l.vectors l.roots l.start l.from l.end l.n
    → InBars s l.rows l.initial.tree l.tree l.end l.b l.carry l.next

-- `forward` meets its contract. The invariant of the loop: the rows of the bars before bar b are stored, v is the vector before it, and the
-- bars before bar `done` are committed (`Going`). A turn fills bar b ahead, stores its rows and takes v over it. Where nothing is carried
-- over its end, the bars up to there are committed. What is known at each place is in `Places`. Assumes nothing.
-- ---- places
-- ---- where the rows of bar b are filled ahead
-- ---- where its rows are stored: a bar more
-- ---- where nothing is carried over its end: the bars up to there may be committed
-- ---- where all bars are passed
use mathlib.Core.Path.{◌≡◌}
use lib.ListN.{length}
use Rattle.sheet.specs.Sheet.{Sheet}
use Rattle.search.specs.Clauses.{ForwardPre}
use Rattle.search.proofs.CommitSteps.{Going}
use Rattle.search.proofs.forward.Given as goal

abbrev pub invariant-loop-b : goal.invariant-loop-b
invariant-loop-b l =
    (length l.roots ≡ length l.initial.roots) × (length l.vectors ≡ length l.initial.vectors) × (length l.tree ≡ length l.initial.tree)
    × ((s : Sheet)
    → ForwardPre s l.plan l.units l.order l.initial.rows l.initial.tree l.initial.roots l.initial.vectors l.start l.count
    → Going s l.rows l.tree l.roots l.b l.v l.done l.next)

-- `write_bars` meets its contract. The loop's invariant: of any sheet that the tables hold, the first `b` bars are written (`BarsUpto`).
-- Assumes nothing.
use mathlib.Core.Path.{◌≡◌}
use lib.ListN.{length}
use Rattle.sheet.specs.Sheet.{Sheet}
use Rattle.score.specs.Clauses.{BarsPre}
use Rattle.score.proofs.BarsSteps.{BarsUpto}
use Rattle.score.proofs.tree.write_bars.Given as goal

abbrev pub invariant-loop-b : goal.invariant-loop-b
invariant-loop-b l =
    (length l.score ≡ length l.initial.score) ×
    ((s : Sheet) → BarsPre s l.rules l.units l.pitches l.list l.bars l.to l.initial.score
    → BarsUpto s l.list l.to l.initial.score l.b l.next l.score)

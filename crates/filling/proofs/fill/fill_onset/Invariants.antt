-- `fill_onset` meets its contract: before the turn of length l - 1 the cells of the lengths from l on are filled where the onset is alone,
-- and the table is sound (`FilledAt`). Assumes nothing.
use Rattle.std.proofs.Common.{◌≤◌}
use Rattle.sheet.specs.Sheet.{Sheet}
use Rattle.plan.specs.Plan.{lengths}
use Rattle.filling.specs.Filling.{OnsetEntry, FilledAt}
use Rattle.filling.proofs.fill.fill_onset.Given as goal

abbrev pub invariant-loop-l : goal.invariant-loop-l
invariant-loop-l l =
    (s : Sheet) → OnsetEntry s l.plan l.units l.order l.initial.rows l.initial.pairs l.bar l.from
    → (l.l ≤ lengths s) × FilledAt s l.order l.rows l.pairs l.best l.bar l.from l.l

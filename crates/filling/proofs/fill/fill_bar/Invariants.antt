-- `fill_bar` meets its contract: before each turn the table is sound. Assumes nothing.
use Rattle.sheet.specs.Sheet.{Sheet}
use Rattle.std.specs.Prelude.{Some}
use Rattle.filling.specs.Filling.{FillEntry, OnsetFilled}
use Rattle.filling.proofs.fill.fill_bar.Given as goal

abbrev pub invariant-loop-i : goal.invariant-loop-i
invariant-loop-i l =
    (s : Sheet) → FillEntry s l.plan l.units (Some l.order) l.initial.rows l.bar → OnsetFilled s l.rows l.pairs

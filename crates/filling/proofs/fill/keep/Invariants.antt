-- `keep` meets its contract: the rows and the cells of the first q nonterminals are stored, the table is sound, and the cells of shorter
-- lengths are kept (`KeptTo`). Assumes nothing.
use Rattle.sheet.specs.Sheet.{Sheet}
use Rattle.filling.specs.Filling.{KeepEntry, KeptTo}
use Rattle.filling.proofs.fill.keep.Given as goal

abbrev pub invariant-loop-q : goal.invariant-loop-q
invariant-loop-q l =
    (s : Sheet) → KeepEntry s l.plan l.order l.initial.rows l.initial.pairs l.best l.bar l.l l.from
    → KeptTo s l.rows l.initial.pairs l.pairs l.best l.l l.q

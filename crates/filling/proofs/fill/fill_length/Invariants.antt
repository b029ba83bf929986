-- `fill_length` meets its contract: before the turn of arity k the leaf and the rules of fewer parts are met (`Best`). Where the length
-- has no such part, no rule of k parts divides the interval. Assumes nothing.
use Rattle.sheet.specs.Sheet.{Sheet}
use Rattle.filling.specs.Filling.{LengthEntry, Best}
use Rattle.filling.proofs.fill.fill_length.Given as goal

abbrev pub invariant-loop-k : goal.invariant-loop-k
invariant-loop-k l =
    (s : Sheet) (e : LengthEntry s l.plan l.order l.pairs l.initial.best l.l l.d.0) → Best s l.order l.best l.l e.left l.k

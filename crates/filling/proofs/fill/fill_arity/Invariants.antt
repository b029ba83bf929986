-- `fill_arity` meets its contract: the leaf, the rules of fewer parts and those of k parts at the places before n are met, and no cell is
-- below the row's (`ArityTo`). Assumes nothing.
use Rattle.std.proofs.Common.{◌≤◌}
use Rattle.sheet.specs.Sheet.{Sheet}
use Rattle.filling.specs.Order.{first_of}
use Rattle.filling.specs.Filling.{ArityEntry, ArityTo}
use Rattle.filling.proofs.fill.fill_arity.Given as goal

abbrev pub invariant-loop-n : goal.invariant-loop-n
invariant-loop-n l =
    (s : Sheet) (e : ArityEntry s l.plan l.order l.pairs l.initial.best l.k l.h l.j)
    → (first_of l.order l.k ≤ l.n) × ArityTo s l.order l.best e.known.l e.known.left l.k l.n

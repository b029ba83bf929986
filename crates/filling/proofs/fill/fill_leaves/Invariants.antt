-- `fill_leaves` meets its contract: the cells of the first q nonterminals are those of their leaves. Assumes nothing.
use Rattle.filling.specs.Filling.{LeavesTo}
use Rattle.filling.proofs.fill.fill_leaves.Given as goal

abbrev pub invariant-loop-q : goal.invariant-loop-q
invariant-loop-q l =
    LeavesTo l.plan l.best l.len.0 l.d.0 l.q

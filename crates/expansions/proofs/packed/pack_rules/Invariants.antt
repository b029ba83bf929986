-- `pack_rules` meets its contract. The loop's invariant: the first `i` cells hold the first `i` rules of the table. Assumes nothing.
use Rattle.expansions.proofs.RuleCellSteps.{Cells}
use Rattle.expansions.proofs.packed.pack_rules.Given as goal

abbrev pub invariant-loop-i : goal.invariant-loop-i
invariant-loop-i l = Cells l.g l.out l.i

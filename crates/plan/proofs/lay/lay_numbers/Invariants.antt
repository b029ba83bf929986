-- `lay_numbers` meets its contract: what the first c carry states save is laid, and then the three numbers. Assumes nothing.
use Rattle.plan.proofs.LaySteps.{SavedLaid}
use Rattle.plan.proofs.lay.lay_numbers.Given as goal

abbrev pub invariant-loop-c : goal.invariant-loop-c
invariant-loop-c l = SavedLaid l.leaves l.heads l.initial.plan l.plan l.c

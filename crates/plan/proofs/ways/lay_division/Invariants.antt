-- `lay_division` meets its contract: the ways of the first j parts are laid. Assumes nothing.
use Rattle.plan.specs.Sections.{DivisionWays}
use Rattle.plan.proofs.ways.lay_division.Given as goal

abbrev pub invariant-loop-j : goal.invariant-loop-j
invariant-loop-j l = DivisionWays l.children l.leaves l.cost l.r l.k l.initial.plan l.plan l.j

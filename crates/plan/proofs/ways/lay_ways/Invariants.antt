-- `lay_ways` meets its contract: the ways of the first r rules are laid. Assumes nothing.
use Rattle.plan.specs.Sections.{WaysLaid}
use Rattle.plan.proofs.ways.lay_ways.Given as goal

abbrev pub invariant-loop-r : goal.invariant-loop-r
invariant-loop-r l = WaysLaid l.rules l.children l.leaves l.a l.initial.plan l.plan l.r

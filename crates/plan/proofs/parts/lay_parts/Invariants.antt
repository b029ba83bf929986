-- `lay_parts` meets its contract: the parts of the first l lengths are laid. Assumes nothing.
use Rattle.plan.specs.Sections.{PartsLaid}
use Rattle.plan.proofs.parts.lay_parts.Given as goal

abbrev pub invariant-loop-l : goal.invariant-loop-l
invariant-loop-l l = PartsLaid l.lens l.count l.initial.plan l.plan l.l

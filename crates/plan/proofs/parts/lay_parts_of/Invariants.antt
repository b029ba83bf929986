-- `lay_parts_of` meets its contract: the parts by the arities below k are laid, and before place h there is none of them. Assumes nothing.
use Rattle.plan.specs.Sections.{PartsOfLaid}
use Rattle.plan.proofs.PartSteps.{Above}
use Rattle.plan.proofs.parts.lay_parts_of.Given as goal

abbrev pub invariant-loop-k : goal.invariant-loop-k
invariant-loop-k l = Above l.lens l.count l.l l.k l.h
    × PartsOfLaid l.lens l.count l.l l.initial.plan l.plan l.k

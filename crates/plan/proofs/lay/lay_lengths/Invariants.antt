-- `lay_lengths` meets its contract: the first i cells are laid. Assumes nothing.
use lib.ListN.{get_or}
use Rattle.plan.specs.Layout.{lengths_at}
use Rattle.plan.specs.Sections.{Laid}
use Rattle.plan.proofs.lay.lay_lengths.Given as goal

abbrev pub invariant-loop-i : goal.invariant-loop-i
invariant-loop-i l = Laid (λ j. get_or l.lens j 0) l.initial.plan l.plan lengths_at l.i

-- `lay_children` meets its contract: the first i cells are laid. Assumes nothing.
use lib.ListN.{get_or}
use Rattle.plan.specs.Layout.{children_at}
use Rattle.plan.specs.Sections.{Laid}
use Rattle.plan.proofs.lay.lay_children.Given as goal

abbrev pub invariant-loop-i : goal.invariant-loop-i
invariant-loop-i l = Laid (λ j. get_or l.children j 0) l.initial.plan l.plan children_at l.i

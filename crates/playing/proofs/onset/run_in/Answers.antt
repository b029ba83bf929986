-- `run_in` meets its contract. Assumes nothing.
use borrow.Author.Tests.{eq-eqb, ne_eqb}
use Rattle.playing.specs.Clauses.{run_in}
use Rattle.playing.proofs.onset.run_in.Goals as goal

pub returns-then-b-bar : goal.returns-then-b-bar
unfolding run_in
returns-then-b-bar c = simp (eq-eqb _ _ c.if-b-bar.true)

pub returns-else-b-bar : goal.returns-else-b-bar
unfolding run_in
returns-else-b-bar c = simp (ne_eqb _ _ c.if-b-bar.false)

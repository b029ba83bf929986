-- `held` meets its contract: the row's first number is in the table, and the test is of its stamp. Assumes nothing.
use borrow.Author.Tests.{eqb-true, eq-eqb}
use Rattle.rows.proofs.slots.held.Goals as goal

pub returns : goal.returns
returns c = (eqb-true _ _, eq-eqb _ _)

-- `unpacked` meets its contract: each field is the definition's own. Assumes nothing.
use borrow.Author.Tests.{eq-eqb, ne_eqb}
use Rattle.expansions.specs.Tables.{unpacked_of}
use Rattle.expansions.proofs.packed.unpacked.Goals as goal

pub returns-then-cell-eq1 : goal.returns-then-cell-eq1
unfolding unpacked_of
returns-then-cell-eq1 c = simp (eq-eqb _ _ c.if-cell-eq1.true)

pub returns : goal.returns
unfolding unpacked_of
returns c = simp (ne_eqb _ _ c.if-cell-eq1.false)

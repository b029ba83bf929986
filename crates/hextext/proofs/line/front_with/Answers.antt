-- `hextext::front_with` meets its contract. Assumes nothing.
use mathlib.Core.Path.{refl}
use borrow.Author.Tests.{eq-eqb, ne_eqb}
use Rattle.hextext.proofs.line.front_with.Goals as goal

pub returns-then-l-eq-NUMBER_BYTES : goal.returns-then-l-eq-NUMBER_BYTES
returns-then-l-eq-NUMBER_BYTES c = rw (eq-eqb _ 8 c.if-l-eq-NUMBER_BYTES.true) refl

pub returns-else-l-eq-NUMBER_BYTES : goal.returns-else-l-eq-NUMBER_BYTES
returns-else-l-eq-NUMBER_BYTES c = rw (ne_eqb _ 8 c.if-l-eq-NUMBER_BYTES.false) refl

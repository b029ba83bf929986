-- `hextext::kind_with` meets its contract. Assumes nothing.
use mathlib.Core.Path.{refl}
use borrow.Author.Tests.{eq-eqb, ne_eqb}
use Rattle.hextext.proofs.line.kind_with.Goals as goal

pub returns-then-l-eq0 : goal.returns-then-l-eq0
returns-then-l-eq0 c = rw (eq-eqb _ 0 c.if-l-eq0.true) refl

pub returns-else-l-eq0 : goal.returns-else-l-eq0
returns-else-l-eq0 c = rw (ne_eqb _ 0 c.if-l-eq0.false) refl

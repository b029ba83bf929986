-- `arity_of` meets its contract. Assumes nothing.
use mathlib.Core.Path.{refl, sym, ◌∙◌}
use borrow.Author.Tests.{eq-eqb, ne_eqb}
use Rattle.grammar.specs.Clauses.{arity_of}
use Rattle.grammar.proofs.arity_of.Goals as goal

pub returns-then-l : goal.returns-then-l
unfolding arity_of
returns-then-l c b h = rw (eq-eqb _ 0x44 (sym h.kind ∙ c.if-l.true)) (c.byte_at.ensures b h)

pub returns-else-l : goal.returns-else-l
unfolding arity_of
returns-else-l c b h = rw (ne_eqb _ 0x44 (λ z. c.if-l.false (h.kind ∙ z))) refl

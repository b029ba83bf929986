-- `rule_of` meets its contract: the fields of the line, as a division or as a leaf by its kind. Assumes nothing.
use mathlib.Core.Path.{sym, ◌∙◌}
use borrow.Author.Tests.{eq-eqb, ne_eqb}
use Rattle.sheet.specs.declared.table.Rule.TheVariants.{Division, Leaf}
use Rattle.grammar.specs.Clauses.{cell_of}
use Rattle.grammar.proofs.rule_of.Goals as goal

pub returns-then-l : goal.returns-then-l
unfolding cell_of
returns-then-l c b h =
    rw (eq-eqb _ 0x44 (sym h.kind ∙ c.if-l.true))
    (λ j. Division (c.byte_at-head.ensures b h j) (c.two_at-weight.ensures b h j) (c.byte_at-last.ensures b h j))

pub returns : goal.returns
unfolding cell_of
returns c b h =
    rw (ne_eqb _ 0x44 (λ z. c.if-l.false (h.kind ∙ z)))
    (λ j. Leaf (c.byte_at-head.ensures b h j) (c.two_at-weight.ensures b h j) (c.byte_at-last.ensures b h j))

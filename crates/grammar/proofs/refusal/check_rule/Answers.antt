-- `check_rule` meets its contract: the refusal is that of the line's kind. Assumes nothing.
use mathlib.Core.Path.{refl, sym, ◌∙◌}
use borrow.Author.Tests.{eq-eqb, ne_eqb}
use Rattle.sheet.specs.Reading.{rule_refusal}
use Rattle.grammar.proofs.refusal.check_rule.Goals as goal

pub returns-then-l : goal.returns-then-l
unfolding rule_refusal
returns-then-l c b h = rw (eq-eqb _ 0x44 (sym h.kind ∙ c.if-l.true)) (c.check_division.ensures b h)

pub returns-then-l-2 : goal.returns-then-l-2
unfolding rule_refusal
returns-then-l-2 c b h =
    rw (ne_eqb _ 0x44 (λ z. c.if-l.false (h.kind ∙ z)), eq-eqb _ 0x4C (sym h.kind ∙ c.if-l-2.true))
    (c.check_leaf.ensures b h)

pub returns : goal.returns
unfolding rule_refusal
returns c b h =
    rw (ne_eqb _ 0x44 (λ z. c.if-l.false (h.kind ∙ z)), ne_eqb _ 0x4C (λ z. c.if-l-2.false (h.kind ∙ z))) refl

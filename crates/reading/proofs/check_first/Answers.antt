-- `check_first` meets its contract. Assumes nothing.
use mathlib.Core.Path.{sym, ◌∙◌}
use borrow.Author.Tests.{eq-eqb, ne_eqb}
use Rattle.sheet.specs.Reading.{refusal}
use Rattle.reading.proofs.check_first.Goals as goal

-- of another kind
pub returns-then-l : goal.returns-then-l
unfolding refusal
returns-then-l c b held = simp (ne_eqb _ 0x47 (λ z. c.if-l.true (held.kind ∙ z)))

-- a `47` line
pub returns : goal.returns
unfolding refusal
returns c b held = c.check_head.ensures b held ∙ simp (eq-eqb _ 0x47 (sym held.kind ∙ c.if-l.false))

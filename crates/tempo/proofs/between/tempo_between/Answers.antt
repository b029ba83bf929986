-- `tempo_between` meets its contract: at each return the tests that led there pick the definition's case. Assumes nothing.
use mathlib.Core.Path.{refl, sym, ◌∙◌}
use borrow.Author.Tests.{lt-ltb, le-ltb}
use Rattle.tempo.proofs.between.tempo_between.Goals as goal
use Rattle.tempo.proofs.between.tempo_between.Goals.{then-not-in_range-via-then-not-in_range}
use Rattle.tempo.proofs.between.tempo_between.Goals.{then-not-in_range-via-else-not-in_range+then-not-in_range-2}

-- out of range by the first duration, or by the second alone
pub returns-then-not-in_range : goal.returns-then-not-in_range
returns-then-not-in_range c =
    elim c.then-not-in_range.branch [
      | then-not-in_range-via-then-not-in_range w ↦ simp (sym c.in_range.ensures ∙ w.if-not-in_range.true) refl
      | then-not-in_range-via-else-not-in_range+then-not-in_range-2 w ↦
          simp (
            sym c.in_range.ensures ∙ w.if-not-in_range.false,
            sym w.in_range-else-not-in_range.ensures ∙ w.if-not-in_range-2.true,
          ) refl
    ]

pub returns-then-a2-a1 : goal.returns-then-a2-a1
returns-then-a2-a1 c =
    simp (
      sym c.in_range.ensures ∙ c.if-not-in_range.false,
      sym c.in_range-else-not-in_range.ensures ∙ c.if-not-in_range-2.false,
      lt-ltb _ _ c.if-a2-a1.true,
      sym c.percentage.ensures,
    ) refl

pub returns-then-a1-a2 : goal.returns-then-a1-a2
returns-then-a1-a2 c =
    simp (
      sym c.in_range.ensures ∙ c.if-not-in_range.false,
      sym c.in_range-else-not-in_range.ensures ∙ c.if-not-in_range-2.false,
      le-ltb _ _ c.if-a2-a1.false,
      lt-ltb _ _ c.if-a1-a2.true,
      sym c.percentage-then-a1-a2.ensures,
    ) refl

-- they are equal
pub returns : goal.returns
returns c =
    simp (
      sym c.in_range.ensures ∙ c.if-not-in_range.false,
      sym c.in_range-else-not-in_range.ensures ∙ c.if-not-in_range-2.false,
      le-ltb _ _ c.if-a2-a1.false,
      le-ltb _ _ c.if-a1-a2.false,
    ) refl

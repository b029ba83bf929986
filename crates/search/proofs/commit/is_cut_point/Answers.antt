-- `is_cut_point` meets its contract: carry state 0 is reached, and every other is idle. Assumes nothing.
use mathlib.Core.Bool.{false≢true}
use mathlib.Core.Path.{sym, ◌∙◌}
use native.Mathlib.Omega.{arith}
use borrow.Author.Tests.{ltb-true}
use Rattle.search.proofs.CommitSteps.{is_cut_point_told}
use Rattle.search.proofs.commit.is_cut_point.Goals.{then-idle, else-idle, then-v-lt-NONE, else-v-lt-NONE}
use Rattle.search.proofs.commit.is_cut_point.Goals as goal

-- the other three carry states are idle
pub returns-then-idle-2 : goal.returns-then-idle-2
returns-then-idle-2 c =
    λ s p last. elim c.if-idle.branch [
      | then-idle w ↦ elim c.if-v-lt-NONE.branch [
        | then-v-lt-NONE u ↦
            is_cut_point_told u.if-v-lt-NONE.true (u.idle.ensures s p (sym u.value-is ∙ w.if-idle.true))
            (w.idle-then-idle.ensures s p (sym w.value-is ∙ c.if-idle-2.true)) (c.idle-then-idle-2.ensures s p last)
        | else-v-lt-NONE u ↦ absurd (omega (arith, ltb-true _ _ (sym u.value-is ∙ w.if-idle.true)))
      ]
      | else-idle w ↦ absurd (false≢true (sym w.if-idle.false ∙ sym w.value-is ∙ c.if-idle-2.true))
    ]

-- `idle_at` meets its contract: the tests are those of `Idle`, and neither number of the sum is above the cap. Assumes nothing.
use mathlib.Core.Bool.{false≢true}
use mathlib.Core.Logic.{inl, inr}
use native.Mathlib.Omega.{arith}
use borrow.Author.Tests.{ltb-true, eqb-false, not-true}
use Rattle.rows.specs.SavedLaws.{saved_most}
use Rattle.rows.proofs.carry.idle_at.Goals as goal

pub returns-then-a-ge-NONE : goal.returns-then-a-ge-NONE
returns-then-a-ge-NONE c = λ s v p ez ea _. inl (omega (arith, c.if-a-ge-NONE.true, ea))

pub returns-then-c-eq0 : goal.returns-then-c-eq0
returns-then-c-eq0 c = λ s v p ez ea f. absurd (false≢true f)

pub overflow_add-zero : goal.overflow_add-zero
overflow_add-zero c =
    let few = c.requires.0 in
    let s = c.requires.2.0 in
    let p = c.requires.2.1 in
    omega (arith, c.requires.1, c.saved.ensures, p.saved_are c.args.c few, saved_most s c.args.c)

pub returns-then-zero-saved : goal.returns-then-zero-saved
returns-then-zero-saved c =
    λ s v p ez ea t.
    let cell = p.saved_are c.args.c c.requires.0 in
    inr (
      omega (arith, c.if-c-eq0.false),
      omega (arith, eqb-false _ _ (not-true _ t)),
      omega (arith, c.if-zero-saved.true, c.saved.ensures, cell, ez, ea),
    )

pub returns-else-zero-saved : goal.returns-else-zero-saved
returns-else-zero-saved c = λ s v p ez ea f. absurd (omega (arith, ltb-true _ _ f, c.if-zero-saved.false))

-- `placed_cost` meets its contract: the test tells whether q is a nonterminal. Assumes nothing.
use Prim.Native.Nat.{◌+◌, ◌*◌}
use native.Mathlib.Omega.{arith}
use mathlib.Core.Path.{refl}
use borrow.Author.Tests.{lt-ltb, le-ltb}
use Rattle.plan.specs.Layout.{kinds}
use Rattle.plan.specs.PlanLaws.{token_below}
use Rattle.plan.proofs.ways.placed_cost.Goals as goal

pub returns-then-q-ge-NONTERMINALS_MOST : goal.returns-then-q-ge-NONTERMINALS_MOST
returns-then-q-ge-NONTERMINALS_MOST c =
    (omega arith, rw (le-ltb c.args.q 16 c.if-q-ge-NONTERMINALS_MOST.true) refl)

pub bounds-leaves-q : goal.bounds-leaves-q
bounds-leaves-q c =
    omega (arith, c.if-q-ge-NONTERMINALS_MOST.false, c.token_of-kind.ensures, token_below c.args.n 1)

pub returns : goal.returns
returns c =
    let told = c.args in
    let kind = c.token_of-kind in (
      omega (arith, c.requires.1 (kinds * told.q + kind.result)),
      rw (lt-ltb told.q 16 (omega (arith, c.if-q-ge-NONTERMINALS_MOST.false)), kind.ensures) refl,
    )

use Prim.Native.Nat.{◌<◌}
use native.Mathlib.Omega.{arith}
use mathlib.Core.Path.{◌≡◌, ◌∙◌}
use lib.ListN.{length, set, length-set}
use Rattle.plan.specs.Layout.{multiplier_at, nonterminals_at, length_count_at, plan_cells}
use Rattle.plan.specs.Sections.{NumbersLaid}
use Rattle.plan.proofs.LaySteps.{saved_none, saved_more, numbers_laid}
use Rattle.plan.proofs.lay.lay_numbers.Goals.{After-loop-c}
use Rattle.plan.proofs.lay.lay_numbers.Goals as goal

plan-size : (c : After-loop-c) → length (c.loop-c.plan) ≡ plan_cells
plan-size c = c.loop-c.invariant.size ∙ c.requires.0

-- with all three it is laid
laid : (c : After-loop-c)
    → NumbersLaid c.args.leaves.now c.args.a c.args.heads c.args.count
    c.args.plan.now (set ((set ((set (c.loop-c.plan) multiplier_at c.args.a)) nonterminals_at c.args.heads)) length_count_at c.args.count)
laid c = numbers_laid c.loop-c.invariant c.requires.0 (omega (arith, c.loop-c-test.false))

pub loop-c-init : goal.loop-c-init
loop-c-init c = saved_none

pub loop-c-preserved : goal.loop-c-preserved
loop-c-preserved c = saved_more c.loop-c.invariant c.requires.0 c.loop-c-test.true c.saved_by.ensures

pub bounds-plan-1597 : goal.bounds-plan-1597
bounds-plan-1597 c = omega (arith, plan-size (goal.at.bounds-plan-1597 c).After-loop-c)

pub bounds-plan-1598 : goal.bounds-plan-1598
bounds-plan-1598 c =
    let inside : nonterminals_at < length ((set (c.loop-c.plan) multiplier_at c.args.a)) =
    omega (arith, plan-size (goal.at.bounds-plan-1598 c).After-loop-c, length-set (c.loop-c.plan) multiplier_at c.args.a) in
    inside

pub bounds-plan-1599 : goal.bounds-plan-1599
bounds-plan-1599 c =
    let told = c.args in
    let inside : length_count_at < length ((set ((set (c.loop-c.plan) multiplier_at c.args.a)) nonterminals_at c.args.heads)) =
    omega (
      arith,
      plan-size (goal.at.bounds-plan-1599 c).After-loop-c,
      length-set (c.loop-c.plan) multiplier_at told.a,
      length-set ((set (c.loop-c.plan) multiplier_at c.args.a)) nonterminals_at told.heads,
    ) in
    inside

pub shape_of-plan : goal.shape_of-plan
shape_of-plan c = (laid (goal.at.shape_of-plan c).After-loop-c).size

pub returns : goal.returns
returns c = laid (goal.at.returns c).After-loop-c

use mathlib.Core.Path.{◌≡◌, refl}
use native.Mathlib.Omega.{arith}
use borrow.Author.Rules.{rules}
use Rattle.plan.proofs.LaySteps.{laid_none, laid_more}
use Rattle.plan.proofs.lay.lay_children.Goals as goal

pub loop-i-init : goal.loop-i-init
loop-i-init c = laid_none _ _ _

pub overflow_cast-plan : goal.overflow_cast-plan
overflow_cast-plan c = omega (arith, c.requires.1 c.loop-i.i)

pub loop-i-preserved : goal.loop-i-preserved
loop-i-preserved c = let loop = c.loop-i in laid_more loop.invariant (search rules) refl

pub shape_of-plan : goal.shape_of-plan
shape_of-plan c = c.loop-i.invariant.size

pub returns : goal.returns
returns c =
    let loop = c.loop-i in
    let all : loop.i ≡ 512 = omega arith in
    rw (← all) loop.invariant

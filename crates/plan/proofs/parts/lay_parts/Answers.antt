use mathlib.Core.Path.{◌≡◌, subst, ◌∙◌}
use native.Mathlib.Omega.{arith}
use Rattle.plan.specs.Sections.{PartsLaid}
use Rattle.plan.proofs.PartSteps.{parts_none, parts_more}
use Rattle.plan.proofs.parts.lay_parts.Goals as goal

pub loop-l-init : goal.loop-l-init
loop-l-init c = parts_none

pub lay_parts_of-requires : goal.lay_parts_of-requires
lay_parts_of-requires c =
    let pre = c.requires in
    (c.loop-l.invariant.size ∙ pre.0, pre.1, c.loop-l-test.true, pre.2, pre.3)

pub loop-l-preserved : goal.loop-l-preserved
loop-l-preserved c = parts_more c.loop-l.invariant c.lay_parts_of.ensures

pub shape_of-plan : goal.shape_of-plan
shape_of-plan c = c.loop-l.invariant.size

pub returns : goal.returns
returns c =
    let loop = c.loop-l in
    let all : loop.l ≡ c.args.count = omega arith in
    subst (PartsLaid _ _ _ loop.plan) all loop.invariant

use Prim.Native.Nat.{◌+◌, ◌-◌, ◌*◌, ◌≤◌}
use mathlib.Core.Path.{◌≡◌, ap, subst, ◌∙◌}
use native.Mathlib.Omega.{arith}
use Rattle.groups.specs.Sums.{sum_to}
use Rattle.plan.specs.Sections.{rest_in, DivisionWays}
use Rattle.plan.proofs.WaySteps.{rest_least, rest_behind, division_none, division_more}
use Rattle.plan.proofs.ways.lay_division.Goals.{After-placed_cost-own}
use Rattle.plan.proofs.ways.lay_division.Goals as goal

-- a part is one of all
least : (c : After-placed_cost-own) → c.placed_cost-own.result ≤ (c.args.cost + c.rest_sum.result)
least c =
    let told = c.args in
    rest_least told.children.now told.leaves.now told.cost told.r told.k c.loop-j.j (c.placed_cost-own.result)
    ((c.args.cost + c.rest_sum.result))
    c.loop-j-test.true c.placed_cost-own.ensures.1
    (ap (told.cost +◌) c.rest_sum.ensures.1)

-- what the rule and the other parts cost, with the part, is what all cost
whole : (c : After-placed_cost-own) → (c.args.cost + c.rest_sum.result) - c.placed_cost-own.result + c.placed_cost-own.result
    ≡ c.args.cost + sum_to (rest_in c.args.children.now c.args.leaves.now c.args.r)
    c.args.k
whole c =
    let least-here : c.placed_cost-own.result ≤ (c.args.cost + c.rest_sum.result) =
    let told = c.args in
    rest_least told.children.now told.leaves.now told.cost told.r told.k c.loop-j.j (c.placed_cost-own.result)
    ((c.args.cost + c.rest_sum.result))
    c.loop-j-test.true c.placed_cost-own.ensures.1
    (ap (told.cost +◌) c.rest_sum.ensures.1) in
    omega (arith, least-here, c.rest_sum.ensures.1)

pub rest_sum-requires : goal.rest_sum-requires
rest_sum-requires c = let pre = c.requires in (pre.2, pre.3, pre.4, pre.5)

pub overflow_add-all : goal.overflow_add-all
overflow_add-all c = omega (arith, c.requires.1, c.rest_sum.ensures.0)

pub loop-j-init : goal.loop-j-init
loop-j-init c = division_none

pub overflow_cast-q : goal.overflow_cast-q
overflow_cast-q c =
    omega (arith, c.requires.4 (8 * c.args.r + c.loop-j.j))

pub placed_cost-own-requires : goal.placed_cost-own-requires
placed_cost-own-requires c = (omega arith, c.requires.5)

pub overflow_sub-all : goal.overflow_sub-all
overflow_sub-all c = least (goal.at.overflow_sub-all c).After-placed_cost-own

pub lay_part-requires : goal.lay_part-requires
lay_part-requires c =
    let told = c.args in
    let pre = c.requires in
    let sum = c.rest_sum.ensures in (
      c.loop-j.invariant.size ∙ pre.0,
      pre.2,
      pre.3,
      c.loop-j-test.true,
      omega (arith, pre.1, sum.0),
      pre.4,
      pre.5,
      rest_behind told.children.now told.leaves.now told.cost told.r told.k c.loop-j.j _ _
          (whole (goal.at.lay_part-requires c).After-placed_cost-own)
          c.placed_cost-own.ensures.1,
    )

pub loop-j-preserved : goal.loop-j-preserved
loop-j-preserved c =
    division_more c.loop-j.invariant c.loop-j-test.true (whole (goal.at.loop-j-preserved c).After-placed_cost-own)
    c.placed_cost-own.ensures.1 c.lay_part.ensures

pub shape_of-plan : goal.shape_of-plan
shape_of-plan c = c.loop-j.invariant.size

pub returns : goal.returns
returns c =
    let loop = c.loop-j in
    let all : loop.j ≡ c.args.k = omega arith in
    subst (DivisionWays _ _ _ _ _ _ loop.plan) all loop.invariant

use Prim.Native.Nat.{◌<◌}
use mathlib.Core.Path.{◌≡◌, subst, ◌∙◌}
use native.Mathlib.Omega.{arith}
use borrow.Author.Rules.{rules}
use Rattle.plan.specs.Sections.{WaysLaid}
use Rattle.plan.proofs.RuleSteps.{weighted_most}
use Rattle.plan.proofs.WaySteps.{ways_none, ways_idle, ways_more}
use Rattle.plan.proofs.ways.lay_ways.Goals.{in-Division+then-arity-le-PARTS_MOST, in_default}
use Rattle.plan.proofs.ways.lay_ways.Goals.{in_default-via-in-Leaf-1, in_default-via-in-Division+else-arity-le-PARTS_MOST}
use Rattle.plan.proofs.ways.lay_ways.Goals as goal

pub loop-r-init : goal.loop-r-init
loop-r-init c = ways_none

pub overflow_mul-cost : goal.overflow_mul-cost
overflow_mul-cost c =
    omega (arith, weighted_most c.args.a c.in-Division.weight (search rules) (search rules))

pub lay_division-requires : goal.lay_division-requires
lay_division-requires c =
    let pre = c.requires in (
      c.loop-r.invariant.size ∙ pre.0,
      weighted_most c.args.a c.in-Division.weight (search rules) (search rules),
      omega (arith, c.loop-r-test.true, pre.1),
      c.if-arity-le-PARTS_MOST.true,
      pre.2,
      pre.3,
    )

pub loop-r-preserved : goal.loop-r-preserved
loop-r-preserved c =
    let so_far = c.loop-r.invariant in
    let below : c.loop-r.r < 64 = omega (arith, c.loop-r-test.true, c.requires.1) in
    let rule = c.rule_at.ensures in
    elim c.match-rule_at.branch [
      | in-Division+then-arity-le-PARTS_MOST w ↦ rw w.plan-is (ways_more so_far below rule w.in-Division.is w.lay_division.ensures)
      | in_default w ↦
          elim w.in_default.branch [
            | in_default-via-in-Leaf-1 v ↦ rw w.plan-is (ways_idle so_far below rule (λ _ _ _ is _. cc))
            | in_default-via-in-Division+else-arity-le-PARTS_MOST v ↦
                rw w.plan-is
                (ways_idle so_far below rule (λ _ _ k is few. let e : k ≡ v.in-Division.arity = cc in omega arith))
          ]
    ]

pub shape_of-plan : goal.shape_of-plan
shape_of-plan c = c.loop-r.invariant.size

pub returns : goal.returns
returns c =
    let loop = c.loop-r in
    let all : loop.r ≡ c.args.n = omega arith in
    subst (WaysLaid _ _ _ _ _ loop.plan) all loop.invariant

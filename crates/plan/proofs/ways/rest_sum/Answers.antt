use Prim.Native.Nat.{◌+◌, ◌*◌}
use mathlib.Core.Path.{◌≡◌, sym, ap, ◌∙◌}
use native.Mathlib.Omega.{arith}
use Rattle.groups.specs.Sums.{sum_to, sum-none, sum-next}
use Rattle.plan.specs.Sections.{rest_in}
use Rattle.plan.proofs.ways.rest_sum.Goals as goal

pub loop-i-init : goal.loop-i-init
loop-i-init c = (omega arith, sum-none _)

pub overflow_cast-q : goal.overflow_cast-q
overflow_cast-q c =
    omega (arith, c.requires.2 (8 * c.args.r + c.loop-i.i))

pub overflow_add-sum : goal.overflow_add-sum
overflow_add-sum c =
    let loop = c.loop-i in
    omega (arith, loop.invariant.0, c.placed_cost-sum.ensures.0, c.requires.1)

pub loop-i-preserved : goal.loop-i-preserved
loop-i-preserved c =
    let loop = c.loop-i in
    let told = c.args in
    let rest = rest_in told.children.now told.leaves.now told.r in (
      omega (arith, loop.invariant.0, c.placed_cost-sum.ensures.0),
      ap (◌+ c.placed_cost-sum.result) loop.invariant.1 ∙ ap (sum_to rest loop.i +◌) c.placed_cost-sum.ensures.1
          ∙ sym (sum-next rest loop.i),
    )

pub returns : goal.returns
returns c =
    let loop = c.loop-i in
    let told = c.args in
    let all : loop.i ≡ told.k = omega (arith, c.loop-i-test.false) in (
      omega (arith, loop.invariant.0, c.requires.1),
      loop.invariant.1 ∙ ap (sum_to (rest_in told.children.now told.leaves.now told.r)) all,
    )

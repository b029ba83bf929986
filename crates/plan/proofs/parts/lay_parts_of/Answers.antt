use mathlib.Core.Path.{◌≡◌}
use native.Mathlib.Omega.{arith}
use Rattle.plan.proofs.PartSteps.{above_begin, above_found, above_next, parts_of_none, parts_of_more}
use Rattle.plan.proofs.parts.lay_parts_of.Goals as goal

pub loop-k-init : goal.loop-k-init
loop-k-init c = let pre = c.requires in (above_begin pre.4 pre.2, parts_of_none)

pub first_at_most-h-requires : goal.first_at_most-h-requires
first_at_most-h-requires c = (c.requires.1, c.loop-k.invariant.0.within)

pub part_at-requires : goal.part_at-requires
part_at-requires c =
    let loop = c.loop-k in
    let pre = c.requires in (
      pre.1,
      pre.2,
      omega arith,
      omega (arith, c.loop-k-test.true),
      pre.3,
      pre.4,
      above_found loop.invariant.0 (omega arith)
          c.first_at_most-h.ensures,
    )

pub bounds-plan-l : goal.bounds-plan-l
bounds-plan-l c =
    let loop = c.loop-k in
    let pre = c.requires in
    omega (arith, loop.invariant.1.size, pre.0, pre.1, pre.2, c.loop-k-test.true)

pub loop-k-preserved : goal.loop-k-preserved
loop-k-preserved c =
    let loop = c.loop-k in
    let pre = c.requires in
    let found = c.first_at_most-h.ensures in
    let less = c.loop-k-test.true in (
      above_next (above_found loop.invariant.0 (omega arith) found),
      parts_of_more loop.invariant.1 (omega (arith, pre.1, pre.2)) less pre.0 c.part_at.ensures,
    )

pub shape_of-plan : goal.shape_of-plan
shape_of-plan c = c.loop-k.invariant.1.size

pub returns : goal.returns
returns c =
    let loop = c.loop-k in
    let all : loop.k ≡ 9 = omega arith in
    rw (← all) loop.invariant.1

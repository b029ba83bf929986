-- `part_at` meets its contract: the place is that of the part, or there is none. Assumes nothing.
use native.Mathlib.Omega.{arith}
use Rattle.plan.proofs.PartSteps.{part_most, part_none}
use Rattle.plan.proofs.parts.part_at.Goals as goal

pub overflow_cast-whole : goal.overflow_cast-whole
overflow_cast-whole c = omega (arith, c.requires.4 c.args.l)

pub overflow_cast-part : goal.overflow_cast-part
overflow_cast-part c = omega (arith, c.requires.4 c.args.h)

pub overflow_mul-k : goal.overflow_mul-k
overflow_mul-k c =
    let told = c.args in
    omega (arith, part_most told.k _ c.requires.3 (c.requires.4 told.h))

pub returns-else-whole-k : goal.returns-else-whole-k
returns-else-whole-k c =
    let pre = c.requires in
    part_none pre.5 pre.2 pre.6 (λ _ e. c.if-whole-k.false e)

pub returns-else-h-count : goal.returns-else-h-count
returns-else-h-count c =
    let pre = c.requires in
    part_none pre.5 pre.2 pre.6 (λ less _. absurd (omega (arith, c.if-h-count.false)))

-- `length` meets its contract: a length is at most 20,160, so that it is unchanged by the cast. Assumes nothing.
use native.Mathlib.Omega.{arith}
use Rattle.plan.specs.PlanLaws.{length-most}
use Rattle.plan.proofs.length.Goals as goal

pub overflow_cast-result : goal.overflow_cast-result
overflow_cast-result c =
    let p = c.requires.1.1 in
    omega (arith, p.length-at c.args.l c.requires.0, length-most c.requires.1.0 p.good c.args.l)

use native.Mathlib.Omega.{arith}
use Rattle.score.proofs.CountSteps.{one_counted, all_counted}
use Rattle.score.proofs.count_leaves.Goals as goal

pub loop-r-preserved : goal.loop-r-preserved
loop-r-preserved c =
    let one = c.leaf_one-leaves in
    (omega (arith, one.ensures.0), one_counted _ _ _ _ _ c.loop-r-test.true one.ensures.1 c.loop-r.invariant.1)

pub returns : goal.returns
returns c = all_counted _ _ _ c.loop-r.r-index c.loop-r-test.false c.loop-r.invariant.1

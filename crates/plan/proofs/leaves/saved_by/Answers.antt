use native.Mathlib.Omega.{arith}
use Rattle.sizes.specs.Sizes.{largest}
use Rattle.plan.specs.Plan.{saved_at}
use Rattle.plan.proofs.SavedSteps.{largest_none, largest_next, saved_all}
use Rattle.plan.proofs.leaves.saved_by.Goals as goal

pub loop-q-init : goal.loop-q-init
loop-q-init c = λ s g t. largest_none (λ p. largest (saved_at s p _) 4)

pub loop-q-preserved : goal.loop-q-preserved
loop-q-preserved c =
    let loop = c.loop-q in
    let c₀ = c.args.c in
    λ s g t.
    largest_next (λ p. largest (saved_at s p c₀) 4) loop.q loop.most _ _ (loop.invariant s g t) (c.saved_at.ensures s g t)
    c.max-most.ensures

pub returns : goal.returns
returns c =
    let loop = c.loop-q in
    let c₀ = c.args.c in
    λ s g t k. saved_all s c₀ loop.q loop.most (loop.invariant s g t) (omega (arith, k, c.loop-q-test.false))

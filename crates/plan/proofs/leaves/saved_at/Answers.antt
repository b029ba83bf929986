use Prim.Native.Nat.{◌+◌}
use mathlib.Core.Path.{◌≡◌, ap, ◌∙◌}
use native.Mathlib.Omega.{arith}
use Rattle.sizes.specs.Sizes.{largest}
use Rattle.plan.specs.Plan.{saved_at}
use Rattle.plan.specs.PlanLaws.{token_below}
use Rattle.plan.proofs.SavedSteps.{largest_none, largest_next, saved_cell_lem}
use Rattle.plan.proofs.leaves.saved_at.Goals as goal

pub loop-e-init : goal.loop-e-init
loop-e-init c = λ s g t. largest_none (saved_at s _ _)

pub overflow_add-q : goal.overflow_add-q
overflow_add-q c =
    omega (arith, c.requires.0, c.token_of-none.ensures, token_below c.loop-e.e 1)

pub bounds-leaves-q : goal.bounds-leaves-q
bounds-leaves-q c =
    omega (arith, c.requires.0, c.token_of-none.ensures, token_below c.loop-e.e 1)

pub overflow_add-q-in-loop-e : goal.overflow_add-q-in-loop-e
overflow_add-q-in-loop-e c =
    let e = c.loop-e.e in
    omega (arith, c.requires.0, c.token_of-some.ensures, token_below (c.args.c + e) 1)

pub bounds-leaves-q-in-loop-e : goal.bounds-leaves-q-in-loop-e
bounds-leaves-q-in-loop-e c =
    let e = c.loop-e.e in
    omega (arith, c.requires.0, c.token_of-some.ensures, token_below (c.args.c + e) 1)

pub loop-e-preserved : goal.loop-e-preserved
loop-e-preserved c =
    let loop = c.loop-e in
    let q = c.args.q in
    let c₀ = c.args.c in
    λ s g t.
    let less : _ ≡ saved_at s q c₀ loop.e =
    saved_cell_lem s g c.args.leaves.now t q c₀ loop.e c.token_of-none.result c.token_of-some.result
    c.requires.0 c.token_of-none.ensures c.token_of-some.ensures in
    largest_next (saved_at s q c₀) loop.e loop.most _ _ (loop.invariant s g t) (c.saturating_sub-saved.ensures ∙ less)
    c.max-most.ensures

pub returns : goal.returns
returns c =
    let loop = c.loop-e in
    λ s g t. loop.invariant s g t ∙ ap (largest (saved_at s _ _)) (omega arith)

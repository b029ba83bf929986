-- `least_placed` meets its contract: the cell of the kind that `token_of` gives is looked up. Assumes nothing.
use Prim.Native.Nat.{ℕ, ◌/◌}
use mathlib.Core.Path.{ap, ◌∙◌}
use native.Mathlib.Omega.{arith}
use Rattle.plan.specs.Plan.{leaf_cell}
use Rattle.plan.specs.PlanLaws.{token_below}
use Rattle.rows.proofs.leaf.least_placed.Goals as goal

pub least_leaf-requires : goal.least_leaf-requires
least_leaf-requires c =
    (c.requires, omega (arith, c.token_of-kind.ensures, token_below c.args.c c.args.before))

pub returns : goal.returns
returns c =
    let told = c.args in
    c.least_leaf.ensures ∙ ap (λ (n : ℕ). leaf_cell told.plan.now told.q n / 64) c.token_of-kind.ensures

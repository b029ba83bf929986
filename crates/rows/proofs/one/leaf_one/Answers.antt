-- `leaf_one` meets its contract: the cell of the kind of leaf is looked up, and it and the distance fit together. Assumes nothing.
use mathlib.Core.Path.{ap, ◌∙◌}
use native.Mathlib.Omega.{arith}
use Rattle.plan.specs.Plan.{leaf_cell}
use Rattle.plan.specs.PlanLaws.{leaf_cell_most}
use borrow.Author.Rules.{rules}
use Rattle.rows.proofs.one.leaf_one.Goals as goal

pub overflow_add-w : goal.overflow_add-w
overflow_add-w c =
    let kind = c.token_of-kind in
    let p = c.requires in
    let low = leaf_cell_most p.3.0 _ p.3.1 c.args.q kind.result p.0 (omega (arith, kind.ensures)) in
    omega (arith, p.1, p.2, c.leaf_cell-w.ensures, low)

pub returns-then-d-n : goal.returns-then-d-n
returns-then-d-n c =
    let told = c.args in
    let of-kind = ap (leaf_cell told.plan.now told.q) c.token_of-kind.ensures in
    let cell = c.leaf_cell-w.ensures ∙ of-kind in
    search rules

pub overflow_add-w-2 : goal.overflow_add-w-2
overflow_add-w-2 c =
    let kind = c.token_of-kind-2 in
    let p = c.requires in
    let low = leaf_cell_most p.3.0 _ p.3.1 c.args.q kind.result p.0 (omega (arith, kind.ensures)) in
    omega (arith, p.1, p.2, c.leaf_cell-w-2.ensures, low)

pub returns : goal.returns
returns c =
    let told = c.args in
    let of-kind = ap (leaf_cell told.plan.now told.q) c.token_of-kind-2.ensures in
    let cell = c.leaf_cell-w-2.ensures ∙ of-kind in
    search rules

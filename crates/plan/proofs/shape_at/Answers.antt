-- `shape_at` meets its contract: the rule in the plan is the sheet's, and its cell has the head and the number of parts. Assumes nothing.
use Rattle.plan.proofs.RuleSteps.{division_shape, empty_shape, leaf_shape}
use Rattle.plan.proofs.shape_at.Goals as goal

pub returns-then-arity-eq0 : goal.returns-then-arity-eq0
returns-then-arity-eq0 c =
    let unpacked = c.unpacked in
    λ s p. empty_shape s _ c.args.r _ c.requires unpacked.ensures p _ _ _ c.in-Division.is c.if-arity-eq0.true

pub returns-else-arity-eq0 : goal.returns-else-arity-eq0
returns-else-arity-eq0 c =
    let unpacked = c.unpacked in
    λ s p. division_shape s _ c.args.r _ c.requires unpacked.ensures p _ _ _ c.in-Division.is c.if-arity-eq0.false

pub returns-in-Leaf : goal.returns-in-Leaf
returns-in-Leaf c =
    let unpacked = c.unpacked in
    λ s p. leaf_shape s _ c.args.r _ c.requires unpacked.ensures p _ _ _ c.in-Leaf.is

use mathlib.Core.Path.{refl}
use native.Mathlib.Omega.{arith}
use Rattle.plan.proofs.LeafSteps.{packed_none, packed_all}
use Rattle.plan.proofs.LeafSteps.{lowered_other, lowered_past, lowered_kept, lowered-set}
use Rattle.plan.proofs.RuleSteps.{weighted_most}
use borrow.Author.Rules.{rules}
use Rattle.plan.proofs.leaves.least_leaves.Goals.{in-Leaf+then-at-lt-LEAF_CELLS+then-cell-leaves, in-Leaf+else-at-lt-LEAF_CELLS}
use Rattle.plan.proofs.leaves.least_leaves.Goals.{else-at-lt-LEAF_CELLS-via-then-at-lt-LEAF_CELLS+else-cell-leaves}
use Rattle.plan.proofs.leaves.least_leaves.Goals.{else-at-lt-LEAF_CELLS-via-else-at-lt-LEAF_CELLS, in_default}
use Rattle.plan.proofs.leaves.least_leaves.Goals as goal

pub loop-r-init : goal.loop-r-init
loop-r-init c = (refl, λ s t m. packed_none s)

pub overflow_mul-cell : goal.overflow_mul-cell
overflow_mul-cell c =
    let weight = c.in-Leaf.weight in
    omega (arith, weighted_most c.args.a weight (search rules) (search rules))

pub overflow_mul-cell-in-Leaf : goal.overflow_mul-cell-in-Leaf
overflow_mul-cell-in-Leaf c =
    let weight = c.in-Leaf.weight in
    omega (arith, weighted_most c.args.a weight (search rules) (search rules))

pub overflow_add-cell : goal.overflow_add-cell
overflow_add-cell c =
    let weight = c.in-Leaf.weight in
    omega (arith, weighted_most c.args.a weight (search rules) (search rules))

pub loop-r-preserved : goal.loop-r-preserved
loop-r-preserved c =
    let rule = c.rule_at.ensures in
    let size = c.loop-r.invariant.0 in
    let so_far = c.loop-r.invariant.1 in
    elim c.match-rule_at.branch [
      | in-Leaf+then-at-lt-LEAF_CELLS+then-cell-leaves w ↦
          rw w.leaves-is (
            search rules,
            lowered-set _ _ _ _ so_far (omega arith) _ rule _ _ _ w.in-Leaf.is size w.if-at-lt-LEAF_CELLS.true w.if-cell-leaves.true,
          )
      | in-Leaf+else-at-lt-LEAF_CELLS w ↦
          elim w.else-at-lt-LEAF_CELLS.branch [
            | else-at-lt-LEAF_CELLS-via-then-at-lt-LEAF_CELLS+else-cell-leaves v ↦
                rw w.leaves-is (size, lowered_kept _ _ _ _ so_far (omega arith) _ rule _ _ _ w.in-Leaf.is v.if-cell-leaves.false)
            | else-at-lt-LEAF_CELLS-via-else-at-lt-LEAF_CELLS v ↦
                rw w.leaves-is (size, lowered_past _ _ _ _ so_far (omega arith) _ rule _ _ _ w.in-Leaf.is v.if-at-lt-LEAF_CELLS.false)
          ]
      | in_default w ↦ rw w.leaves-is (size, lowered_other _ _ _ _ so_far (omega arith) _ rule w.in_default.not-Leaf)
    ]

pub returns : goal.returns
returns c =
    λ s t m n. packed_all s c.loop-r.leaves c.loop-r.r (c.loop-r.invariant.1 s t m) (omega (arith, n))

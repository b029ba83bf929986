-- `cost` meets its contract: the weight in the cell is the rule's, and the cell of no rule has weight 0. Assumes nothing.
use native.Mathlib.Omega.{arith}
use Rattle.plan.proofs.RuleSteps.{cost_most, rule_cost}
use borrow.Author.Rules.{rules}
use Rattle.plan.proofs.cost.Goals as goal

pub overflow_mul-result : goal.overflow_mul-result
overflow_mul-result c = omega (arith, cost_most c.requires.1.0 _ c.requires.1.1 c.from.result (search rules))

pub returns : goal.returns
returns c = (
  cost_most c.requires.1.0 _ c.requires.1.1 c.from.result (search rules),
  λ s p. rw (c.from.ensures, c.weight.ensures) (rule_cost s _ c.args.r _ c.requires.0 c.unpacked.ensures p),
)

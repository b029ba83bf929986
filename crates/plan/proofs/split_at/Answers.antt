-- `split_at` meets its contract: the rule in the plan is the sheet's, and of a division of the nonterminal `split_by` tells the part.
-- Assumes nothing.
use native.Mathlib.Omega.{arith}
use Rattle.plan.proofs.RuleSteps.{other_head, same_head, no_division}
use Rattle.plan.proofs.split_at.Goals as goal

pub returns-then-head-q : goal.returns-then-head-q
returns-then-head-q c =
    let unpacked = c.unpacked in (
      tt,
      λ s p within.
          other_head s _ c.args.r _ c.requires.0 unpacked.ensures p _ _ _ c.args.q c.args.l c.in-Division.is
          c.if-head-q.true,
    )

pub returns-else-head-q : goal.returns-else-head-q
returns-else-head-q c =
    let unpacked = c.unpacked in
    let split_by = c.split_by in (
      split_by.ensures.0,
      λ s p within.
          same_head s _ c.args.r _ c.requires.0 unpacked.ensures p _ _ _ c.args.q c.args.l split_by.result
          c.in-Division.is c.if-head-q.false split_by.ensures.0 (split_by.ensures.1 s p within) within,
    )

pub returns-in-Leaf : goal.returns-in-Leaf
returns-in-Leaf c =
    let unpacked = c.unpacked in (
      tt,
      λ s p within.
          no_division s _ c.args.r _ c.requires.0 unpacked.ensures p _ _ _ c.args.q c.args.l c.in-Leaf.is,
    )

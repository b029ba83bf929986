-- `split_at_place` meets its contract: the number of parts stands beside the rule, and `split_by` tells the part. Assumes nothing.
use Rattle.plan.proofs.RuleSteps.{placed_split}
use Rattle.plan.proofs.split_at_place.Goals as goal

pub returns : goal.returns
returns c =
    let split_by = c.split_by in (
      split_by.ensures.0,
      λ s q p d within. placed_split s _ _ _ q split_by.result p d within (split_by.ensures.1 s p within),
    )

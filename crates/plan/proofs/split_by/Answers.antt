-- `split_by` meets its contract: the plan has the index of the part, or one past the lengths. Assumes nothing.
use native.Mathlib.Omega.{arith}
use Rattle.plan.proofs.RuleSteps.{no_arity, no_part, some_part}
use Rattle.plan.proofs.split_by.Goals.{then-k-lt2-via-then-k-lt2, then-k-lt2-via-else-k-lt2+then-k-gt-PARTS_MOST}
use Rattle.plan.proofs.split_by.Goals as goal

pub returns-then-k-lt2 : goal.returns-then-k-lt2
returns-then-k-lt2 c = (
  tt,
  λ s p _.
      no_arity s _ c.args.l c.args.k p
      (λ a b. elim c.then-k-lt2.branch [
        | then-k-lt2-via-then-k-lt2 w ↦ omega arith
        | then-k-lt2-via-else-k-lt2+then-k-gt-PARTS_MOST w ↦ omega arith
      ]),
)

pub returns-then-plan-part : goal.returns-then-plan-part
returns-then-plan-part c = (
  tt,
  λ s p within.
      no_part s _ c.args.l c.args.k p within (omega (arith, c.if-k-lt2.false)) (omega
      (arith, c.if-k-gt-PARTS_MOST.false))
      c.if-plan-part.true,
)

pub returns : goal.returns
returns c =
    let less = c.if-plan-part.false in (
      (omega (arith, c.if-k-lt2.false), omega (arith, c.if-k-gt-PARTS_MOST.false)),
      λ s p within.
          some_part s _ c.args.l c.args.k p within (omega (arith, c.if-k-lt2.false))
          (omega (arith, c.if-k-gt-PARTS_MOST.false)) (omega (arith, less)),
    )

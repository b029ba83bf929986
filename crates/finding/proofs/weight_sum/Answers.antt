use native.Mathlib.Omega.{arith}
use mathlib.Core.Path.{refl, ◌∙◌}
use Rattle.finding.proofs.FigureSteps.{rule_below, one_summed, all_summed}
use Rattle.finding.proofs.weight_sum.Goals as goal

pub rule_at-requires : goal.rule_at-requires
rule_at-requires c = rule_below c.requires.1 c.loop-r.r-index c.loop-r-test.true

pub overflow_add-sum : goal.overflow_add-sum
overflow_add-sum c = omega (arith, c.loop-r.invariant.0, c.from-sum.ensures, c.requires.1.few)

pub loop-r-preserved : goal.loop-r-preserved
loop-r-preserved c =
    let below = rule_below c.requires.1 c.loop-r.r-index c.loop-r-test.true in (
      omega (arith, c.loop-r.invariant.0, c.from-sum.ensures),
      one_summed c.args.rules.now _ _ c.loop-r.r-index c.loop-r.invariant.1 c.loop-r-test.true _ refl below _ c.rule_at.ensures _
          (c.from-sum.ensures ∙ c.weight.ensures),
    )

pub returns : goal.returns
returns c = all_summed _ _ _ c.loop-r.r-index c.loop-r.invariant.1 (omega (arith, c.loop-r-test.false))

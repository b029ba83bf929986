use borrow.Author.Rules.{rules}
use mathlib.Core.Path.{refl, ◌∙◌}
use native.Mathlib.Omega.{arith}
use lib.ListN.{length-set}
use Rattle.hextext.proofs.FieldSteps.{field_more, field_none}
use Rattle.hextext.proofs.field.put_field.Goals as goal

pub loop-i-init : goal.loop-i-init
loop-i-init c = (search rules, c.requires, refl, refl)

pub loop-i-preserved : goal.loop-i-preserved
loop-i-preserved c =
    let loop = c.loop-i in (
      search rules,
      rw length-set loop.invariant.1,
      length-set loop.line _ _ ∙ loop.invariant.2,
      field_more _ _ _ _ _ (omega arith) ∙
          loop.invariant.3,
    )

pub returns : goal.returns
returns c = field_none _ _ _ _ (omega arith) ∙ c.loop-i.invariant.3

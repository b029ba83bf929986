use borrow.Author.Rules.{rules}
use mathlib.Core.Path.{refl}
use native.Mathlib.Omega.{arith}
use Rattle.expansions.proofs.RuleCellSteps.{cells_more, cells_all}
use Rattle.expansions.proofs.packed.pack_rules.Goals as goal

pub loop-i-init : goal.loop-i-init
loop-i-init c = record { size = refl; each = λ m l. absurd (omega arith) }

pub loop-i-preserved : goal.loop-i-preserved
loop-i-preserved c = cells_more _ c.loop-i.invariant (search rules) c.packed.ensures

pub returns : goal.returns
returns c = cells_all c.loop-i.invariant (omega arith)

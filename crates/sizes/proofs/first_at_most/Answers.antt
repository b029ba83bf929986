use native.Mathlib.Omega.{arith}
use borrow.Author.Count.{below_more}
use borrow.Author.Rules.{rules}
use Rattle.sizes.proofs.first_at_most.Goals as goal

pub loop-i-init : goal.loop-i-init
loop-i-init c = λ j l m. absurd (omega arith)

pub returns-then-cells-i : goal.returns-then-cells-i
returns-then-cells-i c =
    record { on = search rules; within = search rules; above = λ j m k. c.loop-i.invariant j k m; at_most = λ _. c.if-cells-i.true }

pub loop-i-preserved : goal.loop-i-preserved
loop-i-preserved c =
    below_more _ _ c.loop-i.invariant (λ _. omega arith)

pub returns : goal.returns
returns c =
    record {
      on = search rules;
      within = search rules;
      above = λ j m k. c.loop-i.invariant j (omega arith) m;
      at_most = λ k. absurd (omega arith);
    }

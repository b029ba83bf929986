-- `lone` meets its contract: it looks at the onset behind and, where there is one in the bar, at the onset before. Assumes nothing.
use Rattle.std.proofs.Common.{arith}
use borrow.Author.Tests.{ltb-true, ltb-false, leb-true, eqb-false}
use Rattle.filling.proofs.fill.lone.Goals as goal

pub returns-else-right-units : goal.returns-else-right-units
returns-else-right-units c =
    let far = c.if-right-units.false in
    record { yes = λ t. absurd (omega (arith, leb-true _ _ t)); no = λ t h k. omega arith }

pub returns-then-from-first : goal.returns-then-from-first
returns-then-from-first c =
    let near = c.if-right-units.true in
    let first = c.if-from-first.true in
    record { yes = λ t. (near, λ n. absurd (n first)); no = λ t. absurd (eqb-false _ _ t first) }

pub returns-else-from-first : goal.returns-else-from-first
returns-else-from-first c =
    let near = c.if-right-units.true in
    let other = c.if-from-first.false in
    record { yes = λ t. (near, λ n. ltb-true _ _ t); no = λ t h k. omega (arith, k other, ltb-false _ _ t) }

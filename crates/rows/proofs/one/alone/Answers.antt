-- `alone` meets its contract: the onset behind the first is at or behind the right bound. Assumes nothing.
use mathlib.Core.Bool.{false≢true}
use native.Mathlib.Omega.{arith}
use borrow.Author.Tests.{leb-true}
use Rattle.rows.specs.OneCallLaws.{alone_length, alone_next, alone_near, alone_one}
use Rattle.rows.proofs.one.alone.Goals as goal

pub returns-then-c-ne0 : goal.returns-then-c-ne0
returns-then-c-ne0 c = λ s e f. absurd (false≢true f)

pub length-len-requires : goal.length-len-requires
length-len-requires c =
    (alone_length c.requires.1, (c.requires.0, c.requires.1.prepared))

pub overflow_add-result : goal.overflow_add-result
overflow_add-result c = omega (arith, alone_near c.requires.1 c.length-len.ensures)

pub overflow_add-result-2 : goal.overflow_add-result-2
overflow_add-result-2 c = omega (arith, alone_next c.requires.1)

pub offset_bounds-units-from : goal.offset_bounds-units-from
offset_bounds-units-from c = omega (arith, alone_next c.requires.1)

pub bounds-units-from : goal.bounds-units-from
bounds-units-from c = omega (arith, alone_next c.requires.1)

pub returns : goal.returns
returns c =
    λ s e t. (
      omega (arith, c.if-c-ne0.false),
      omega (arith, c.if-from-eq0.false),
      alone_one e c.length-len.ensures (leb-true _ _ t),
    )

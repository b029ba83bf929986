-- `sheet::four_at` meets its contract: a part of the line's number, or the numbers of two bytes. Assumes nothing.
use Prim.Native.Nat.{◌+◌, ◌*◌}
use native.Mathlib.Omega.{arith}
use Rattle.hextext.specs.PackedLaws.{tail_four}
use Rattle.sheet.specs.Reading.{two, four}
use Rattle.sheet.proofs.line.four_at.Goals as goal

pub returns-then-i-l : goal.returns-then-i-l
unfolding two four
returns-then-i-l c b h =
    let counted = h.count in
    rw (h.tail, counted) (tail_four b c.args.i h.small (omega arith) (omega arith))

pub returns : goal.returns
unfolding four
returns c b h = rw (c.from.ensures, c.from-2.ensures) (λ j. c.two_at.ensures b h j * 65536 + c.two_at-2.ensures b h j)

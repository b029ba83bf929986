-- `sheet::byte_at` meets its contract: a byte of the last eight, of the first eight, or past the line's end. Assumes nothing.
use mathlib.Core.Path.{sym}
use native.Mathlib.Omega.{arith}
use lib.ListN.{get_or-eq_default}
use Rattle.hextext.specs.PackedLaws.{tail_at, front_at}
use Rattle.sheet.proofs.line.byte_at.Goals as goal

pub returns-then-l-i : goal.returns-then-l-i
returns-then-l-i c b h = let counted = h.count in sym (get_or-eq_default b 0 (omega arith))

pub returns-then-behind-lt-NUMBER_BYTES : goal.returns-then-behind-lt-NUMBER_BYTES
returns-then-behind-lt-NUMBER_BYTES c b h =
    let counted = h.count in
    rw (h.tail, counted) (tail_at b c.args.i h.small (omega arith) (omega arith))

pub overflow_sub-result : goal.overflow_sub-result
overflow_sub-result c =
    let first = c.requires (omega arith) in
    omega arith

pub returns : goal.returns
returns c b h =
    let counted = h.count in
    let first = c.requires (omega arith) in
    rw h.front (front_at b c.args.i h.small (omega arith) first)

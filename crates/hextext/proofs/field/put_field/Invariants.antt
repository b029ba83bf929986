-- `put_field` meets its contract. The loop's invariant: the bytes that are left, put over the line as it is, give what all of them give
-- over the line at entry. Assumes nothing.
use Prim.Native.Nat.{◌+◌, ◌≤◌}
use mathlib.Core.Path.{◌≡◌}
use lib.ListN.{length}
use Rattle.slices.specs.Over.{over_from}
use Rattle.hextext.specs.Fields.{big_endian}
use Rattle.hextext.proofs.field.put_field.Given as goal

abbrev pub invariant-loop-i : goal.invariant-loop-i
invariant-loop-i l =
    (l.i ≤ l.count) × (l.at + l.count ≤ length l.line) × (length l.line ≡ length l.initial.line) ×
    (over_from l.at (big_endian l.i l.rest) l.line ≡ over_from l.at (big_endian l.count l.x) l.initial.line)

-- `even_lines` meets its contract. The loop's invariant: the first i lines stand in their cells. Assumes nothing.
use Prim.Native.Nat.{◌*◌, ◌≤◌}
use mathlib.Core.Path.{◌≡◌}
use lib.ListN.{length}
use Rattle.slices.specs.Filled.{Filled}
use Rattle.sheet.specs.Held.{micros}
use Rattle.bar_lines.proofs.even.even_lines.Given as goal

abbrev pub invariant-loop-i : goal.invariant-loop-i
invariant-loop-i l = Filled (micros 0) (λ k. micros (k * l.d)) l.initial.lines l.lines l.i × (l.i ≤ l.count) × (length l.initial.lines ≡ 65)

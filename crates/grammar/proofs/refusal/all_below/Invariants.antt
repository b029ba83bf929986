-- `all_below` meets its contract. The loop's invariant: the answer is that of the bytes from j on. Assumes nothing.
use Prim.Native.Nat.{ℕ, ◌+◌, ◌-◌, ◌≤◌}
use mathlib.Core.Path.{◌≡◌}
use mathlib.Core.List.{List}
use Rattle.sheet.specs.Reading.{all_below, bytes_from}
use Rattle.sheet.specs.Held.{LineHeld}
use Rattle.grammar.proofs.refusal.all_below.Given as goal

abbrev pub invariant-loop-j : goal.invariant-loop-j
invariant-loop-j l =
    (l.j ≤ l.k) × ((b : List ℕ) → LineHeld l.l b → all_below l.q (bytes_from l.k 5 b) ≡ all_below l.q (bytes_from (l.k - l.j) (l.j + 5) b))

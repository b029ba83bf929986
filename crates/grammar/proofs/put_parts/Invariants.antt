-- `put_parts` meets its contract. The loop's invariant: the places of rule n hold the first j parts. Assumes nothing.
use Prim.Native.Nat.{ℕ, ◌≤◌}
use mathlib.Core.Path.{◌≡◌}
use mathlib.Core.List.{List, ◌++◌}
use lib.ListN.{length}
use Rattle.slices.specs.Pad.{pad}
use Rattle.sheet.specs.Reading.{bytes_from}
use Rattle.sheet.specs.Held.{LineHeld, flat, child_cells}
use Rattle.grammar.proofs.put_parts.Given as goal

abbrev pub invariant-loop-j : goal.invariant-loop-j
invariant-loop-j l =
    (l.j ≤ l.k)
    × ((b : List ℕ) → LineHeld l.l b → (rs : List (List ℕ)) → length rs ≡ l.n → l.initial.children ≡ child_cells rs
    → l.children ≡ pad 512 0 (flat rs ++ bytes_from l.j 5 b))

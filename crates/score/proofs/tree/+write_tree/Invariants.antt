use Prim.Native.Nat.{ℕ}
use mathlib.Core.Path.{◌≡◌}
use mathlib.Core.List.{List}
use lib.ListN.{length}
use Rattle.sheet.specs.Sheet.{Sheet}
use Rattle.derivations.specs.Derivation.{Item}
use Rattle.score.proofs.PartsSteps.{PartsPre, PartsUpto}
use Rattle.score.proofs.tree.+write_tree.Given as goal

abbrev pub decreases-write_tree : goal.decreases-write_tree
decreases-write_tree l = l.over.len.0

abbrev pub invariant-loop-j : goal.invariant-loop-j
invariant-loop-j l =
    (length l.score ≡ length l.initial.score) ×
    ((s : Sheet) (rest : List Item) (ks : List ℕ) → length ks ≡ l.k
    → PartsPre s rest ks l.rules l.units l.pitches l.list l.over.left.0 l.len l.initial.next l.initial.score →
    PartsUpto s rest ks l.list l.over.left.0 l.len l.initial.next l.initial.score l.j l.next l.score)

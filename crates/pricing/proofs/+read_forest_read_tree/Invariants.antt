use Prim.Native.Nat.{◌+◌, ◌*◌}
use mathlib.Core.Path.{◌≡◌}
use Rattle.sheet.specs.Sheet.{Sheet}
use Rattle.expansions.specs.Items.{interval}
use Rattle.pricing.specs.Clauses.{ForestPre}
use Rattle.pricing.proofs.ForestSteps.{InRow}
use Rattle.pricing.proofs.+read_forest_read_tree.Given as goal

abbrev pub decreases-read_forest : goal.decreases-read_forest
decreases-read_forest l = 2 * l.first.len.0 + 1

abbrev pub decreases-read_tree : goal.decreases-read_tree
decreases-read_tree l = 2 * l.over.len.0

abbrev pub invariant-read_forest-loop-kid : goal.invariant-read_forest-loop-kid
invariant-read_forest-loop-kid l =
    (l.left ≡ l.initial.left + l.kid-index * l.len) × ((s : Sheet) → ForestPre s l.rules l.children l.units l.list l.kids
    (interval l.initial.left l.len) l.initial.next → InRow s l.list l.initial.left l.len l.kids l.kid-index l.initial.next l.next)

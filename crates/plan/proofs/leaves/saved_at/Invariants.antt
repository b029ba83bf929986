-- `saved_at` meets its contract. The loop's invariant: `most` is the most that is saved at the first `e` kinds. Assumes nothing.
use mathlib.Core.Path.{◌≡◌}
use Rattle.sheet.specs.Sheet.{Sheet}
use Rattle.sheet.specs.Good.{GoodRules}
use Rattle.sizes.specs.Sizes.{largest}
use Rattle.plan.specs.Plan.{saved_at}
use Rattle.plan.specs.Sections.{PackedLeaves}
use Rattle.plan.proofs.leaves.saved_at.Given as goal

abbrev pub invariant-loop-e : goal.invariant-loop-e
invariant-loop-e l = (s : Sheet) → GoodRules s.grammar → PackedLeaves s l.leaves
    → l.most ≡ largest (saved_at s l.q l.c) l.e

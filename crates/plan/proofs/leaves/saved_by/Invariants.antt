-- `saved_by` meets its contract. The loop's invariant: `most` is the most that is saved at the first `q` nonterminals. Assumes nothing.
use mathlib.Core.Path.{◌≡◌}
use Rattle.sheet.specs.Sheet.{Sheet}
use Rattle.sheet.specs.Good.{GoodRules}
use Rattle.sizes.specs.Sizes.{largest}
use Rattle.plan.specs.Plan.{saved_at}
use Rattle.plan.specs.Sections.{PackedLeaves}
use Rattle.plan.proofs.leaves.saved_by.Given as goal

abbrev pub invariant-loop-q : goal.invariant-loop-q
invariant-loop-q l =
    (s : Sheet) → GoodRules s.grammar → PackedLeaves s l.leaves → l.most ≡ largest (λ p. largest (saved_at s p l.c) 4) l.q

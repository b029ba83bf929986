-- `price_of` meets its contract, by how far the list was read: not at all, not to its end, with onsets carried out, or as a tree, whose
-- total fits (`total_fits`). Assumes nothing.
use mathlib.Core.Path.{sym, ap, subst, ◌∙◌}
use native.Mathlib.Omega.{arith}
use Rattle.pricing.specs.Pricing.{priced_of}
use Rattle.pricing.specs.Clauses.{BarsWalked}
use Rattle.pricing.proofs.BarSteps.{not_read, rules_left, onsets_left, tree_answer, total_fits}
use borrow.Author.Rules.{rules}
use Rattle.pricing.proofs.price_of.Goals.{then-p-nodes-via-then-p-nodes, then-p-nodes-via-else-p-nodes+then-p-ne0}
use Rattle.pricing.proofs.price_of.Goals as goal

-- it is not read to its end, or onsets are carried out
pub returns-then-p-nodes : goal.returns-then-p-nodes
returns-then-p-nodes c =
    λ s list h n a.
    let walked = subst (BarsWalked s list) c.in-Some.is h in
    elim c.then-p-nodes.branch [
      | then-p-nodes-via-then-p-nodes w ↦
          rw c.at-then-p-nodes.ensures (ap priced_of (sym (rules_left s list _ walked (λ e. w.if-p-nodes.true (e ∙ n)))))
      | then-p-nodes-via-else-p-nodes+then-p-ne0 w ↦
          rw c.at-then-p-nodes.ensures
          (ap priced_of (sym (onsets_left s list _ walked (w.if-p-nodes.false ∙ sym n) w.if-p-ne0.true)))
    ]

pub overflow_mul-result : goal.overflow_mul-result
overflow_mul-result c =
    let q = c.requires in
    let t = total_fits q.0 q.1 _ (subst (BarsWalked q.0 q.1) c.in-Some.is q.2.0) c.args.multiplier
    (search rules) in
    record { fits = omega arith }

pub overflow_add-result : goal.overflow_add-result
overflow_add-result c =
    let q = c.requires in
    let t = total_fits q.0 q.1 _ (subst (BarsWalked q.0 q.1) c.in-Some.is q.2.0) c.args.multiplier
    (search rules) in
    record { fits = omega arith }

-- the list is not read
pub returns-in_default : goal.returns-in_default
returns-in_default c =
    λ s list h n a. rw c.at.ensures (ap priced_of (sym (not_read s list (subst (BarsWalked s list) c.in_default.is h))))

-- it is a tree
pub returns : goal.returns
returns c =
    λ s list h n a. tree_answer s list _ (subst (BarsWalked s list) c.in-Some.is h) (c.if-p-nodes.false ∙ sym n)
    c.if-p-ne0.false _ _ n a

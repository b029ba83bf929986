-- `leaf_one` meets its contract: the rule in the table is the sheet's. Assumes nothing.
use mathlib.Core.Path.{sym, ◌∙◌}
use Rattle.score.proofs.CountSteps.{cell_at, one_leaf, one_division, one_past}
use borrow.Author.Rules.{rules}
use Rattle.score.proofs.leaf_one.Goals as goal

pub returns-then-i-ge-RULES_MOST : goal.returns-then-i-ge-RULES_MOST
returns-then-i-ge-RULES_MOST c = (search rules, λ s h. one_past s _ _ h c.if-i-ge-RULES_MOST.true)

pub returns-in-Leaf : goal.returns-in-Leaf
returns-in-Leaf c =
    let rule_at_lem = c.rule_at in
    let if1 = c.if-i-ge-RULES_MOST in
    (search rules, λ s h. one_leaf s _ _ _ _ (sym (cell_at s _ h _ if1.false) ∙ sym rule_at_lem.ensures ∙ c.in-Leaf.is))

pub returns-in-Division : goal.returns-in-Division
returns-in-Division c =
    let rule_at_lem = c.rule_at in
    let if1 = c.if-i-ge-RULES_MOST in
    (search rules, λ s h. one_division s _ _ _ _ (sym (cell_at s _ h _ if1.false) ∙ sym rule_at_lem.ensures ∙ c.in-Division.is))

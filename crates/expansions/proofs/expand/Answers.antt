-- `expand` meets its contract: the rule in the table is the sheet's, and its kind decides. Assumes nothing.
use mathlib.Core.Path.{sym, ◌∙◌}
use native.Mathlib.Omega.{arith}
use Rattle.trees.specs.Instance.{instance_of}
use Rattle.trees.proofs.Laws.{lawful}
use Rattle.trees.specs.ValidTrees.{rule_at}
use Rattle.expansions.specs.RuleCells.{leaf_rule}
use Rattle.expansions.proofs.ExpandSteps.{leaf_other, leaf_as, division_as, division_not}
use Rattle.expansions.proofs.expand.Goals as goal

pub returns-then-i-ge-RULES_MOST : goal.returns-then-i-ge-RULES_MOST
unfolding instance_of
returns-then-i-ge-RULES_MOST c =
    let if1 = c.if-i-ge-RULES_MOST in
    λ s h. (lawful s).ends _ _ _ (omega (arith, if1.true, h.rules.good.most))

pub returns-then-head-nonterminal : goal.returns-then-head-nonterminal
returns-then-head-nonterminal c =
    let if1 = c.if-i-ge-RULES_MOST in
    let rule_at_lem = c.rule_at in
    let if2 = c.if-head-nonterminal in
    λ s h. leaf_other s _ _ _ _ _ _ _ (leaf_rule (rule_at s c.args.r) _ _ _ (sym (h.rules.rules _ (omega (
      arith,
      if1.false,
    ))) ∙ sym rule_at_lem.ensures ∙ c.in-Leaf.is)) if2.true

pub leaf_at-requires : goal.leaf_at-requires
leaf_at-requires c =
    (c.requires.0, c.requires.1.entered)

pub returns-then-head-nonterminal-2 : goal.returns-then-head-nonterminal-2
returns-then-head-nonterminal-2 c =
    let if1 = c.if-i-ge-RULES_MOST in
    let rule_at_lem = c.rule_at in
    let if3 = c.if-head-nonterminal-2 in
    λ s h. division_not s _ _ _ _ _ _ _ (sym (h.rules.rules _ (omega (arith, if1.false))) ∙ sym rule_at_lem.ensures ∙ c.in-Division.is)
    if3.true

pub division_at-requires : goal.division_at-requires
division_at-requires c =
    (c.requires.0, c.requires.1.entered.here)

pub returns-else-head-nonterminal : goal.returns-else-head-nonterminal
returns-else-head-nonterminal c =
    let if1 = c.if-i-ge-RULES_MOST in
    let rule_at_lem = c.rule_at in
    let if2 = c.if-head-nonterminal in
    let leaf_at_lem = c.leaf_at in
    λ s h. let a = c.args in
    leaf_as s a.nonterminal a.over a.carried a.r _ _ _ leaf_at_lem.result (leaf_rule (rule_at s c.args.r) _ _ _ (sym
    (h.rules.rules _ (omega (arith, if1.false))) ∙ sym rule_at_lem.ensures ∙ c.in-Leaf.is)) if2.false (leaf_at_lem.ensures s
    h.entered)

pub returns-else-head-nonterminal-2 : goal.returns-else-head-nonterminal-2
returns-else-head-nonterminal-2 c =
    let if1 = c.if-i-ge-RULES_MOST in
    let rule_at_lem = c.rule_at in
    let division_at = c.division_at in
    let if3 = c.if-head-nonterminal-2 in
    λ s h. let a = c.args in
    division_as s a.nonterminal a.over a.carried a.r h.rules.good _ _ _ division_at.result (sym (h.rules.rules _
    (omega (arith, if1.false))) ∙ sym rule_at_lem.ensures ∙ c.in-Division.is) if3.false (division_at.ensures s h.entered.here)

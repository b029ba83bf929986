use borrow.Author.Rules.{rules}
use native.Mathlib.Omega.{arith}
use Prim.Native.Nat.{◌≤◌, ◌<◌}
use mathlib.Core.Path.{refl}
use native.Mathlib.Nat.{le_trans, le_of_eq}
use lib.ListN.{drop}
use Rattle.hextext.specs.Text.{line_bytes}
use Rattle.hextext.specs.Laws.{line_falls, line_within, line_size_pos}
use Rattle.hextext.specs.PackedLaws.{line_next, line_if_some, line_if_none}
use Rattle.sheet.specs.Refusal.{number_some}
use Rattle.sheet.specs.Rest.{rest_held}
use Rattle.grammar.specs.Clauses.{arity_of}
use Rattle.grammar.proofs.RuleLoop.{rules_none, rules_end, rules_bad, rules_early, rules_done, rules_stop, rules_more, rule_fits}
use Rattle.grammar.proofs.read_rules.Goals.{In_default-check_rule}
use Rattle.grammar.proofs.read_rules.Goals as goal

-- a line that is taken as a rule: there is room for it, and it is short
fits : (c : In_default-check_rule)
    → (c.loop-at.grammar.count < 64)
    × (arity_of ((line_bytes (drop c.loop-at.at c.args.text.now))) ≤ 8) × (c.in-Some.l.count ≤ 13)
fits c =
    let (is, filled) = line_if_some c.in-Some.ensures in
    rule_fits _ _ c.loop-at-test.true _ is filled _ _ _
    (c.in_default-check_rule.ensures _ (rest_held _ _ c.loop-at-test.true _ is filled)) refl

pub loop-at-init : goal.loop-at-init
loop-at-init c =
    let pre = c.requires in
    (pre.0, pre.1, pre.2, λ h good e. rules_none _ _ _ h _ good e)

-- a bad line
pub returns-in_default : goal.returns-in_default
returns-in_default c h good e =
    let loop = c.loop-at.invariant in
    let none = line_if_none _ c.in_default.ensures in
    record { is = rules_bad (loop.3 h good e) c.loop-at-test.true _ refl loop.2 none 2; place = loop.1; numbered = loop.2 }

-- the `45` line: it is refused where no rule stands before it, and else ends the rules
pub returns-in-Err : goal.returns-in-Err
returns-in-Err c h good e =
    let loop = c.loop-at.invariant in
    let (is, filled) = line_if_some c.in-Some.ensures in
    record {
      is = rules_early (loop.3 h good e) c.loop-at-test.true _ is filled c.if-l.true _ c.in-Err.ensures (number_some _);
      place = loop.1;
      numbered = loop.2;
    }

pub returns-then-l : goal.returns-then-l
returns-then-l c h good e =
    let loop = c.loop-at.invariant in
    let (is, filled) = line_if_some c.in-Some.ensures in
    rules_done (loop.3 h good e) c.loop-at-test.true _ is filled c.if-l.true _ c.in_default-check_end.ensures refl loop.1 loop.2

-- a line that is refused
pub returns-in-Err-check_rule : goal.returns-in-Err-check_rule
returns-in-Err-check_rule c h good e =
    let loop = c.loop-at.invariant in
    let (is, filled) = line_if_some c.in-Some.ensures in
    let number = c.in-Err-check_rule.ensures _ (rest_held _ _ c.loop-at-test.true _ is filled) in
    record {
      is = rules_stop (loop.3 h good e) c.loop-at-test.true _ is filled c.if-l.false _ number (number_some _);
      place = loop.1;
      numbered = loop.2;
    }

-- a line that is taken as a rule: its number counts on, and there is room for it
pub overflow_add-line : goal.overflow_add-line
overflow_add-line c = omega (arith, c.loop-at.invariant.1)

pub offset_bounds-grammar-n : goal.offset_bounds-grammar-n
offset_bounds-grammar-n c = let m = (fits (goal.at.offset_bounds-grammar-n c).In_default-check_rule).0 in search rules

pub bounds-grammar-n : goal.bounds-grammar-n
bounds-grammar-n c = (fits (goal.at.bounds-grammar-n c).In_default-check_rule).0

pub put_parts-requires : goal.put_parts-requires
put_parts-requires c =
    let m = fits (goal.at.put_parts-requires c).In_default-check_rule in
    let (is, filled) = line_if_some c.in-Some.ensures in
    let arity = c.arity_of.ensures _ (rest_held _ _ c.loop-at-test.true _ is filled) in
    (m.0, le_trans (le_of_eq arity) m.1, m.2)

pub overflow_add-grammar : goal.overflow_add-grammar
overflow_add-grammar c = let m = (fits (goal.at.overflow_add-grammar c).In_default-check_rule).0 in search rules

pub loop-at-smaller : goal.loop-at-smaller
loop-at-smaller c =
    let (is, filled) = line_if_some c.in-Some.ensures in
    line_falls _ _ c.loop-at-test.true _ (line_next _ _ _ is filled)

pub loop-at-preserved : goal.loop-at-preserved
loop-at-preserved c =
    let text = c.args.text.now in
    let inside = c.loop-at-test.true in
    let (is, filled) = line_if_some c.in-Some.ensures in
    let next = line_next text c.loop-at.at _ is filled in
    let held = rest_held text c.loop-at.at inside _ is filled in
    let further = line_size_pos text c.loop-at.at inside in (
      le_trans (le_of_eq next) (line_within text c.loop-at.at (omega arith)),
      omega (arith, next, c.loop-at.invariant.1),
      search rules,
      λ h good e.
          rules_more (c.loop-at.invariant.3 h good e) inside _ is filled c.if-l.false _
          (c.in_default-check_rule.ensures _ held) refl _ (c.rule_of.ensures _ held) _ _
          (c.arity_of.ensures _ held) (c.put_parts.ensures _ held) _ refl,
    )

-- no line is left
pub returns : goal.returns
returns c h good e =
    let loop = c.loop-at.invariant in
    record { is = rules_end (loop.3 h good e) c.loop-at-test.false; place = loop.1; numbered = loop.2 }

-- `read_rules` meets its contract. The loop's invariant, for the grammar that the table holds at the start, is `RulesSoFar`: the lines
-- before place `at` have been read as rules, and the outcome is that of the lines from there on. The measure is what is left of the text.
-- Assumes nothing.
use Prim.Native.Nat.{◌+◌, ◌-◌, ◌≤◌, ◌<◌}
use mathlib.Core.Path.{◌≡◌}
use lib.ListN.{length}
use Rattle.sheet.specs.Sheet.{Grammar}
use Rattle.sheet.specs.Held.{grammar_table}
use Rattle.sheet.specs.Good.{GoodRules}
use Rattle.grammar.proofs.RuleLoop.{RulesSoFar}
use Rattle.grammar.proofs.read_rules.Given as goal

abbrev pub invariant-loop-at : goal.invariant-loop-at
invariant-loop-at l =
    (l.at ≤ length l.text) × (l.line ≤ l.at + 1) × (0 < l.line)
    × ((h : Grammar) → GoodRules h → l.initial.grammar ≡ grammar_table h → RulesSoFar l.text l.at-2 l.line-2 h l.grammar l.at l.line)

abbrev pub decreases-loop-at : goal.decreases-loop-at
decreases-loop-at l = length l.text - l.at

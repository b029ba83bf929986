-- What the steps of reading a grammar promise.
use Rattle.std.specs.Prelude.{ℕ, ◌+◌, ◌≤◌, ◌<◌, ◌≡◌, cond, List, [], ◌∷◌, ◌++◌, length, drop, eqb, Result, Ok, Err}
use Rattle.hextext.specs.Packed.{line_read}
use Rattle.sheet.specs.declared.table.Rule.{Rule}
use Rattle.sheet.specs.declared.table.Rule.TheVariants.{Division, Leaf}
use Rattle.sheet.specs.Sheet.{Grammar}
use Rattle.sheet.specs.Reading.{byte, two, in_rules}
use Rattle.sheet.specs.declared.refusal.Stop.{Stop}
use Rattle.sheet.specs.Rest.{read_rest, Stopped}
use Rattle.sheet.specs.Held.{grammar_table, child_cells}
use Rattle.sheet.specs.Good.{GoodRules}
use Rattle.grammar.specs.declared.Rules.{Rules}

-- the rule of a `44` or `4C` line without the nonterminals of its parts, and how many these are
unfoldable pub cell_of : List ℕ → Rule
cell_of l = cond (eqb (byte l 0) 0x44) (Division (byte l 1) (two l 2) (byte l 4)) (Leaf (byte l 1) (two l 2) (byte l 4))

unfoldable pub arity_of : List ℕ → ℕ
arity_of l = cond (eqb (byte l 0) 0x44) (byte l 4) 0

-- the parts of rule n, behind those of the rules before it
abbrev pub PartsPut : (n : ℕ) (parts before after : List ℕ) → Type 0
PartsPut n parts before after =
    (rs : List (List ℕ)) → length rs ≡ n → before ≡ child_cells rs → after ≡ child_cells (rs ++ (parts ∷ []))

-- the rules are read, up to the `45` line: a grammar with a rule, and the same outcome from that line on
pub record RulesDone (t : List ℕ) (at n : ℕ) (h : Grammar) (r : Rules) : Type 0 where
  pub grammar : Grammar
  pub table : r.grammar ≡ grammar_table grammar
  pub good : GoodRules grammar
  pub some_rule : 1 ≤ length grammar.rules
  pub inside : r.at < length t
  pub line : r.line ≤ r.at + 1
  pub numbered : 0 < r.line
  pub end : r.end ≡ line_read t r.at
  pub filled : 0 < r.end.count
  pub kind : r.end.kind ≡ 0x45
  pub rest : read_rest (in_rules h) n (drop at t) ≡ read_rest (in_rules grammar) r.line (drop r.at t)

-- reading the rules from line n, at place `at`, on
abbrev pub RulesRead : (t : List ℕ) (at n : ℕ) → Grammar → Result Rules Stop → Type 0
RulesRead t at n h (Ok r) = RulesDone t at n h r
RulesRead t at n h (Err e) = Stopped t (read_rest (in_rules h) n (drop at t)) e

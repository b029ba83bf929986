-- The loop over the lines after the `47` line: what holds where some rules have been read, how a line keeps it, and how it ends.
-- Assumes nothing.
use Prim.Native.Nat.{ℕ, zero, suc, ◌+◌, ◌<◌, ◌≤◌}
use mathlib.Core.Path.{◌≡◌, refl, sym, ap, subst, ◌∙◌}
use mathlib.Core.List.{List, [], ◌∷◌, ◌++◌, map}
use native.Mathlib.Omega.{arith}
use lib.ListN.{length, drop, set, length-map}
use lib.Dec.{ltb}
use borrow.Author.Tests.{eq-eqb, ne_eqb, lt-ltb, ltb-true}
use Rattle.hextext.specs.declared.line.Line.{Line}
use Rattle.hextext.specs.Text.{line_bytes}
use Rattle.hextext.specs.Packed.{line_read}
use Rattle.sheet.specs.declared.table.Rule.{Rule}
use Rattle.sheet.specs.declared.table.GrammarTable.{GrammarTable}
use Rattle.sheet.specs.Sheet.{Grammar}
use Rattle.sheet.specs.Reading.{demand, byte, bytes_from, rule_refusal, rule_of, with_rule, in_rules, rules_refusal, refusal, after}
use Rattle.sheet.specs.Rest.{read_rest, stopped, rest_end, rest_bad, rest_stop, rest_held, rest_on}
use Rattle.sheet.specs.Held.{LineHeld, grammar_table, parts_of, child_cells}
use Rattle.sheet.specs.Good.{GoodRules}
use Rattle.sheet.specs.SoFar.{GoodProgress}
use Rattle.sheet.specs.Laws.{demand_zero, end_in_rules}
use Rattle.sheet.proofs.GoodBars.{line_small}
use Rattle.sheet.proofs.GoodLines.{good_after}
use Rattle.grammar.specs.Clauses.{cell_of, arity_of, RulesDone}
use Rattle.grammar.proofs.Tables.{cell_is, parts_are, room, rule_stored}

-- a line that adds a rule has room, and is short, by the code's own numbers
pub rule_fits : (t : List ℕ) (at : ℕ) (inside : at < length t) (l : Line) (is : l ≡ line_read t at) (filled : l.count ≡ 0 → ⊥)
    (q n k : ℕ) → k ≡ rule_refusal q n (line_bytes (drop at t)) → k ≡ 0
    → (n < 64) × (arity_of (line_bytes (drop at t)) ≤ 8) × (l.count ≤ 13)
rule_fits t at inside l is filled q n k e z =
    let r = room (line_bytes (drop at t)) q n (sym e ∙ z) in
    (r.0, r.1, omega (arith, r.2, (rest_held t at inside l is filled).count))

-- of the lines from line n, at place `at`, on, those before line n', at place at', have been read as rules behind those of h
pub record RulesSoFar (t : List ℕ) (at n : ℕ) (h : Grammar) (table : GrammarTable) (at' n' : ℕ) : Type 0 where
  pub grammar : Grammar
  pub good : GoodRules grammar
  pub table_is : table ≡ grammar_table grammar
  pub rest : read_rest (in_rules h) n (drop at t) ≡ read_rest (in_rules grammar) n' (drop at' t)

-- none yet
pub rules_none : (t : List ℕ) (at n : ℕ) (h : Grammar) (table : GrammarTable) → GoodRules h → table ≡ grammar_table h
    → RulesSoFar t at n h table at n
rules_none t at n h table good e = record { grammar = h; good = good; table_is = e; rest = refl }

module _ {t : List ℕ} {at n : ℕ} {h : Grammar} {table : GrammarTable} {at' n' : ℕ}
    (so : RulesSoFar t at n h table at' n') where
  abbrev g : Grammar
  g = so.grammar

  abbrev b : List ℕ
  b = line_bytes (drop at' t)

  -- reading stops at line n' with number k
  abbrev Stops : ℕ → Type 0
  Stops k = read_rest (in_rules h) n (drop at t) ≡ stopped k n' (drop at' t)

  -- no line is left
  pub rules_end : length t ≤ at' → Stops 3
  rules_end past = so.rest ∙ rest_end (in_rules g) n' t at' 3 past (end_in_rules g n')

  -- another line is read
  module _ (inside : at' < length t) (l : Line) (is : l ≡ line_read t at') where
    -- a bad one
    pub rules_bad : 0 < n' → l.count ≡ 0 → (k : ℕ) → Stops k
    rules_bad pos e k = so.rest ∙ rest_bad t at' inside l is (in_rules g) n' pos e k

    module _ (filled : l.count ≡ 0 → ⊥) where
      line_held : LineHeld l b
      line_held = rest_held t at' inside l is filled

      count_is : table.count ≡ length g.rules
      unfolding grammar_table
      count_is = ap (λ (x : GrammarTable). x.count) so.table_is

      stop : (k : ℕ) → k ≡ refusal (in_rules g) b → (k ≡ 0 → ⊥) → Stops k
      stop k e f = so.rest ∙ rest_stop t at' inside l is (in_rules g) n' k e f

      -- the `45` line, whose refusal by the number of rules is k
      module _ (kind : l.kind ≡ 0x45) (k : ℕ) (number : k ≡ demand (ltb 0 table.count) 3 0) where
        -- no rule stands before it
        early : (m : ℕ) → m ≡ length g.rules → (demand (ltb 0 m) 3 0 ≡ 0 → ⊥) → 3 ≡ refusal (in_rules g) b
        unfolding refusal rules_refusal
        early zero e f = rw (eq-eqb (byte b 0) 0x45 (sym line_held.kind ∙ kind), ← e) refl
        early (suc m) e f = absurd (f (simp (lt-ltb 0 (suc m) (omega arith))))

        three : (m : ℕ) → (demand (ltb 0 m) 3 0 ≡ 0 → ⊥) → demand (ltb 0 m) 3 0 ≡ 3
        three zero f = refl
        three (suc m) f = absurd (f (simp (lt-ltb 0 (suc m) (omega arith))))

        pub rules_early : (k ≡ 0 → ⊥) → Stops k
        rules_early f =
            let refused : demand (ltb 0 table.count) 3 0 ≡ 0 → ⊥ = λ z. f (number ∙ z) in
            stop k (number ∙ three table.count refused ∙ early table.count count_is refused) f

        -- and some do
        pub rules_done : k ≡ 0 → n' ≤ at' + 1 → 0 < n' → RulesDone t at n h (record { line = n'; at = at'; end = l; grammar = table })
        rules_done z line pos =
            record {
              grammar = g;
              table = so.table_is;
              good = so.good;
              some_rule =
                  let m = ltb-true 0 table.count (demand_zero (ltb 0 table.count) 2 0 (sym number ∙ z)).0 in
                  omega (arith, count_is);
              inside = inside;
              line = line;
              numbered = pos;
              end = is;
              filled = omega (arith, filled);
              kind = kind;
              rest = so.rest;
            }

      -- a line of another kind, whose refusal is k
      module _ (other : l.kind ≡ 0x45 → ⊥) (k : ℕ) (number : k ≡ rule_refusal table.nonterminals table.count b) where
        not_end : byte b 0 ≡ 0x45 → ⊥
        not_end e = other (line_held.kind ∙ e)

        number_is : k ≡ refusal (in_rules g) b
        unfolding grammar_table refusal rules_refusal
        number_is =
            number
            ∙ (λ j. rule_refusal (so.table_is j).nonterminals (so.table_is j).count b)
            ∙ simp (ne_eqb (byte b 0) 0x45 not_end)

        -- and refused
        pub rules_stop : (k ≡ 0 → ⊥) → Stops k
        rules_stop = stop k number_is

        -- or taken
        module _ (z : k ≡ 0) where
          met : refusal (in_rules g) b ≡ 0
          met = sym number_is ∙ z

          next : after (in_rules g) b ≡ in_rules (with_rule g (rule_of b))
          unfolding after
          next = simp (ne_eqb (byte b 0) 0x45 not_end)

          pub rules_more : (cell : Rule) → cell ≡ cell_of b → (children : List ℕ) (m : ℕ) → m ≡ arity_of b
              → ((rs : List (List ℕ)) → length rs ≡ table.count → table.children ≡ child_cells rs
              → children ≡ child_cells (rs ++ (bytes_from m 5 b ∷ [])))
              → (table' : GrammarTable)
              → table' ≡ record {
                nonterminals = table.nonterminals;
                start = table.start;
                multiplier = table.multiplier;
                count = table.count + 1;
                rules = set table.rules table.count cell;
                children = children;
              }
              → RulesSoFar t at n h table' l.next (n' + 1)
          unfolding grammar_table
          rules_more cell ec children m em put table' et =
              let e = so.table_is in
              let counted = length-map g.rules parts_of ∙ sym (ap (λ (x : GrammarTable). x.count) e) in
              let fits = rule_fits t at' inside l is filled table.nonterminals table.count k number z in
              let with-parts : List ℕ → List ℕ = λ x. child_cells (map parts_of g.rules ++ (x ∷ [])) in
              let parts = put (map parts_of g.rules) counted (ap (λ (x : GrammarTable). x.children) e)
              ∙ ap with-parts (ap (λ (x : ℕ). bytes_from x 5 b) em ∙ parts_are b) in
              record {
                grammar = with_rule g (rule_of b);
                good = subst GoodProgress next (good_after (in_rules g) b (line_small b line_held.small) so.good met);
                table_is = et ∙ rule_stored g table (rule_of b) cell children e fits.0 (ec ∙ cell_is b) parts;
                rest =
                    so.rest ∙ rest_on t at' inside l is (in_rules g) n' filled met
                    ∙ ap (λ x. read_rest x (n' + 1) (drop l.next t)) next;
              }

-- Steps of setting the flags of arities, rule after rule of a grammar's table.
use Prim.Native.Nat.{ℕ, ◌+◌, ◌<◌, ◌≤◌}
use mathlib.Core.Path.{◌≡◌, refl, ap, ◌∙◌}
use mathlib.Core.Bool.{Bool, true, false}
use mathlib.Core.List.{List, [], ◌∷◌, ◌++◌, map}
use native.Mathlib.Numerals.{add-one}
use native.Mathlib.Omega.{arith}
use lib.ListN.{length, get_or, set, take, get_or-map}
use lib.Seq.{take-suc, take_all}
use Rattle.slices.specs.Every.{every_in}
use Rattle.slices.specs.Pad.{get_or-pad}
use Rattle.sheet.specs.declared.table.GrammarTable.{GrammarTable}
use Rattle.sheet.specs.declared.table.Rule.TheVariants.{Division}
use Rattle.sheet.specs.Sheet.{Rule, division, leaf, Grammar}
use Rattle.sheet.specs.Held.{grammar_table, rule_cell, no_rule}
use Rattle.sheet.specs.Good.{GoodRule, GoodRules}
use Rattle.sizes.specs.Sizes.{has_arity}
use Rattle.sizes.specs.Held.{arity_flags}
use Rattle.sizes.proofs.FlagSteps.{flags_division, flags_leaf}

-- the rule that a place's zero is the cell of
abbrev zero_rule : Rule
zero_rule = division 0 0 []

-- r is the rule at place i of a grammar and of its table
record RuleAt (g : GrammarTable) (h : Grammar) (i : ℕ) (r : Rule) : Type 0 where
  cell : get_or g.rules i no_rule ≡ rule_cell r
  front : take (i + 1) h.rules ≡ take i h.rules ++ (r ∷ [])
  good_rule : GoodRule h.nonterminals r

-- the flags are of the first i rules of any good grammar that the table holds
abbrev pub FlagsOf : (g : GrammarTable) (flags : List Bool) (i : ℕ) → Type 0
FlagsOf g flags i = (h : Grammar) → GoodRules h → g ≡ grammar_table h → flags ≡ arity_flags (take i h.rules)

-- no rule has been looked at
pub flags_none : (g : GrammarTable) → FlagsOf g (false ∷ false ∷ false ∷ false ∷ false ∷ false ∷ false ∷ false ∷ false ∷ []) 0
unfolding arity_flags has_arity
flags_none g h good e = refl

module _ (g : GrammarTable) (flags : List Bool) (i : ℕ) (so_far : FlagsOf g flags i) where
  -- every rule has
  pub flags_all : g.count ≤ i → (h : Grammar) → GoodRules h → g ≡ grammar_table h → flags ≡ arity_flags h.rules
  unfolding grammar_table
  flags_all l h good e =
      so_far h good e ∙ ap arity_flags (take_all i h.rules (omega (arith, ap (λ (t : GrammarTable). t.count) e)))

  module _ (within : i < g.count) where
    -- the rule at the next place
    rule_at_lem : (h : Grammar) → GoodRules h → g ≡ grammar_table h → RuleAt g h i (get_or h.rules i zero_rule)
    unfolding grammar_table
    rule_at_lem h good e =
        let l : i < length h.rules = omega (arith, ap (λ (t : GrammarTable). t.count) e) in
        record {
          cell =
              ap (λ (t : GrammarTable). get_or t.rules i no_rule) e
              ∙ get_or-pad 64 no_rule (map rule_cell h.rules) i (omega (arith, good.most))
              ∙ get_or-map rule_cell h.rules i zero_rule;
          front = rw add-one (take-suc h.rules i zero_rule l);
          good_rule = every_in (GoodRule h.nonterminals) h.rules i zero_rule l good.rules;
        }

    -- a division with an arity below 9
    pub flags_set : (head weight arity : ℕ) → get_or g.rules i no_rule ≡ Division head weight arity → arity < 9
        → FlagsOf g (set flags arity true) (i + 1)
    flags_set head weight arity is m h good e = go (get_or h.rules i zero_rule) (rule_at_lem h good e)
      where
        go : (r : Rule) → RuleAt g h i r → set flags arity true ≡ arity_flags (take (i + 1) h.rules)
        go (division u v ks) n =
            let a : length ks ≡ arity = cc (is, n.cell) in
            rw (n.front, ← a, so_far h good e) (flags_division (take i h.rules) u v ks (omega arith))
        go (leaf u v k) n = let z : ◌≡◌ {A = ℕ} 0 1 = cc (is, n.cell) in absurd (omega arith)

    -- a leaf, or a division with another arity, which no good grammar has
    pub flags_kept : ((head weight arity : ℕ) → get_or g.rules i no_rule ≡ Division head weight arity → arity < 9 → ⊥)
        → FlagsOf g flags (i + 1)
    flags_kept other h good e = go (get_or h.rules i zero_rule) (rule_at_lem h good e)
      where
        go : (r : Rule) → RuleAt g h i r → flags ≡ arity_flags (take (i + 1) h.rules)
        go (division u v ks) n = absurd (other u v (length ks) n.cell (omega (arith, n.good_rule.eight)))
        go (leaf u v k) n = rw (n.front, so_far h good e) (flags_leaf (take i h.rules) u v k)

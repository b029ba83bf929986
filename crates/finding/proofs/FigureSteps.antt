-- The steps of `weight_sum` and `figures`: the weight of the rule in a cell, the sum over a list's front, and R and D of a total. Assumes
-- nothing.
use Prim.Native.Nat.{ℕ, ◌+◌, ◌-◌, ◌*◌, ◌≤◌, ◌<◌}
use mathlib.Core.Path.{◌≡◌, refl, sym, ap, ◌∙◌}
use mathlib.Core.List.{List}
use native.Mathlib.Omega.{arith}
use lib.ListN.{length, drop, get_or, drop_of_length-le}
use Rattle.slices.specs.Every.{every_in, every_weaken}
use Rattle.slices.specs.Lookup.{drop-step}
use Rattle.sheet.specs.declared.table.Rule as held
use Rattle.sheet.specs.declared.table.GrammarTable.{GrammarTable}
use Rattle.sheet.specs.Sheet.{Sheet}
use Rattle.sheet.specs.Held.{grammar_table, weight_in}
use Rattle.trees.specs.ValidTrees.{rule_at, weight_at, rule_weight, total_of}
use Rattle.trees.proofs.Theorems.{valid_bytes, nodes_most}
use Rattle.expansions.specs.Tables.{unpacked_of, PackedRules}
use Rattle.expansions.specs.RuleCells.{cell_weight}
use Rattle.pricing.specs.Pricing.{priced, priced_of}
use Rattle.finding.specs.Clauses.{WeightPre, FiguresPre}

-- ---- `weight_sum`

-- a number of the list is a place of the packed rules
pub rule_below : {s : Sheet} {rules list : List ℕ} → WeightPre s rules list → (i : ℕ) → i < length list → get_or list i 0 < 64
rule_below {list = list} e i h = every_in (λ (r : ℕ). r < 64) list i 0 h e.below

-- the weights of the first i rules of a list are summed
abbrev pub SummedTo : (rules list : List ℕ) → (sum i : ℕ) → Type 0
SummedTo rules list sum i = (s : Sheet) → PackedRules s.grammar rules → sum + rule_weight s (drop i list) ≡ rule_weight s list

module _ (rules list : List ℕ) (sum i : ℕ) (t : SummedTo rules list sum i) where
  pub one_summed : i < length list → (r : ℕ) → r ≡ get_or list i 0 → r < 64 → (rule : held.Rule) → rule ≡ unpacked_of (get_or rules r 0)
      → (w : ℕ) → w ≡ weight_in rule → SummedTo rules list (sum + w) (i + 1)
  unfolding rule_weight weight_at
  one_summed h r er below rule is w ew s p =
      let own : w ≡ weight_at s r = ew ∙ ap weight_in (is ∙ p r below) ∙ cell_weight (rule_at s r) in
      let here : rule_weight s (drop i list) ≡ weight_at s r + rule_weight s (drop (i + 1) list) =
      ap (rule_weight s) (drop-step list i h) ∙ ap (λ (x : ℕ). weight_at s x + rule_weight s (drop (i + 1) list)) (sym er) in
      omega (arith, own, here, t s p)

  pub all_summed : length list ≤ i → (s : Sheet) → WeightPre s rules list → sum ≡ rule_weight s list
  unfolding rule_weight
  all_summed h s e =
      let rest : rule_weight s (drop i list) ≡ 0 = ap (rule_weight s) (drop_of_length-le list h) in
      omega (arith, rest, t s e.packed)

-- ---- `figures`

module _ {s : Sheet} {grammar : GrammarTable} {list : List ℕ} {R D total : ℕ} (h : FiguresPre s grammar list R D total) where
  pub weight_pre : {rules : List ℕ} → PackedRules s.grammar rules → WeightPre s rules list
  weight_pre p = record {
    packed = p;
    below = every_weaken _ _ (λ r k. omega (arith, k, h.good.rules.most)) list (valid_bytes s list h.tree.valid);
    few = nodes_most s h.good list h.tree.valid;
  }

  multiplier_is : grammar.multiplier ≡ s.grammar.multiplier
  unfolding grammar_table
  multiplier_is = ap (λ (g : GrammarTable). g.multiplier) h.held

  module _ (weight : ℕ) (ew : weight ≡ rule_weight s list) where
    weight_is : weight ≡ R
    weight_is = ew ∙ h.tree.weight

    weighted_is : grammar.multiplier * weight ≡ s.grammar.multiplier * R
    weighted_is = rw (multiplier_is, weight_is) refl

    -- the rules cost no more than all
    pub weighted_fits : grammar.multiplier * weight ≤ total
    weighted_fits = omega (arith, weighted_is, h.total_is)

    pub figures_are : priced_of (priced (length list) weight (total - grammar.multiplier * weight) total)
        ≡ priced_of (priced (length list) R D (total_of s R D))
    figures_are =
        let rest : total - grammar.multiplier * weight ≡ D = omega (arith, weighted_is, h.total_is) in
        rw (rest, weight_is, h.total_is) refl

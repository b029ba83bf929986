-- Steps of preparing the plan: the tables of a sheet, and what all sections together are of it.
use Prim.Native.Nat.{ℕ, ◌+◌, ◌*◌, ◌≤◌, ◌<◌}
use mathlib.Core.Path.{◌≡◌, refl, sym, ap, ◌∙◌}
use mathlib.Core.List.{List, map}
use mathlib.Core.Option.{some}
use native.Mathlib.Omega.{arith}
use lib.ListN.{length, get_or}
use Rattle.slices.specs.Lookup.{some_below}
use Rattle.slices.specs.Pad.{pad, get_or-pad}
use Rattle.groups.specs.Groups.{key_count}
use Rattle.groups.specs.GroupLaws.{group_same}
use Rattle.sheet.specs.declared.table.GrammarTable.{GrammarTable}
use Rattle.sheet.specs.Sheet.{division, Grammar, Sheet}
use Rattle.sheet.specs.Good.{GoodRules}
use Rattle.sheet.specs.Held.{parts_of, child_cells, grammar_table}
use Rattle.trees.specs.ValidTrees.{rule_at}
use Rattle.sizes.specs.declared.LengthTable.{LengthTable}
use Rattle.sizes.specs.Sizes.{lengths_of, length_count}
use Rattle.sizes.specs.Held.{length_table}
use Rattle.sizes.specs.SizesLaws.{count_length, length_count_most, lengths_fall}
use Rattle.expansions.specs.Tables.{unpacked_of, PackedRules, RulesHeld}
use Rattle.plan.specs.Layout.{kinds, children_at, leaves_at}
use Rattle.plan.specs.Leaves.{rule_count}
use Rattle.plan.specs.Heads.{RuleGroup}
use Rattle.plan.specs.RuleKeys.{ByHead}
use Rattle.plan.specs.Plan.{lengths, length_at, PartLength, order_cell, place_cell, way_cell, WaysOf, Prepared}
use Rattle.plan.specs.PlanLaws.{lengths_most}
use Rattle.plan.specs.Sections.{PackedLeaves, PartAmong, Falling, WayIs, Sections}

-- ---- the plan

-- the tables of a sheet
pub record TablesOf (s : Sheet) (rules children leaves lens : List ℕ) (a q count n : ℕ) : Type 0 where
  pub good : GoodRules s.grammar
  pub rules_are : PackedRules s.grammar rules
  pub children_are : children ≡ child_cells (map parts_of s.grammar.rules)
  pub leaves_are : PackedLeaves s leaves
  pub lens_are : lens ≡ pad 84 0 (lengths_of s.grammar.rules)
  pub a_is : a ≡ s.grammar.multiplier
  pub q_is : q ≡ s.grammar.nonterminals
  pub count_is : count ≡ length (lengths_of s.grammar.rules)
  pub n_is : n ≡ rule_count s

-- a good grammar's table has at most 64 rules
pub few_rules : (g : GrammarTable) (h : Grammar) → GoodRules h → g ≡ grammar_table h → g.count ≤ 64
unfolding grammar_table
few_rules g h good e = omega (arith, ap (λ (t : GrammarTable). t.count) e, good.most)

-- and at most 16 nonterminals
pub few_heads : (g : GrammarTable) (h : Grammar) → GoodRules h → g ≡ grammar_table h → g.nonterminals ≤ 16
unfolding grammar_table
few_heads g h good e = omega (arith, ap (λ (t : GrammarTable). t.nonterminals) e, good.sixteen)

-- its lengths fall, and there are at most 84
pub falling : (h : Grammar) (t : LengthTable) → t ≡ length_table (lengths_of h.rules) → Falling t.cells t.count
unfolding length_table
falling h t e i j less within =
    let rs = h.rules in
    let count : t.count ≡ length_count rs = ap (λ (x : LengthTable). x.count) e ∙ sym (count_length rs) in
    let at : (l : ℕ) → l < 84 → get_or t.cells l 0 ≡ get_or (lengths_of rs) l 0 =
    λ l below. ap (λ (x : LengthTable). get_or x.cells l 0) e ∙ get_or-pad 84 0 (lengths_of rs) l below in
    rw (at i (omega (arith, count, length_count_most rs)), at j (omega (arith, count, length_count_most rs)))
    (lengths_fall rs i j less (omega (arith, count)))

pub few_lengths : (h : Grammar) (t : LengthTable) → t ≡ length_table (lengths_of h.rules) → t.count ≤ 84
unfolding length_table
few_lengths h t e =
    omega (arith, ap (λ (x : LengthTable). x.count) e, count_length h.rules, length_count_most h.rules)

-- what the calls told
pub tables_of : (s : Sheet) → GoodRules s.grammar → (g : GrammarTable) → g ≡ grammar_table s.grammar
    → (rules leaves : List ℕ)
    (reached : LengthTable) → ((h : Grammar) → g ≡ grammar_table h → PackedRules h rules)
    → ((u : Sheet) → RulesHeld u rules → g.multiplier ≡ u.grammar.multiplier → g.count ≡ rule_count u
    → PackedLeaves u leaves)
    → reached ≡ length_table (lengths_of s.grammar.rules)
    → TablesOf s rules g.children leaves reached.cells g.multiplier g.nonterminals reached.count g.count
unfolding grammar_table length_table
tables_of s good g e rules leaves reached packs lowers lens =
    let packed = packs s.grammar e in
    let multiplied = ap (λ (t : GrammarTable). t.multiplier) e in
    let counted = ap (λ (t : GrammarTable). t.count) e in
    record {
      good = good;
      rules_are = packed;
      children_are = ap (λ (t : GrammarTable). t.children) e;
      leaves_are = lowers s (record { good = good; rules = packed }) multiplied counted;
      lens_are = ap (λ (t : LengthTable). t.cells) lens;
      a_is = multiplied;
      q_is = ap (λ (t : GrammarTable). t.nonterminals) e;
      count_is = ap (λ (t : LengthTable). t.count) lens;
      n_is = counted;
    }

module _ (s : Sheet) (rules children leaves lens : List ℕ) (a q count n : ℕ)
    (t : TablesOf s rules children leaves lens a q count n) where
  count_lengths : count ≡ lengths s
  count_lengths = t.count_is ∙ sym (count_length s.grammar.rules)

  lens_at : (l : ℕ) → l < 84 → get_or lens l 0 ≡ length_at s l
  lens_at l h = ap (λ (xs : List ℕ). get_or xs l 0) t.lens_are ∙ get_or-pad 84 0 (lengths_of s.grammar.rules) l h

  -- a place among the cells is an index of a length
  part_of : (l k h : ℕ) → l < 84 → PartAmong lens count l k h → PartLength s l k h
  part_of l k h within p =
      record {
        is = λ less.
            sym (lens_at l within) ∙ p.is (omega (arith, count_lengths))
            ∙ ap (λ (x : ℕ). k * x) (lens_at h (omega (arith, lengths_most s)));
        none = λ past i less e.
            p.none (omega (arith, count_lengths)) i (omega (arith, count_lengths))
            (lens_at l within ∙ e ∙ ap (λ (x : ℕ). k * x) (sym (lens_at i (omega (arith, lengths_most s)))));
      }

  module _ {order first plan : List ℕ} (groups : ByHead s order first)
      (sections : Sections rules children leaves lens order first a q count n plan) where
    -- a group's places
    group_in : (k : ℕ) → k < key_count → RuleGroup s (order_cell plan) k (place_cell plan k) (place_cell plan (k + 1))
    group_in k h =
        rw (sections.first_at_lem k (omega arith), sections.first_at_lem (k + 1) (omega arith))
        (group_same (groups.group k h)
        (λ i lo hi. sections.order_at_lem i (omega (arith, hi, groups.most (k + 1) (omega arith), t.good.most))))

    -- the ways of a division
    ways_of : (r j h w : ℕ) (ks : List ℕ) → rule_at s r ≡ some (division h w ks) → j < length ks → WaysOf s plan r ks j
    ways_of r j h w ks e within = record {
      straight = (way 0 (omega arith)).straight refl;
      crossed = (way 1 (omega arith)).crossed refl;
      onward = (way 2 (omega arith)).onward refl;
    }
      where
        way : (i : ℕ) → i < 3 → WayIs s r ks j i (way_cell plan r j i)
        way i l =
            sections.way r j i (omega (arith, some_below s.grammar.rules r (division h w ks) e, t.n_is)) l s
            (record { good = t.good; rules = t.rules_are })
            (record { good = t.good; children_are = t.children_are; leaves_are = t.leaves_are }) t.a_is h w ks e within

    pub prepared : Prepared s plan
    prepared = record {
      good = t.good;
      rules = λ r l. ap unpacked_of (sections.rule r l) ∙ t.rules_are r l;
      child = λ r j l m.
          let same : children_at + 8 * r + j ≡ children_at + (8 * r + j) = omega arith in
          ap (λ (i : ℕ). get_or plan i 0) same ∙ sections.child (8 * r + j) (omega arith)
          ∙ ap (λ (xs : List ℕ). get_or xs (8 * r + j) 0) t.children_are;
      leaves = λ p m l k.
          let same : leaves_at + kinds * p + m ≡ leaves_at + (kinds * p + m) = omega arith in
          ap (λ (i : ℕ). get_or plan i 0) same ∙ sections.leaf (kinds * p + m) (omega arith) ∙ t.leaves_are p m l k;
      length-at = λ l h. sections.length-at l h ∙ lens_at l h;
      part = λ l k within two eight.
          let below : l < 84 = omega (arith, lengths_most s) in
          part_of l k _ below (sections.part l k (omega (arith, count_lengths)) two (omega arith));
      group = group_in;
      places = λ k h. omega (arith, sections.first_at_lem k (omega arith), groups.most k h);
      saved_are = λ c h. sections.saved c h s t.good t.leaves_are t.q_is;
      multiplier = sections.multiplier ∙ t.a_is;
      nonterminals = sections.nonterminals ∙ t.q_is;
      lengths_are = sections.lengths ∙ count_lengths;
      ways = ways_of;
    }

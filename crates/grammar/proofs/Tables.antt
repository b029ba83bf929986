-- What a rule's line adds, and one rule more as the code's table holds it. Assumes nothing.
use Prim.Native.Nat.{ℕ, ◌+◌, ◌<◌, ◌≤◌}
use mathlib.Core.Path.{◌≡◌, refl, sym, ap, ◌∙◌}
use mathlib.Core.Bool.{Bool, true, false, cond}
use mathlib.Core.List.{List, [], ◌∷◌, ◌++◌, map, map-append}
use native.Mathlib.Omega.{arith}
use lib.ListN.{length, set, length-append}
use lib.Dec.{eqb}
use Rattle.slices.specs.Pad.{pad_map_more}
use Rattle.sheet.specs.declared.table.Rule as held
use Rattle.sheet.specs.declared.table.Rule.TheVariants.{Division, Leaf}
use Rattle.sheet.specs.declared.table.GrammarTable.{GrammarTable}
use Rattle.sheet.specs.Sheet.{Rule, Grammar}
use Rattle.sheet.specs.Reading.{byte, two, bytes_from, division_refusal, division_of, leaf_refusal, leaf_of, rule_refusal, rule_of}
use Rattle.sheet.specs.Reading.{with_rule}
use Rattle.sheet.specs.Held.{no_rule, rule_cell, parts_of, child_cells, grammar_table}
use Rattle.sheet.specs.Laws.{length-bytes, division_passed, leaf_passed}
use Rattle.grammar.specs.Clauses.{cell_of, arity_of}

module _ (l : List ℕ) where
  pub cell_is : cell_of l ≡ rule_cell (rule_of l)
  unfolding cell_of rule_of division_of leaf_of
  cell_is = go (eqb (byte l 0) 0x44)
    where
      go : (t : Bool)
          → cond t (Division (byte l 1) (two l 2) (byte l 4)) (Leaf (byte l 1) (two l 2) (byte l 4))
          ≡ rule_cell (cond t (division_of l) (leaf_of l))
      go true = ap (Division (byte l 1) (two l 2)) (sym (length-bytes l (byte l 4) 5))
      go false = refl

  pub parts_are : bytes_from (arity_of l) 5 l ≡ parts_of (rule_of l)
  unfolding arity_of rule_of division_of leaf_of bytes_from
  parts_are = go (eqb (byte l 0) 0x44)
    where
      go : (t : Bool) → bytes_from (cond t (byte l 4) 0) 5 l ≡ parts_of (cond t (division_of l) (leaf_of l))
      go true = refl
      go false = refl

  -- a line that adds a rule has room for it, and is short
  pub room : (q n : ℕ) → rule_refusal q n l ≡ 0 → (n < 64) × (arity_of l ≤ 8) × (length l ≤ 13)
  unfolding rule_refusal arity_of
  room q n z = go (eqb (byte l 0) 0x44) (eqb (byte l 0) 0x4C) z
    where
      go : (a b : Bool) → cond a (division_refusal q n l) (cond b (leaf_refusal q n l) 3) ≡ 0
          → (n < 64) × (cond a (byte l 4) 0 ≤ 8) × (length l ≤ 13)
      go true b z = let p = division_passed q n l z in (p.room, p.most, omega (arith, p.count, p.most))
      go false true z = let p = leaf_passed q n l z in (p.room, omega arith, omega (arith, p.count))
      go false false z = let f : ⊥ = omega arith in absurd f

-- a table with one rule more
pub rule_stored : (g : Grammar) (t : GrammarTable) (r : Rule) (cell : held.Rule) (children : List ℕ)
    → t ≡ grammar_table g → t.count < 64 → cell ≡ rule_cell r
    → children ≡ child_cells (map parts_of g.rules ++ (parts_of r ∷ []))
    → record {
      nonterminals = t.nonterminals;
      start = t.start;
      multiplier = t.multiplier;
      count = t.count + 1;
      rules = set t.rules t.count cell;
      children = children;
    }
    ≡ grammar_table (with_rule g r)
unfolding grammar_table with_rule
rule_stored g t r cell children e room ec ek =
    let at : length g.rules ≡ t.count = sym (ap (λ (x : GrammarTable). x.count) e) in
    λ j. record {
      nonterminals = (e j).nonterminals;
      start = (e j).start;
      multiplier = (e j).multiplier;
      count = (ap (λ (n : ℕ). n + 1) (sym at) ∙ sym (length-append g.rules (r ∷ []))) j;
      rules =
          (ap (set t.rules t.count) ec
          ∙ pad_map_more 64 no_rule rule_cell g.rules r t.rules t.count (ap (λ (x : GrammarTable). x.rules) e) at room) j;
      children = (ek ∙ ap child_cells (sym (map-append parts_of g.rules (r ∷ [])))) j;
    }

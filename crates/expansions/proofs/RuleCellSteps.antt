-- Steps of packing the rules of a table into cells.
use borrow.Author.Count.{below_more}
use mathlib.Core.Path.{◌≡◌, ap, ◌∙◌}
use mathlib.Core.List.{List, map}
use Prim.Native.Nat.{ℕ, ◌+◌, ◌≤◌, ◌<◌}
use native.Mathlib.Omega.{arith}
use lib.ListN.{length, get_or, set, length-set}
use lib.Seq.{get_or-set_same, get_or-set_other}
use Rattle.slices.specs.Pad.{get_or-pad}
use Rattle.sheet.specs.Sheet.{Grammar}
use Rattle.sheet.specs.Held.{rule_cell, no_rule, grammar_table}
use Rattle.sheet.specs.declared.table.GrammarTable.{GrammarTable}
use Rattle.expansions.specs.Tables.{unpacked_of, PackedRules}
use Rattle.expansions.specs.RuleCells.{cell_in_lem}

-- the first i cells hold the rules of the table
pub record Cells (g : GrammarTable) (out : List ℕ) (i : ℕ) : Type 0 where
  pub size : length out ≡ 64
  pub each : (m : ℕ) → m < i → unpacked_of (get_or out m 0) ≡ get_or g.rules m no_rule

pub cells_more : {g : GrammarTable} {out : List ℕ} {i : ℕ} (v : ℕ) → Cells g out i → i < 64 → unpacked_of v ≡ get_or g.rules i no_rule
    → Cells g (set out i v) (i + 1)
cells_more {g} {out} {i} v h l e =
    let k : i < length out = omega (arith, h.size) in
    record {
      size = length-set out i v ∙ h.size;
      each =
          below_more _ _ (λ m n. ap unpacked_of (get_or-set_other out i m v 0 (λ s. omega arith)) ∙ h.each m n)
          (ap unpacked_of (get_or-set_same out i v 0 k) ∙ e);
    }

-- the cells of a grammar's table
pub cells_all : {g : GrammarTable} {out : List ℕ} {i : ℕ} → Cells g out i → 64 ≤ i → (h : Grammar) → g ≡ grammar_table h → PackedRules h out
unfolding grammar_table
cells_all {g} t l h e m n =
    t.each m (omega arith) ∙ ap (λ (x : GrammarTable). get_or x.rules m no_rule) e
    ∙ get_or-pad 64 no_rule (map rule_cell h.rules) m n ∙ cell_in_lem h.rules m

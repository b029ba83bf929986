-- The figures of a tree that is found: R is the sum of the weights of its rules, and D what the total has beside a × R. What the functions
-- are given.
use Rattle.std.specs.Prelude.{ℕ, ◌≤◌, ◌<◌, ◌≡◌, List, length}
use Rattle.slices.specs.Every.{Every}
use Rattle.sheet.specs.declared.table.GrammarTable.{GrammarTable}
use Rattle.sheet.specs.Sheet.{Sheet}
use Rattle.sheet.specs.Held.{grammar_table}
use Rattle.sheet.specs.Good.{Good}
use Rattle.trees.specs.ValidTrees.{Priced, total_of}
use Rattle.trees.specs.Room.{tree_most}
use Rattle.expansions.specs.Tables.{PackedRules}
use Rattle.sheet.specs.Outcome.{accepted}

-- a sheet's packed rules, and a list of rule numbers that is no longer than a tree
pub record WeightPre (s : Sheet) (rules list : List ℕ) : Type 0 where
  pub packed : PackedRules s.grammar rules
  pub below : Every (λ (r : ℕ). r < 64) list
  pub few : length list ≤ tree_most

-- an accepted sheet's grammar, and a valid tree with its R, its D and its total
pub record FiguresPre (s : Sheet) (grammar : GrammarTable) (list : List ℕ) (R D total : ℕ) : Type 0 where
  pub good : Good s
  pub held : grammar ≡ grammar_table s.grammar
  pub tree : Priced s list R D
  pub total_is : total ≡ total_of s R D

-- What the rules of a sheet cost as leaves.
use Rattle.std.specs.Prelude.{ℕ, ◌*◌, cond, eqb, length}
use Rattle.std.proofs.Math.Option.{Option, none, some}
use Rattle.sheet.specs.Sheet.{Rule, division, leaf, Sheet}
use Rattle.derivations.specs.Minima.{lowest}
use Rattle.trees.specs.ValidTrees.{rule_at}
use Rattle.trees.specs.LeastTotal.{NONE}

-- the number of rules
abbrev pub rule_count : Sheet → ℕ
rule_count s = length s.grammar.rules

-- what a rule costs as a leaf of nonterminal q with this n; the cap for any other rule
abbrev pub leaf_cost : (a q n : ℕ) → Option Rule → ℕ
leaf_cost a q n none = NONE
leaf_cost a q n (some (leaf h w m)) = cond (eqb h q) (cond (eqb m n) (a * w) NONE) NONE
leaf_cost a q n (some (division h w ks)) = NONE

-- the least of them, or the cap
unfoldable pub least_leaf : Sheet → (q n : ℕ) → ℕ
unfolding lowest
least_leaf s q n = lowest NONE (λ r. leaf_cost s.grammar.multiplier q n (rule_at s r)) (rule_count s)

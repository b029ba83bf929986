-- What the rule in a cell tells of the sheet's rule.
use Rattle.std.specs.Prelude.{ℕ, zero, suc, ◌≡◌, refl, true, false, List, [], ◌∷◌, map, ◌⊎◌, length, get_or}
use Rattle.std.proofs.Common.{sym, ap, inl, inr}
use Rattle.std.proofs.lemmas.Bool.{false≢true}
use Rattle.std.proofs.Math.Option.{Option, none, some, Option-elim}
use Rattle.std.proofs.Math.ListN.{get_elem?}
use Rattle.sheet.specs.declared.table.Rule.TheVariants.{Division, Leaf}
use Rattle.sheet.specs.Sheet.{Rule, division, leaf}
use Rattle.sheet.specs.Held.{rule_cell, no_rule, weight_in}
use Rattle.trees.specs.ValidTrees.{weight_of}
use Rattle.expansions.specs.Tables.{cell_of}

-- the cells of a grammar's table
pub cell_in_lem : (rs : List Rule) (i : ℕ) → get_or (map rule_cell rs) i no_rule ≡ cell_of (get_elem? rs i)
cell_in_lem [] i = refl
cell_in_lem (r ∷ rs) zero = refl
cell_in_lem (r ∷ rs) (suc i) = cell_in_lem rs i

-- a cell has the weight of its rule, and 0 where there is none
pub cell_weight : (o : Option Rule) → weight_in (cell_of o) ≡ Option-elim o 0 weight_of
unfolding Option-elim
cell_weight none = refl
cell_weight (some (division h w ks)) = refl
cell_weight (some (leaf h w n)) = refl

pub leaf≢division : (h w n i v k : ℕ) → Leaf h w n ≡ Division i v k → ⊥
leaf≢division h w n i v k e = let f : false ≡ true = cc in false≢true f

-- a leaf is the sheet's
pub leaf_rule : (o : Option Rule) (h w n : ℕ) → cell_of o ≡ Leaf h w n → o ≡ some (leaf h w n)
leaf_rule none h w n e = absurd (leaf≢division _ _ _ _ _ _ (sym e))
leaf_rule (some (leaf a b c)) h w n e = ap some cc
leaf_rule (some (division a b c)) h w n e = absurd (leaf≢division _ _ _ _ _ _ (sym e))

-- a division of some parts is the sheet's; one of none stands where the sheet has no rule
abbrev pub DivisionRule : Option Rule → (h w k : ℕ) → Type 0
DivisionRule o h w k = ((o ≡ none) × (k ≡ 0)) ⊎ ((ks : List ℕ) × (o ≡ some (division h w ks)) × (k ≡ length ks))

pub division_rule : (o : Option Rule) (h w k : ℕ) → cell_of o ≡ Division h w k → DivisionRule o h w k
division_rule none h w k e = inl (refl, cc)
division_rule (some (leaf a b c)) h w k e = absurd (leaf≢division _ _ _ _ _ _ e)
division_rule (some (division a b c)) h w k e = inr (c, ap some cc, cc)

-- The cells and the least total that are computed are those of the valid trees: no valid tree totals less, and below the cap one totals as
-- much, the first of the least in dictionary order.
use Rattle.std.specs.Prelude.{ℕ, ◌≤◌, ◌<◌, ◌≡◌, List, [], ◌∷◌}
use Rattle.std.proofs.Math.Path.{refl, ap}
use Rattle.std.proofs.Common.{◌∙◌, inl, inr, arith}
use Rattle.std.proofs.Math.Option.{some}
use Rattle.slices.specs.Every.{every_all}
use Rattle.sheet.specs.Sheet.{Sheet}
use Rattle.sheet.specs.Good.{GoodRules}
use Rattle.derivations.specs.Derivation.{Item, Price, price_eq}
use Rattle.derivations.specs.Minima.{only, only_same, only_below}
use Rattle.derivations.specs.Least.{Least, total}
use Rattle.derivations.specs.First.{Lex, First, first_total}
use Rattle.derivations.specs.Folds.{Exact, backward_least}
use Rattle.derivations.specs.Cells.{cell_exact}
use Rattle.derivations.specs.Rebuild.{first_exists}
use Rattle.trees.specs.ValidTrees.{bars, ValidTree, Priced, total_of}
use Rattle.trees.specs.Instance.{instance_of, Derived}
use Rattle.trees.specs.LeastTrees.{InDictionaryOrder, FirstTree}
use Rattle.trees.specs.LeastTotal.{NONE, carries, cell_of, least_total}
use Rattle.trees.proofs.Laws.{lawful, falls}
use Rattle.trees.proofs.Equivalence.{valid_derived, derived_valid}

-- a valid list has its own R and D
pub own_price : (s : Sheet) (bs : List ℕ) → ValidTree s bs → (R : ℕ) × (D : ℕ) × Priced s bs R D
own_price s bs v = (_, _, record { valid = v; weight = refl; distance = refl })

-- the order of lists that are read against the same items is dictionary order
lex_ordered : (xs ys : List ℕ) → Lex xs ys → InDictionaryOrder xs ys
lex_ordered [] ys h = tt
lex_ordered (x ∷ xs) [] h = absurd h
lex_ordered (x ∷ xs) (y ∷ ys) (inl h) = inl h
lex_ordered (x ∷ xs) (y ∷ ys) (inr (e, h)) = inr (e, lex_ordered xs ys h)

module _ (s : Sheet) where
  module _ (good : GoodRules s.grammar) where
    abbrev a : ℕ
    a = s.grammar.multiplier

    -- the table's entries are least: each cell is the least total of its item from carry in to carry out, or the cap
    pub cells_least : (g : Item) → Exact (instance_of s) a NONE carries (cell_of s) g
    unfolding cell_of
    cells_least = cell_exact (lawful s) a NONE (λ g. g.len) (falls s good)

    bars_least : Least (instance_of s) a NONE (bars s) (only NONE 0) 0 (least_total s)
    unfolding least_total
    bars_least =
        backward_least (lawful s) a NONE (cell_of s) (bars s) (only NONE 0) 0
        (every_all (Exact (instance_of s) a NONE carries (cell_of s)) cells_least (bars s)) (omega arith)

    -- the price of a valid list has carry 0, where the vector behind the bars is 0
    abbrev price_of0 : (R D : ℕ) → Price
    price_of0 R D = record { carry = 0; weight = R; distance = D }

    total_priced : (R D : ℕ) → total a (only NONE 0) (price_of0 R D) ≡ total_of s R D
    total_priced R D = omega (arith, only_same NONE 0)

    -- no valid list totals less than the computed one
    pub least_total_below : (bs : List ℕ) (R D : ℕ) → Priced s bs R D → least_total s ≤ total_of s R D
    unfolding Derived
    least_total_below bs R D p = omega (arith, bars_least.below bs (price_of0 R D) (valid_derived s bs R D p), total_priced R D)

    -- below the cap the first least list of the bars is the first tree, and it totals that
    module _ (h : least_total s < NONE) (bs : List ℕ) (p : Price) (f : First (instance_of s) a (bars s) (only NONE 0) 0 bs p) where
      least_is : total a (only NONE 0) p ≡ least_total s
      least_is = first_total (instance_of s) a NONE (bars s) (only NONE 0) 0 (least_total s) bs p bars_least h f

      none_out : p.carry ≡ 0
      none_out = only_below NONE 0 p.carry (omega (arith, least_is, h))

      zero_cost : only NONE 0 p.carry ≡ 0
      zero_cost = rw none_out (only_same NONE 0)

      pub first_total_is : total_of s p.weight p.distance ≡ least_total s
      first_total_is = omega (arith, least_is, zero_cost)

      valid_first : Priced s bs p.weight p.distance
      unfolding Derived
      valid_first =
          derived_valid s bs p.weight p.distance
          (f.reads ∙ ap some (price_eq p (price_of0 p.weight p.distance) none_out refl refl))

      pub first_is_tree : FirstTree s bs p.weight p.distance
      unfolding Derived
      first_is_tree = record {
        tree = record { valid = valid_first; least = λ xs R D q. omega (arith, first_total_is, least_total_below xs R D q) };
        first = λ xs R D l.
            lex_ordered bs xs
            (f.first xs (price_of0 R D) (valid_derived s xs R D l.valid)
            (omega (arith, zero_cost, total_priced R D, l.least bs p.weight p.distance valid_first)));
      }

    -- below the cap there is a first tree, and it totals that
    pub first_tree : least_total s < NONE → (bs : List ℕ) × (R : ℕ) × (D : ℕ) × FirstTree s bs R D × (total_of s R D ≡ least_total s)
    unfolding least_total cell_of
    first_tree h =
        let (bs, p, f) = first_exists (lawful s) a NONE (λ g. g.len) (falls s good) (bars s) (only NONE 0) 0 (omega arith) h in
        (bs, p.weight, p.distance, first_is_tree h bs p f, first_total_is h bs p f)

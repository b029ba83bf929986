-- Laws of what the plan holds: bounds of lengths, of leaf costs and of ways, the parts of a rule, the length that a division leads to.
-- Assumes nothing.
use Rattle.std.specs.Prelude.{ℕ, zero, suc, ◌+◌, ◌*◌, ◌/◌, ◌%◌, ◌<◌, ◌≤◌, ◌≡◌, Bool, true, false, cond, List, [], ◌∷◌, map, ltb, length, get_or, drop}
use Rattle.std.proofs.Common.{sym, ap, ◌∙◌, mul-le-mul_right, arith, get_or-take, get_or-drop, eq-eqb}
use Rattle.std.proofs.lemmas.Bool.{false≢true}
use Rattle.std.proofs.Math.Bool.{or-true}
use Rattle.std.proofs.Math.Option.{some, none-ne-some}
use Rattle.std.proofs.Math.Nat.{div-add-mod}
use Rattle.std.proofs.Math.ListN.{get_elem?}
use Rattle.slices.specs.Every.{every_at, every_in, every_weaken}
use Rattle.slices.specs.Lookup.{some_below}
use Rattle.sheet.specs.Sheet.{Rule, division, leaf, Sheet}
use Rattle.sheet.specs.Good.{GoodRules}
use Rattle.sheet.specs.Held.{parts_of, child_cells}
use Rattle.sheet.specs.Children.{parts_of_lem}
use Rattle.derivations.specs.Minima.{lowest_cap}
use Rattle.trees.specs.ValidTrees.{rule_at, token}
use Rattle.trees.specs.LeastTotal.{NONE}
use Rattle.trees.proofs.RoomLaws.{good_division}
use Rattle.sizes.specs.Sizes.{has_arity, Length, part, lengths_of}
use Rattle.sizes.specs.SizesLaws.{length-divides, count_length, whole_first, length_count_most, lengths_listed}
use Rattle.sizes.specs.Divisors.{positive_left, positive_right}
use Rattle.sizes.specs.Members.{place_of}
use Rattle.plan.specs.Layout.{kinds}
use Rattle.plan.specs.Leaves.{rule_count, leaf_cost, least_leaf}
use Rattle.plan.specs.Packed.{packed_leaf_most, packed_leaf_is}
use Rattle.plan.specs.Ways.{beside}
use Rattle.plan.specs.Plan.{lengths, length_at, child_cell, leaf_cell, way_cell, Prepared}

module _ (s : Sheet) where
  -- ---- lengths

  pub lengths_most : lengths s ≤ 84
  lengths_most = length_count_most s.grammar.rules

  -- the first is the whole bar
  pub whole-length : length_at s 0 ≡ 20160
  whole-length = whole_first s.grammar.rules

  module _ (good : GoodRules s.grammar) where
    -- each is a length of the grammar
    pub length_is : (l : ℕ) → l < lengths s → Length s.grammar.rules (length_at s l)
    length_is l h =
        every_in (Length s.grammar.rules) (lengths_of s.grammar.rules) l 0 (rw (← count_length s.grammar.rules) h)
        (lengths_listed s.grammar good).each

    pub length_positive : (l : ℕ) → l < lengths s → 0 < length_at s l
    length_positive l h =
        let divides = length-divides s.grammar.rules (length_at s l) (length_is l h) in
        positive_right divides.0 (length_at s l) divides.1

    -- what divides 20,160 is no more than it; past the last length stands 0
    pub length-most : (l : ℕ) → length_at s l ≤ 20160
    length-most l =
        every_at (λ (x : ℕ). x ≤ 20160) (lengths_of s.grammar.rules) l 0
        (every_weaken (Length s.grammar.rules) (λ (x : ℕ). x ≤ 20160) most (lengths_of s.grammar.rules)
        (lengths_listed s.grammar good).each)
        (omega arith)
      where
        most : (x : ℕ) → Length s.grammar.rules x → x ≤ 20160
        most x is =
            let divides = length-divides s.grammar.rules x is in
            let q = divides.0 in
            omega (arith, divides.1, mul-le-mul_right {m = 1} {n = q} x (positive_left q x divides.1))

  -- ---- leaf costs

  pub least_leaf_most : (q n : ℕ) → least_leaf s q n ≤ NONE
  unfolding least_leaf
  least_leaf_most q n = lowest_cap NONE (λ r. leaf_cost s.grammar.multiplier q n (rule_at s r)) (rule_count s)

-- ---- the cells of leaves and of ways

module _ (s : Sheet) (plan : List ℕ) (p : Prepared s plan) where
  module _ (q n : ℕ) (hq : q < 16) (hn : n < kinds) where
    -- the quotient is the least cost
    pub leaf_cell_least : leaf_cell plan q n / 64 ≡ least_leaf s q n
    leaf_cell_least = ap (◌/ 64) (p.leaves q n hq hn) ∙ packed_leaf_is s p.good q n

    pub leaf_cell_most : leaf_cell plan q n ≤ 64 * NONE
    leaf_cell_most = omega (arith, p.leaves q n hq hn, packed_leaf_most s q n)

  -- a way is a packed cell of a rule below 64
  module _ (r j q w : ℕ) (ks : List ℕ) (e : rule_at s r ≡ some (division q w ks)) (within : j < length ks) where
    rule_below : r < 64
    rule_below = omega (arith, some_below s.grammar.rules r (division q w ks) e, p.good.most)

    beside_most : (n : ℕ) → beside s r ks j n ≤ 64 * NONE + 63
    beside_most n = omega (arith, rule_below)

    -- of two such cells either is one
    either_most : (b : Bool) (x y : ℕ) → x ≤ 64 * NONE + 63 → y ≤ 64 * NONE + 63 → cond b x y ≤ 64 * NONE + 63
    either_most true x y h k = h
    either_most false x y h k = k

    pub straight_most : way_cell plan r j 0 ≤ 64 * NONE + 63
    straight_most = rw (p.ways r j q w ks e within).straight (beside_most 0)

    pub crossed_most : way_cell plan r j 1 ≤ 64 * NONE + 63
    crossed_most = rw (p.ways r j q w ks e within).crossed (either_most (ltb (j + 1) (length ks)) _ _ (beside_most 1) (omega arith))

    pub onward_most : way_cell plan r j 2 ≤ 64 * NONE + 63
    onward_most = rw (p.ways r j q w ks e within).onward (either_most (ltb (j + 1) (length ks)) _ _ (omega arith) (beside_most 0))

-- ---- token kinds

pub token_below : (e b : ℕ) → token e b < kinds
token_below zero zero = omega arith
token_below zero (suc b) = omega arith
token_below (suc zero) b = omega arith
token_below (suc (suc zero)) b = omega arith
token_below (suc (suc (suc e))) b = omega arith

-- with an onset before the leaf it is no rest
pub token_sounds : (e : ℕ) → token e 1 < 4
token_sounds zero = omega arith
token_sounds (suc zero) = omega arith
token_sounds (suc (suc zero)) = omega arith
token_sounds (suc (suc (suc e))) = omega arith

-- ---- the part of a length

-- a division's number of parts is an arity of the grammar
has_arity_lem : (rs : List Rule) (r h w : ℕ) (ks : List ℕ) → get_elem? rs r ≡ some (division h w ks) → has_arity (length ks) rs ≡ true
unfolding has_arity
has_arity_lem [] r h w ks e = absurd (none-ne-some _ e)
has_arity_lem (division a b js ∷ rs) zero h w ks e =
    let q : js ≡ ks = cc in
    simp (eq-eqb (length js) (length ks) (ap length q))
has_arity_lem (leaf a b n ∷ rs) zero h w ks e = let f : false ≡ true = cc in absurd (false≢true f)
has_arity_lem (division a b js ∷ rs) (suc r) h w ks e = simp (has_arity_lem rs r h w ks e, or-true)
has_arity_lem (leaf a b n ∷ rs) (suc r) h w ks e = has_arity_lem rs r h w ks e

-- a length that a division divides has a part among the lengths
pub part_listed : (s : Sheet) → GoodRules s.grammar → (r l h w : ℕ) (ks : List ℕ) → l < lengths s → rule_at s r ≡ some (division h w ks)
    → length_at s l % length ks ≡ 0 → (i : ℕ) × (i < lengths s) × (length_at s l ≡ length ks * length_at s i)
part_listed s good r l h w ks below e divided =
    let k = length ks in
    let x = length_at s l in
    let y = x / k in
    let whole : k * y ≡ x = omega (arith, div-add-mod x k) in
    let found =
    place_of y (lengths_of s.grammar.rules)
    ((lengths_listed s.grammar good).all y
    (part x k y (length_is s good l below) (has_arity_lem s.grammar.rules r h w ks e) whole)) in
    (found.0, rw (count_length s.grammar.rules) found.1, sym whole ∙ ap (λ (z : ℕ). k * z) (sym found.2))

-- ---- parts of a rule

pub child_in : (s : Sheet) → GoodRules s.grammar → (r h w : ℕ) (ks : List ℕ) → rule_at s r ≡ some (division h w ks) → (j : ℕ)
    → j < length ks → get_or (child_cells (map parts_of s.grammar.rules)) (8 * r + j) 0 ≡ get_or ks j 0
child_in s good r h w ks e j below =
    let rules = s.grammar.rules in
    let cells = child_cells (map parts_of rules) in
    sym (get_or-drop (8 * r) cells j 0) ∙ sym (get_or-take (length ks) (drop (8 * r) cells) j 0 below)
    ∙ ap (λ (xs : List ℕ). get_or xs j 0) (parts_of_lem rules r h w ks e (good_division s good r h w ks e).eight good.most)

pub child_at : (s : Sheet) (plan : List ℕ) → Prepared s plan → (r h w : ℕ) (ks : List ℕ) → rule_at s r ≡ some (division h w ks) → (j : ℕ)
    → j < length ks → child_cell plan r j ≡ get_or ks j 0
child_at s plan p r h w ks e j below =
    let good = p.good in
    p.child r j (omega (arith, some_below s.grammar.rules r (division h w ks) e, good.most))
    (omega (arith, (good_division s good r h w ks e).eight))
    ∙ child_in s good r h w ks e j below

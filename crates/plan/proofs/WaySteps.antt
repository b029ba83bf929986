-- Steps of the ways: the parts of a division as leaves of nothing, summed up; what the parts beside one cost is that sum without it; and
-- the ways, part after part and rule after rule.
use Prim.Native.Nat.{ℕ, ◌+◌, ◌*◌, ◌≤◌, ◌<◌, min}
use mathlib.Core.Path.{◌≡◌, refl, sym, ap, ◌∙◌}
use mathlib.Core.Bool.{Bool, true, false, cond}
use mathlib.Core.List.{List}
use mathlib.Core.Option.{some}
use native.Mathlib.Decide.{dec_lt}
use native.Mathlib.Omega.{arith}
use borrow.Author.Tests.{eq-eqb, ne_eqb, lt-ltb, le-ltb}
use lib.Dec.{eqb}
use lib.ListN.{length, set, get_or, length-set}
use lib.Seq.{get_or-set_same, get_or-set_other}
use Rattle.slices.specs.Every.{every_in}
use Rattle.groups.specs.Sums.{sum_to, sum-part, sum-two, sum_same, sum_but}
use Rattle.sheet.specs.declared.table.Rule as held
use Rattle.sheet.specs.declared.table.Rule.TheVariants.{Division}
use Rattle.sheet.specs.Sheet.{division, Sheet}
use Rattle.sheet.specs.Held.{weight_in}
use Rattle.trees.specs.ValidTrees.{rule_at, token, weight_at}
use Rattle.trees.specs.LeastTotal.{NONE}
use Rattle.trees.proofs.RoomLaws.{good_division}
use Rattle.expansions.specs.Tables.{unpacked_of, cell_of, RulesHeld}
use Rattle.expansions.specs.RuleCells.{cell_weight}
use Rattle.plan.specs.Layout.{ways_at, plan_cells}
use Rattle.plan.specs.Leaves.{least_leaf}
use Rattle.plan.specs.Ways.{beside_at, beside_sum, beside}
use Rattle.plan.specs.Plan.{way_cell}
use Rattle.plan.specs.PlanLaws.{child_in, token_below}
use Rattle.plan.specs.Sections.{placed_in, rest_in, DivisionHeld, WaysPut, PartWays, DivisionWays, WaysLaid}
use Rattle.plan.proofs.RuleSteps.{cell_read}
use Rattle.plan.proofs.SavedSteps.{packed_cell_least}

-- ---- what the parts cost

module _ {s : Sheet} {children leaves : List ℕ} {r k : ℕ} {ks : List ℕ} (d : DivisionHeld s children leaves r k ks) where
  -- part i as a leaf with n placed, as the code looks it up
  placed_is : (i n : ℕ) → i < k → placed_in leaves (get_or children (8 * r + i) 0) n ≡ least_leaf s (get_or ks i 0) (token n 1)
  placed_is i n less =
      let t = d.tables in
      let below : i < length ks = omega (arith, d.count) in
      let child : get_or children (8 * r + i) 0 ≡ get_or ks i 0 =
      ap (λ (xs : List ℕ). get_or xs (8 * r + i) 0) t.children_are
      ∙ child_in s t.good r d.head d.weight ks d.rule i below in
      let kid : get_or ks i 0 < s.grammar.nonterminals =
      every_in (λ (z : ℕ). z < s.grammar.nonterminals) ks i 0 below
      (good_division s t.good r d.head d.weight ks d.rule).parts in
      let few : get_or ks i 0 < 16 = omega (arith, kid, t.good.sixteen) in
      rw (child, lt-ltb (get_or ks i 0) 16 few)
      (packed_cell_least s t.good leaves t.leaves_are (get_or ks i 0) (token n 1) few (token_below n 1))

  -- the parts beside part j cost what all cost, without it
  beside_rest : (j : ℕ) → j < k → beside_sum s ks j 0 + rest_in children leaves r j ≡ sum_to (rest_in children leaves r) k
  unfolding beside_sum
  beside_rest j less =
      let rest : ℕ → ℕ = λ i. least_leaf s (get_or ks i 0) (token 0 1) in
      let own : beside_at s ks j 0 j ≡ 0 = rw (eq-eqb j j refl) refl in
      let all : sum_to (rest_in children leaves r) k ≡ sum_to rest (length ks) =
      sum_same (rest_in children leaves r) rest k (λ i h. placed_is i 0 h) ∙ ap (sum_to rest) d.count in
      let but : sum_to (beside_at s ks j 0) (length ks) + rest j ≡ sum_to rest (length ks) + beside_at s ks j 0 j =
      sum_but (beside_at s ks j 0) rest (length ks) j (omega (arith, d.count))
      (λ i f. rw (ne_eqb i j f) (ap (λ (n : ℕ). least_leaf s (get_or ks i 0) (token n 1)) (same (eqb i (j + 1)) 0))) in
      omega (arith, but, own, all, placed_is j 0 less)
    where
      same : (b : Bool) (n : ℕ) → cond b n n ≡ n
      same true n = refl
      same false n = refl

  -- where the onset is carried into the part behind, that part has one placed
  beside_crossed : (j : ℕ) → j + 1 < k
      → beside_sum s ks j 1 + rest_in children leaves r (j + 1)
      ≡ beside_sum s ks j 0 + placed_in leaves (get_or children (8 * r + (j + 1)) 0) 1
  unfolding beside_sum
  beside_crossed j less =
      let but : sum_to (beside_at s ks j 1) (length ks) + beside_at s ks j 0 (j + 1)
      ≡ sum_to (beside_at s ks j 0) (length ks) + beside_at s ks j 1 (j + 1) =
      sum_but (beside_at s ks j 1) (beside_at s ks j 0) (length ks) (j + 1) (omega (arith, d.count))
      (λ i f. rw (ne_eqb i (j + 1) f) refl) in
      omega (arith, but, behind 0, behind 1, placed_is (j + 1) 0 less, placed_is (j + 1) 1 less)
    where
      behind : (n : ℕ) → beside_at s ks j n (j + 1) ≡ least_leaf s (get_or ks (j + 1) 0) (token n 1)
      behind n = rw (ne_eqb (j + 1) j (λ e. omega arith), eq-eqb (j + 1) (j + 1) refl) refl

-- ---- the ways of a part

-- where the ways of part j of rule r stand
abbrev pub part_ways : (r j : ℕ) → ℕ
part_ways r j = ways_at + 3 * (8 * r + j)

pub ways_put : (plan : List ℕ) (r j x y z : ℕ) → length plan ≡ plan_cells → r < 64 → j < 8
    → WaysPut plan (set (set (set plan (part_ways r j) x) (part_ways r j + 1) y) (part_ways r j + 2) z) r j x y z
ways_put plan r j x y z size below eight = record {
  size = length-set two (at + 2) z ∙ length-set one (at + 1) y ∙ length-set plan at x;
  first =
      get_or-set_other two (at + 2) (at + 0) z 0 (λ e. omega arith) ∙ get_or-set_other one (at + 1) (at + 0) y 0 (λ e. omega arith)
      ∙ ap (λ (i : ℕ). get_or one i 0) here ∙ get_or-set_same plan at x 0 (omega (arith, size));
  second =
      get_or-set_other two (at + 2) (at + 1) z 0 (λ e. omega arith)
      ∙ get_or-set_same one (at + 1) y 0 (omega (arith, size, length-set plan at x));
  third = get_or-set_same two (at + 2) z 0 (omega (arith, size, length-set plan at x, length-set one (at + 1) y));
  kept = λ i h.
      get_or-set_other two (at + 2) i z 0 (λ e. omega arith) ∙ get_or-set_other one (at + 1) i y 0 (λ e. omega arith)
      ∙ get_or-set_other plan at i x 0 (λ e. omega arith);
}
  where
    at : ℕ
    at = part_ways r j

    one : List ℕ
    one = set plan at x

    two : List ℕ
    two = set one (at + 1) y

    here : at + 0 ≡ at
    here = omega arith

module _ (x r j straight : ℕ) (straight-is : straight ≡ 64 * min NONE x + r) where
  packed : (s : Sheet) (ks : List ℕ) → x ≡ s.grammar.multiplier * weight_at s r + beside_sum s ks j 0
      → straight ≡ beside s r ks j 0
  packed s ks is = straight-is ∙ ap (λ (z : ℕ). 64 * min NONE z + r) is

module _ {x r k j straight : ℕ} (straight-is : straight ≡ 64 * min NONE x + r) {children leaves before after : List ℕ}
    {crossed onward : ℕ}
    (put : WaysPut before after r j straight crossed onward) where
  -- a part with another behind it: the onset may be carried there, and y is what the others cost then
  pub inner_ways : (y : ℕ) → j + 1 < k → crossed ≡ 64 * min NONE y + r → onward ≡ 64 * NONE
      → y + rest_in children leaves r (j + 1) ≡ x + placed_in leaves (get_or children (8 * r + (j + 1)) 0) 1
      → PartWays children leaves x r k j before after
  inner_ways y less crossed-is onward-is sums = record {
    size = put.size;
    each = λ s ks d is i three. record {
      straight = λ z. ap (way_cell after r j) z ∙ put.first ∙ packed x r j straight straight-is s ks is;
      crossed = λ z.
          rw (lt-ltb (j + 1) (length ks) (omega (arith, d.count)))
          (ap (way_cell after r j) z ∙ put.second ∙ crossed-is ∙ omega (arith, is, sums, beside_crossed d j less));
      onward = λ z. rw (lt-ltb (j + 1) (length ks) (omega (arith, d.count))) (ap (way_cell after r j) z ∙ put.third ∙ onward-is);
    };
    kept = put.kept;
  }

  -- the last part: its onset may be carried out of the whole
  pub last_ways : k ≤ j + 1 → crossed ≡ 64 * NONE → onward ≡ straight → PartWays children leaves x r k j before after
  last_ways last crossed-is onward-is = record {
    size = put.size;
    each = λ s ks d is i three. record {
      straight = λ z. ap (way_cell after r j) z ∙ put.first ∙ packed x r j straight straight-is s ks is;
      crossed = λ z. rw (le-ltb (j + 1) (length ks) (omega (arith, d.count))) (ap (way_cell after r j) z ∙ put.second ∙ crossed-is);
      onward = λ z.
          rw (le-ltb (j + 1) (length ks) (omega (arith, d.count)))
          (ap (way_cell after r j) z ∙ put.third ∙ onward-is ∙ packed x r j straight straight-is s ks is);
    };
    kept = put.kept;
  }

-- ---- part after part

pub division_none : {children leaves : List ℕ} {cost r k : ℕ} {plan : List ℕ} → DivisionWays children leaves cost r k plan plan 0
division_none = record { size = refl; each = λ s ks d e j i h. absurd (omega arith); kept = λ i h. refl }

-- a part is one of all parts
pub rest_least : (children leaves : List ℕ) (cost r k j own all : ℕ) → j < k → own ≡ rest_in children leaves r j
    → all ≡ cost + sum_to (rest_in children leaves r) k → own ≤ all
rest_least children leaves cost r k j own all h e f = omega (arith, sum-part (rest_in children leaves r) k j h)

module _ {children leaves : List ℕ} {cost r k : ℕ} {before middle after : List ℕ} {j x own : ℕ}
    (so_far : DivisionWays children leaves cost r k before middle j) (less : j < k)
    (is : x + own ≡ cost + sum_to (rest_in children leaves r) k) (own_is : own ≡ rest_in children leaves r j)
    (here : PartWays children leaves x r k j middle after) where
  pub division_more : DivisionWays children leaves cost r k before after (j + 1)
  division_more = record {
    size = here.size ∙ so_far.size;
    each = λ s ks d e m i h three. elim (dec_lt m j) [
      | yes l ↦
          rw (here.kept (ways_at + 3 * (8 * r + m) + i) (omega arith))
          (so_far.each s ks d e m i l three)
      | no n ↦
          let same : m ≡ j = omega arith in
          rw same (here.each s ks d (omega (arith, is, own_is, e, beside_rest d j less)) i three)
    ];
    kept = λ i h. here.kept i (omega arith) ∙ so_far.kept i h;
  }

-- the part behind is beside this one
pub rest_behind : (children leaves : List ℕ) (cost r k j x own : ℕ) → x + own ≡ cost + sum_to (rest_in children leaves r) k
    → own ≡ rest_in children leaves r j → j + 1 < k → rest_in children leaves r (j + 1) ≤ x
rest_behind children leaves cost r k j x own is own_is less =
    let two : rest_in children leaves r j + rest_in children leaves r (j + 1) ≤ sum_to (rest_in children leaves r) k =
    sum-two (rest_in children leaves r) k j less in
    omega (arith, is, own_is, two)

-- ---- rule after rule

pub ways_none : {rules children leaves : List ℕ} {a : ℕ} {plan : List ℕ} → WaysLaid rules children leaves a plan plan 0
ways_none = record { size = refl; each = λ r j i h. absurd (omega arith); kept = λ i h. refl }

module _ {rules children leaves : List ℕ} {a : ℕ} {before middle : List ℕ} {r : ℕ}
    (so_far : WaysLaid rules children leaves a before middle r) (below : r < 64) {rule : held.Rule}
    (is : rule ≡ unpacked_of (get_or rules r 0)) where
  -- a rule that is no division of the sheet's
  idle : ((s : Sheet) → RulesHeld s rules → (q w : ℕ) (ks : List ℕ) → rule_at s r ≡ some (division q w ks) → ⊥)
      → WaysLaid rules children leaves a before middle (r + 1)
  idle none = record {
    size = so_far.size;
    each = λ m j i h three. elim (dec_lt m r) [
      | yes l ↦ so_far.each m j i l three
      | no n ↦
          let same : m ≡ r = omega arith in
          λ s t p e q w ks o. absurd (none s t q w ks (ap (rule_at s) (sym same) ∙ o))
    ];
    kept = so_far.kept;
  }

  cell : (s : Sheet) → RulesHeld s rules → (x : held.Rule) → rule ≡ x → cell_of (rule_at s r) ≡ x
  cell s t x e = cell_read s rules r t.rules below rule x is e

  -- the rule is no division, or has more parts than a good grammar's divisions
  pub ways_idle : ((h w k : ℕ) → rule ≡ Division h w k → k ≤ 8 → ⊥) → WaysLaid rules children leaves a before middle (r + 1)
  ways_idle other =
      idle (λ s t q w ks o. other q w (length ks) (sym (cell s t _ refl) ∙ ap cell_of o) (good_division s t.good r q w ks o).eight)

  module _ {h w k : ℕ} (e : rule ≡ Division h w k) where
    shape : (s : Sheet) → RulesHeld s rules → (q v : ℕ) (ks : List ℕ) → rule_at s r ≡ some (division q v ks) → k ≡ length ks
    shape s t q v ks o = let same : Division h w k ≡ Division q v (length ks) = sym (cell s t _ e) ∙ ap cell_of o in cc same

    pub ways_more : {after : List ℕ} → DivisionWays children leaves (a * w) r k middle after k
        → WaysLaid rules children leaves a before after (r + 1)
    unfolding weight_at
    ways_more {after} here = record {
      size = here.size ∙ so_far.size;
      each = λ m j i below three. elim (dec_lt m r) [
        | yes l ↦
            λ s t p am q v ks o within.
            let eight = (good_division s t.good m q v ks o).eight in
            rw (here.kept (ways_at + 3 * (8 * m + j) + i) (omega arith)) (so_far.each m j i l three s t p am q v ks o within)
        | no n ↦
            let same : m ≡ r = omega arith in
            rw same
            (λ s t p am q v ks o within.
            here.each s ks (record { tables = p; head = q; weight = v; rule = o; count = shape s t q v ks o })
            (rw am (ap (λ (z : ℕ). s.grammar.multiplier * z) (ap weight_in (sym (cell s t _ e)) ∙ cell_weight (rule_at s r)))) j i
            (omega (arith, shape s t q v ks o)) three)
      ];
      kept = λ i h. here.kept i (omega arith) ∙ so_far.kept i h;
    }

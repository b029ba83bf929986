-- The cells of an interval with one onset, lowered by one rule after another in any order: what a rule comes to is never below the row's
-- cell, and where all rules are met the cells are the row's. Assumes nothing.
use Rattle.std.specs.Prelude.{◌≡◌, ℕ, zero, suc, ◌+◌, ◌-◌, ◌*◌, ◌%◌, ◌<◌, ◌≤◌, min, List, length, ◌≢◌, slice_index, slice_index_or, refl}
use Rattle.std.proofs.Common.{sym, ap, subst, ◌∙◌, add-zero, arith}
use Rattle.std.proofs.Math.Option.{Option, none, some, none-ne-some}
use Rattle.std.proofs.Math.Decide.{dec_lt, ℕ_discrete}
use Rattle.sheet.specs.declared.clock.Units.{Units}
use Rattle.sheet.specs.Sheet.{Rule, division, leaf, Sheet}
use Rattle.sheet.specs.Good.{GoodRules}
use Rattle.derivations.specs.Derivation.{Item}
use Rattle.derivations.specs.Minima.{lowest}
use Rattle.trees.specs.ValidTrees.{rule_at}
use Rattle.trees.specs.LeastTotal.{NONE}
use Rattle.plan.specs.Plan.{Prepared, rule_count, arity_of, NoDivision}
use Rattle.rows.specs.declared.one.Pair.{Pair}
use Rattle.rows.specs.CellLaws.{division_total}
use Rattle.rows.specs.PackedLaws.{packed_cell}
use Rattle.rows.specs.PackedTurnLaws.{packed_to, packed_all, packed_idle}
use Rattle.rows.specs.Slots.{item_at}
use Rattle.filling.specs.Order.{first_of, used_in, ByArity}
use Rattle.filling.specs.Pairs.{pair_at, put_pair, lesser_pair, put_size, put_other, put_zeroth, put_first}
use Rattle.filling.specs.OrderLaws.{is_division, division_below}
use Rattle.rows.specs.One.{Comes}
use Rattle.filling.specs.Filling.{Met, Best, Solved, ArityTo}

-- ---- fewer rules come to no less

lowest_falls : (cap : ℕ) (f : ℕ → ℕ) (n k : ℕ) → lowest cap f (n + k) ≤ lowest cap f n
unfolding lowest
lowest_falls cap f n zero = let e : n + 0 ≡ n = omega arith in rw e (omega arith)
lowest_falls cap f n (suc k) = let e : n + suc k ≡ suc (n + k) = omega arith in rw e (omega (arith, lowest_falls cap f n k))

module _ (s : Sheet) (good : GoodRules s.grammar) (g : Item) where
  pub packed_least : (n m : ℕ) → n ≤ rule_count s → m < 4 → packed_cell s g 0 m ≤ packed_to s g 0 n m
  packed_least n m h k =
      let rest : ℕ = rule_count s - n in
      let all : n + rest ≡ rule_count s = omega arith in
      omega (
        arith,
        packed_all s g 0 good (omega arith) (n + rest) m all k,
        lowest_falls (64 * NONE) (λ r. 64 * division_total s g 0 m r + r) n rest,
      )

-- ---- one rule more

-- cells that are lowered meet what they met
met_lower : {s : Sheet} {best less : List ℕ} {l : ℕ} {left : Units} {r : ℕ} → ((i : ℕ) → slice_index less i ≤ slice_index best i)
    → Met s best l left r → Met s less l left r
met_lower low met = record { low = λ q w ks rule m h. omega (arith, low (2 * q + m), met.low q w ks rule m h) }

module _ {s : Sheet} {order best : List ℕ} {l : ℕ} {left : Units} {k : ℕ} (b : Best s order best l left k) (good : GoodRules s.grammar)
    (few : used_in order ≤ 16) {q r : ℕ} {y : Pair} (used : q < used_in order) (below : r < rule_count s) (c : Comes s q l left r y) where
  -- the cells of q lowered to those of y
  abbrev lowered : Pair
  lowered = lesser_pair (pair_at best (2 * q)) y

  abbrev less : List ℕ
  less = put_pair best (2 * q) lowered

  room : 2 * q + 1 < length best
  room = omega (arith, b.size)

  kept : (i : ℕ) → (i ≢ 2 * q) → (i ≢ 2 * q + 1) → slice_index less i ≡ slice_index best i
  kept = put_other best (2 * q) lowered

  zeroth : slice_index_or less (2 * q) 0 ≡ min (slice_index best (2 * q)) y.zero
  zeroth = put_zeroth best (2 * q) lowered room

  first : slice_index_or less (2 * q + 1) 0 ≡ min (slice_index best (2 * q + 1)) y.one
  first = put_first best (2 * q) lowered room

  low : (i : ℕ) → slice_index less i ≤ slice_index best i
  low i = elim (ℕ_discrete i (2 * q)) [
    | yes e ↦ rw e (omega (arith, zeroth))
    | no m ↦ elim (ℕ_discrete i (2 * q + 1)) [
      | yes e ↦ rw e (omega (arith, first))
      | no n ↦ omega (arith, kept i m n)
    ]
  ]

  abbrev g : Item
  g = item_at s q l left

  own_least : (m : ℕ) → m < 2 → packed_cell s g 0 m ≤ slice_index less (2 * q + m)
  own_least zero h =
      let here : slice_index_or less (2 * q + 0) 0 ≡ min (slice_index best (2 * q)) y.zero =
      ap (λ (i : ℕ). slice_index less i) (add-zero (2 * q)) ∙ zeroth in
      let was : slice_index_or best (2 * q + 0) 0 ≡ slice_index_or best (2 * q) 0 = ap (λ (i : ℕ). slice_index best i) (add-zero (2 * q)) in
      omega (arith, here, was, b.least q 0 used h, c.zeroth, packed_least s good g (r + 1) 0 (omega arith) (omega arith))
  own_least (suc zero) h =
      omega (arith, first, b.least q 1 used h, c.first, packed_least s good g (r + 1) 1 (omega arith) (omega arith))
  own_least (suc (suc m)) h = let no_more : ⊥ = omega arith in absurd no_more

  own_met : (m : ℕ) → m < 2 → min (packed_to s g 0 r m) (slice_index less (2 * q + m)) ≤ packed_to s g 0 (r + 1) m
  own_met zero h =
      let here : slice_index_or less (2 * q + 0) 0 ≡ min (slice_index best (2 * q)) y.zero =
      ap (λ (i : ℕ). slice_index less i) (add-zero (2 * q)) ∙ zeroth in
      omega (arith, here, c.zeroth)
  own_met (suc zero) h = omega (arith, first, c.first)
  own_met (suc (suc m)) h = let no_more : ⊥ = omega arith in absurd no_more

  least : (p m : ℕ) → p < used_in order → m < 2 → packed_cell s (item_at s p l left) 0 m ≤ slice_index less (2 * p + m)
  least p m hp hm = elim (ℕ_discrete p q) [
    | yes e ↦ rw e (own_least m hm)
    | no n ↦ omega (arith, kept (2 * p + m) (λ e. n (omega arith)) (λ e. n (omega arith)), b.least p m hp hm)
  ]

  -- the cells of the rule's head, lowered by what the rule comes to
  pub best_more : Best s order less l left k
  best_more = record {
    size = put_size best (2 * q) lowered ∙ b.size;
    least = least;
    leaf = λ p m hp hm. omega (arith, low (2 * p + m), b.leaf p m hp hm);
    met = λ i h. met_lower low (b.met i h);
  }

  pub rule_met : (a : ℕ) (ks : List ℕ) → rule_at s r ≡ some (division q a ks) → Met s less l left r
  rule_met a ks is = record { low = each }
    where
      each : (p w' : ℕ) (ks' : List ℕ) → rule_at s r ≡ some (division p w' ks') → (m : ℕ) → m < 2
          → min (packed_to s (item_at s p l left) 0 r m) (slice_index less (2 * p + m)) ≤ packed_to s (item_at s p l left) 0 (r + 1) m
      each p w' ks' rule m h = let same : p ≡ q = cc (sym rule ∙ is) in rw same (own_met m h)

  pub best_lower : {i : ℕ} → Met s best l left i → Met s less l left i
  best_lower met = met_lower low met

-- ---- all rules

-- the rules of the places before the last are met: those of k parts are
pub arity_end : {s : Sheet} {plan order best : List ℕ} {l : ℕ} {left : Units} {k n : ℕ} → Prepared s plan → ByArity s order → 2 ≤ k → k ≤ 8
    → first_of order (k + 1) ≤ n → ArityTo s order best l left k n → Best s order best l left (k + 1)
arity_end {s} {order = order} {best} {l} {left} {k} {n} p ordered two eight past a = record {
  size = a.done.size;
  least = a.done.least;
  leaf = a.done.leaf;
  met = met;
}
  where
    found : (r : ℕ) → (i : ℕ) × (first_of order k ≤ i) × (i < first_of order (k + 1)) × (slice_index order i % 64 ≡ r) → Met s best l left r
    found r (i, lo, hi, e) = subst (Met s best l left) e (a.met i lo (omega arith))

    met : (r : ℕ) → arity_of (rule_at s r) < k + 1 → Met s best l left r
    met r h = elim (dec_lt (arity_of (rule_at s r)) k) [
      | yes less ↦ a.done.met r less
      | no more ↦
          let is : arity_of (rule_at s r) ≡ k = omega arith in
          let d = is_division s r k is (λ z. omega arith) in
          found r ((ordered.section k two eight).all r (division_below p d) is)
    ]

-- where no rule of k parts divides the interval they are met
pub arity_idle : {s : Sheet} {order best : List ℕ} {l : ℕ} {left : Units} {k : ℕ} → Best s order best l left k
    → ((r q w : ℕ) (ks : List ℕ) → rule_at s r ≡ some (division q w ks) → length ks ≡ k → NoDivision s q l r)
    → Best s order best l left (k + 1)
arity_idle {s} {order} {best} {l} {left} {k} b idle = record { size = b.size; least = b.least; leaf = b.leaf; met = met }
  where
    never : (r : ℕ) → arity_of (rule_at s r) ≡ k → Met s best l left r
    never r is = record {
      low = λ q w ks rule m h. omega (arith, packed_idle s q l left 0 r m (idle r q w ks rule (sym (ap arity_of rule) ∙ is)));
    }

    met : (r : ℕ) → arity_of (rule_at s r) < k + 1 → Met s best l left r
    met r h = elim (dec_lt (arity_of (rule_at s r)) k) [
      | yes less ↦ b.met r less
      | no more ↦ never r (omega arith)
    ]

module _ {s : Sheet} {order best : List ℕ} {l : ℕ} {left : Units} {k : ℕ} (b : Best s order best l left k) (good : GoodRules s.grammar)
    (all : (r : ℕ) → arity_of (rule_at s r) < k) where
  -- no more than what the first n rules come to
  most : (q m : ℕ) → q < used_in order → m < 2 → (n : ℕ) → slice_index best (2 * q + m) ≤ packed_to s (item_at s q l left) 0 n m
  most q m hq hm zero = b.leaf q m hq hm
  most q m hq hm (suc n) =
      let next : n + 1 ≡ suc n = omega arith in
      rw (sym next) (omega (arith, most q m hq hm n, turn (rule_at s n) refl))
    where
      g : Item
      g = item_at s q l left

      idle : NoDivision s q l n → min (packed_to s g 0 n m) (slice_index best (2 * q + m)) ≤ packed_to s g 0 (n + 1) m
      idle never = omega (arith, packed_idle s q l left 0 n m never)

      turn : (o : Option Rule) → rule_at s n ≡ o → min (packed_to s g 0 n m) (slice_index best (2 * q + m)) ≤ packed_to s g 0 (n + 1) m
      turn none is = idle (λ w ks rule _. let z : none ≡ some (division q w ks) = sym is ∙ rule in absurd (none-ne-some _ z))
      turn (some (leaf a w i)) is = idle (λ v ks rule _. let z : ◌≡◌ {A = ℕ} 0 1 = cc (sym is ∙ rule) in omega arith)
      turn (some (division a w ks)) is = elim (ℕ_discrete a q) [
        | yes e ↦ (b.met n (all n)).low q w ks (is ∙ ap (λ (x : ℕ). some (division x w ks)) e) m hm
        | no d ↦ idle (λ v js rule _. let e : a ≡ q = cc (sym is ∙ rule) in d e)
      ]

  pub best_all : Solved s order best l left
  best_all = record {
    size = b.size;
    cell = λ q m hq hm.
        omega (
          arith,
          b.least q m hq hm,
          most q m hq hm (rule_count s),
          packed_all s (item_at s q l left) 0 good (omega arith) (rule_count s) m refl (omega arith),
        );
  }

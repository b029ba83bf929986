-- The one part of a division that has an onset: its cells, and what the plan has of the other parts and the rule, come to those of the
-- whole.
use Rattle.std.specs.Prelude.{ℕ, ◌+◌, ◌*◌, ◌/◌, ◌≤◌, ◌<◌, min, ◌≡◌, List, length}
use Rattle.std.proofs.Common.{sym, ap, ap₂, ◌∙◌, arith}
use Rattle.slices.specs.Lookup.{some_below}
use Rattle.sheet.specs.declared.clock.Units.{Units}
use Rattle.sheet.specs.Sheet.{Sheet}
use Rattle.derivations.specs.Derivation.{Item}
use Rattle.trees.specs.LeastTotal.{NONE, cell_of}
use Rattle.trees.proofs.RoomLaws.{good_division}
use Rattle.plan.specs.Plan.{Prepared, length_at, way_cell, WaysOf, Divides}
use Rattle.plan.specs.PlanLaws.{straight_most, crossed_most, onward_most}
use Rattle.rows.specs.declared.one.Pair.{Pair}
use Rattle.rows.specs.Slots.{Inhabited}
use Rattle.rows.specs.OnePartLaws.{OneAt}
use Rattle.rows.specs.OneTurnLaws.{part_at, one_more_zero, one_more_one}
use Rattle.rows.specs.One.{by_way, WayEntry, Comes}

-- ---- `by_way`

module _ {s : Sheet} {plan : List ℕ} {r j : ℕ} {y : Pair} (e : WayEntry s plan r j y) where
  pub way_asked : (r < 64) × (j < 8)
  way_asked =
      let good = good_division s e.prepared.good r e.head e.weight e.parts e.rule in
      (omega (arith, some_below s.grammar.rules r _ e.rule, e.prepared.good.most), omega (arith, e.within, good.eight))

  -- what is added up fits
  pub ways_low : (way_cell plan r j 0 ≤ 64 * NONE + 63) × (way_cell plan r j 1 ≤ 64 * NONE + 63) × (way_cell plan r j 2 ≤ 64 * NONE + 63)
  ways_low = (
    straight_most s plan e.prepared r j e.head e.weight e.parts e.rule e.within,
    crossed_most s plan e.prepared r j e.head e.weight e.parts e.rule e.within,
    onward_most s plan e.prepared r j e.head e.weight e.parts e.rule e.within,
  )

  pub way_told : {a w0 w1 w2 : ℕ} → w0 ≡ way_cell plan r j 0 → w1 ≡ way_cell plan r j 1 → w2 ≡ way_cell plan r j 2
      → a ≡ min (y.zero / 64 * 64 + w0) (y.one / 64 * 64 + w1) → record { zero = a; one = y.one / 64 * 64 + w2 } ≡ by_way plan r j y
  way_told e0 e1 e2 ea = λ i. record {
    zero = (ea ∙ ap₂ (λ (v w : ℕ). min (y.zero / 64 * 64 + v) (y.one / 64 * 64 + w)) e0 e1) i;
    one = y.one / 64 * 64 + e2 i;
  }

-- ---- what the rule comes to

-- sums and their minimum, by what they are of
sum_of : {x y v w : ℕ} → x ≡ y → v ≡ w → 64 * y + w ≡ x * 64 + v
sum_of p q = omega arith

lesser_of : {x y v w x' y' v' w' : ℕ} → x ≡ y → v ≡ w → x' ≡ y' → v' ≡ w'
    → min (64 * y + w) (64 * y' + w') ≡ min (x * 64 + v) (x' * 64 + v')
lesser_of p q p' q' = omega arith

module _ {s : Sheet} {plan : List ℕ} (planned : Prepared s plan) (q l : ℕ) (left : Units) {r k h j : ℕ} (d : Divides s q l r k h)
    (on : Inhabited s l left) (at : OneAt s left.0 (length_at s h) (length d.parts) j) where
  abbrev part : Item
  part = part_at left.0 (length_at s h) d.parts j

  ways : WaysOf s plan r d.parts j
  ways = planned.ways r j q d.weight d.parts d.rule at.within

  pub way_comes : {x : Pair} (y : Pair) → y.zero / 64 ≡ cell_of s part 0 0 → y.one / 64 ≡ cell_of s part 0 1 → x ≡ by_way plan r j y
      → Comes s q l left r x
  way_comes {x} y zero_is one_is e = record {
    zeroth =
        one_more_zero s planned.good q l left d on at
        ∙ ap (min _) (lesser_of zero_is ways.straight one_is ways.crossed ∙ sym (ap (λ (z : Pair). z.zero) e));
    first =
        one_more_one s planned.good q l left d on at ∙ ap (min _) (sum_of one_is ways.onward ∙ sym (ap (λ (z : Pair). z.one) e));
  }

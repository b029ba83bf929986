-- Steps of laying the parts of lengths: the first place of a length that is small enough, and what it tells of the part.
use Prim.Native.Nat.{ℕ, ◌+◌, ◌*◌, ◌/◌, ◌≤◌, ◌<◌}
use mathlib.Core.Path.{◌≡◌, refl, ap, ◌∙◌}
use mathlib.Core.List.{List}
use native.Mathlib.Decide.{dec_lt, ℕ_discrete}
use native.Mathlib.Nat.{mul-le-mul, mul-le-mul_right, mul-lt-mul_of_pos_left, mul_comm, le-div_iff_mul-le, div-lt_iff_lt-mul}
use native.Mathlib.Omega.{arith}
use lib.ListN.{length, set, get_or, length-set}
use lib.Seq.{get_or-set_same, get_or-set_other}
use Rattle.sizes.specs.Held.{FirstAtMost}
use Rattle.plan.specs.Layout.{part_lengths_at, plan_cells}
use Rattle.plan.specs.Sections.{Falling, PartAmong, Beyond, PartsOfLaid, PartsLaid}

-- k parts fit 64 bits
pub part_most : (k x : ℕ) → k < 9 → x < 4294967296 → k * x ≤ 34359738360
part_most k x l m = mul-le-mul {n₁ = k} {m₁ = x} {n₂ = 8} {m₂ = 4294967295} (omega arith) (omega arith)

-- k times each cell before h are above the cell at l
pub record Above (lens : List ℕ) (count l k h : ℕ) : Type 0 where
  pub within : h ≤ count
  pub each : (i : ℕ) → i < h → get_or lens l 0 < k * get_or lens i 0

-- the cells before l are above the cell at l
pub above_begin : {lens : List ℕ} {count l : ℕ} → Falling lens count → l < count → Above lens count l 2 l
above_begin {lens} {count} {l} falls h = record {
  within = omega arith;
  each = λ i less. omega (arith, falls i l less h);
}

module _ {lens : List ℕ} {count l k h : ℕ} (a : Above lens count l k h) (two : 2 ≤ k) where
  -- the search goes on from h
  pub above_found : {x : ℕ} → FirstAtMost lens count h (get_or lens l 0 / k) x → Beyond lens count l k x
  above_found {x} f = record {
    within = f.within;
    above = λ i less. elim (dec_lt i h) [
      | yes m ↦ a.each i m
      | no n ↦
          let far : get_or lens l 0 < get_or lens i 0 * k = (div-lt_iff_lt-mul {k = k} (omega arith)).0 (f.above i (omega arith) less) in
          omega (arith, far, mul_comm (get_or lens i 0) k)
    ];
    at_most = λ less.
        let near : get_or lens x 0 * k ≤ get_or lens l 0 = (le-div_iff_mul-le {k = k} (omega arith)).0 (f.at_most less) in
        omega (arith, near, mul_comm (get_or lens x 0) k);
  }

-- more parts are smaller
pub above_next : {lens : List ℕ} {count l k h : ℕ} → Beyond lens count l k h → Above lens count l (k + 1) h
above_next {lens} {k = k} b = record {
  within = b.within;
  each = λ i less. omega (arith, b.above i less, mul-le-mul_right {m = k} {n = k + 1} (get_or lens i 0) (omega arith));
}

module _ {lens : List ℕ} {count l k h : ℕ} (falls : Falling lens count) (two : 2 ≤ k) (b : Beyond lens count l k h) where
  pub part_none : (h < count → get_or lens l 0 ≡ k * get_or lens h 0 → ⊥) → PartAmong lens count l k count
  part_none not-here = record { is = λ f. absurd (omega arith); none = λ _ i less e. nowhere i less e }
    where
      nowhere : (i : ℕ) → i < count → get_or lens l 0 ≡ k * get_or lens i 0 → ⊥
      nowhere i less e = elim (dec_lt i h) [
        | yes m ↦ omega (arith, b.above i m)
        | no m ↦ elim (ℕ_discrete i h) [
          | yes z ↦ not-here (omega arith) (e ∙ ap (λ (j : ℕ). k * get_or lens j 0) z)
          | no f ↦
              let smaller : k * get_or lens i 0 < k * get_or lens h 0 =
              mul-lt-mul_of_pos_left {k = k} (falls h i (omega arith) less) (omega arith) in
              omega (arith, smaller, b.at_most (omega arith))
        ]
      ]

-- ---- cell after cell

pub parts_of_none : {lens : List ℕ} {count l : ℕ} {plan : List ℕ} → PartsOfLaid lens count l plan plan 2
parts_of_none = record { size = refl; each = λ k a b. absurd (omega arith); kept = λ i h. refl }

pub parts_of_more : {lens : List ℕ} {count l : ℕ} {before after : List ℕ} {k x : ℕ} → PartsOfLaid lens count l before after k
    → l < 84 → k < 9
    → length before ≡ plan_cells → PartAmong lens count l k x
    → PartsOfLaid lens count l before (set after (part_lengths_at + 9 * l + k) x) (k + 1)
parts_of_more {lens} {count} {l} {before} {after} {k} {x} so_far within nine size part = record {
  size = length-set after at x ∙ so_far.size;
  each = λ j two less. elim (dec_lt j k) [
    | yes m ↦ rw (get_or-set_other after at (part_lengths_at + 9 * l + j) x 0 (λ e. omega arith)) (so_far.each j two m)
    | no m ↦
        let same : j ≡ k = omega arith in
        rw (same, get_or-set_same after at x 0 (omega (arith, so_far.size))) part
  ];
  kept = λ i h. get_or-set_other after at i x 0 (λ e. omega arith) ∙ so_far.kept i h;
}
  where
    at : ℕ
    at = part_lengths_at + 9 * l + k

pub parts_none : {lens : List ℕ} {count : ℕ} {plan : List ℕ} → PartsLaid lens count plan plan 0
parts_none = record { size = refl; each = λ l k h. absurd (omega arith); kept = λ i h. refl }

pub parts_more : {lens : List ℕ} {count l : ℕ} {before middle after : List ℕ} → PartsLaid lens count before middle l
    → PartsOfLaid lens count l middle after 9 → PartsLaid lens count before after (l + 1)
parts_more {lens} {count} {l} so_far here = record {
  size = here.size ∙ so_far.size;
  each = λ i k h two nine. elim (dec_lt i l) [
    | yes m ↦ rw (here.kept (part_lengths_at + 9 * i + k) (omega arith)) (so_far.each i k m two nine)
    | no m ↦ let same : i ≡ l = omega arith in rw same (here.each k two nine)
  ];
  kept = λ i h. here.kept i (omega arith) ∙ so_far.kept i h;
}

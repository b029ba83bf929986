-- Counting the onsets of intervals: they add up over parts in a row, each is early or late, and none is farther from a bound than the
-- interval is long.
use Rattle.std.specs.Prelude.{ℕ, zero, suc, ◌+◌, ◌-◌, ◌*◌, ◌≤◌, ◌<◌, ◌≡◌, Bool, true, false, cond, ◌||◌, List, [], ◌∷◌, leb, ltb}
use Rattle.std.proofs.Math.Path.{refl, subst}
use Rattle.std.proofs.Common.{sym, ◌∙◌, add_assoc, add-zero, arith, leb-true, ltb-true}
use Rattle.std.proofs.Math.Bool.{not}
use Rattle.std.proofs.lemmas.Bool.{false≢true}
use Rattle.std.proofs.Math.Nat.{mul-add}
use Rattle.std.proofs.Math.ListN.{length}
use Rattle.slices.specs.Every.{Every, every_weaken}
use Rattle.slices.specs.Test.{and_both}
use Rattle.sheet.specs.Sheet.{Onset, Sheet}
use Rattle.trees.specs.ValidTrees.{whose, contains, is_early, inside, early, late, onsets_before, may_divide, apart, distance_to}
use Rattle.trees.specs.Instance.{onsets_in, early_count, late_count, own_distance}
use Rattle.trees.specs.Expansions.{may_divide_lem}
use Rattle.trees.specs.Order.{Parts, within}
use Rattle.trees.proofs.OrderLaws.{whose_both, intervals, halves}

-- ---- lists of onsets that pass a test

-- a test that passes where one of two does, and never both
whose-add : (first second whole : ℕ → Bool) → Parts first second whole → (os : List Onset)
    → length (whose whole os) ≡ length (whose first os) + length (whose second os)
unfolding whose
whose-add first second whole p [] = refl
whose-add first second whole p (o ∷ os) =
    rw (p.either o.unit) (go (first o.unit) (second o.unit) refl refl (whose-add first second whole p os))
  where
    go : (a b : Bool) → first o.unit ≡ a → second o.unit ≡ b
        → length (whose whole os) ≡ length (whose first os) + length (whose second os)
        → length (cond (a || b) (o ∷ whose whole os) (whose whole os))
        ≡ length (cond a (o ∷ whose first os) (whose first os)) + length (cond b (o ∷ whose second os) (whose second os))
    go true true e f ih = absurd (false≢true (sym (p.no_more o.unit o.unit (omega arith) f) ∙ e))
    go true false e f ih = omega arith
    go false true e f ih = omega arith
    go false false e f ih = ih

whose_fewer : (t : ℕ → Bool) (os : List Onset) → length (whose t os) ≤ length os
unfolding whose
whose_fewer t [] = omega arith
whose_fewer t (o ∷ os) = go (t o.unit) (whose_fewer t os)
  where
    go : (b : Bool) → length (whose t os) ≤ length os → length (cond b (o ∷ whose t os) (whose t os)) ≤ suc (length os)
    go true ih = omega arith
    go false ih = omega arith

pub whose_passes : (t : ℕ → Bool) (os : List Onset) → Every (λ (o : Onset). t o.unit ≡ true) (whose t os)
unfolding whose
whose_passes t [] = tt
whose_passes t (o ∷ os) = go (t o.unit) refl (whose_passes t os)
  where
    go : (b : Bool) → t o.unit ≡ b → Every (λ (x : Onset). t x.unit ≡ true) (whose t os)
        → Every (λ (x : Onset). t x.unit ≡ true) (cond b (o ∷ whose t os) (whose t os))
    go true e ih = (e, ih)
    go false e ih = ih

-- what holds of every onset holds of those that pass
pub whose_every : (P : Onset → Type 0) (t : ℕ → Bool) (os : List Onset) → Every P os → Every P (whose t os)
unfolding whose
whose_every P t [] h = tt
whose_every P t (o ∷ os) h = go (t o.unit) (whose_every P t os h.1)
  where
    go : (b : Bool) → Every P (whose t os) → Every P (cond b (o ∷ whose t os) (whose t os))
    go true ih = (h.0, ih)
    go false ih = ih

distance_most : (place d : ℕ) (os : List Onset) → Every (λ (o : Onset). apart o.unit place ≤ d) os → distance_to place os ≤ d * length os
unfolding distance_to
distance_most place d [] h = omega arith
distance_most place d (o ∷ os) h = omega (arith, h.0, distance_most place d os h.1)

-- ---- an interval and its parts

pub contains_bounds : (l n u : ℕ) → contains l n u ≡ true → (l ≤ u) × (u < l + n)
contains_bounds l n u e = let p = and_both (leb l u) (ltb u (l + n)) e in (leb-true _ _ p.0, ltb-true _ _ p.1)

module _ (s : Sheet) where
  -- the onsets of two intervals, one behind the other
  pub onsets-add : (l p q : ℕ) → onsets_in s l (p + q) ≡ onsets_in s l p + onsets_in s (l + p) q
  unfolding onsets_in inside
  onsets-add l p q =
      subst (λ (r : ℕ). length (whose (within l r) s.playing.onsets) ≡ onsets_in s l p + onsets_in s (l + p) q) (add_assoc l p q)
      (whose-add (within l (l + p)) (within (l + p) (l + p + q)) (within l (l + p + q))
      (intervals l (l + p) (l + p + q) (omega arith) (omega arith)) s.playing.onsets)

  pub onsets_none : (l : ℕ) → onsets_in s l 0 ≡ 0
  onsets_none l = omega (arith, rw (add-zero l) at (onsets-add l 0 0))

  pub onsets_most : (l n : ℕ) → onsets_in s l n ≤ length s.playing.onsets
  unfolding onsets_in inside
  onsets_most l n = whose_fewer (contains l n) s.playing.onsets

  -- those before a bound are inside the interval up to it
  pub onsets_before_lem : (u : ℕ) → onsets_before s u ≡ onsets_in s 0 u
  unfolding onsets_before onsets_in
  onsets_before_lem u = refl

  -- an onset before a bound lies before each further one
  pub before_later : (u n : ℕ) → 0 < onsets_before s u → 0 < onsets_before s (u + n)
  before_later u n h = omega (arith, onsets_before_lem u, onsets_before_lem (u + n), onsets-add 0 u n)

  -- an interval that may be divided has a length, since an onset lies inside
  pub divided_long : (k l n : ℕ) → may_divide s k l n ≡ true → 0 < n
  divided_long k l zero e = omega (arith, onsets_none l, (may_divide_lem s k l 0 e).1)
  divided_long k l (suc n) e = omega arith

  module _ (l n : ℕ) where
    pub early_late : early_count s l n + late_count s l n ≡ onsets_in s l n
    unfolding early_count late_count onsets_in early late inside
    early_late =
        let os = s.playing.onsets in
        rw (whose_both (contains l n) (is_early l n) os, whose_both (contains l n) (λ u. not (is_early l n u)) os)
        (sym (whose-add _ _ _ (halves l n) os))

    -- an onset inside is at most the interval's length away from a bound
    pub inside_bounds : Every (λ (o : Onset). (l ≤ o.unit) × (o.unit < l + n)) (inside s l n)
    unfolding inside
    inside_bounds =
        every_weaken (λ (o : Onset). contains l n o.unit ≡ true) _ (λ o e. contains_bounds l n o.unit e)
        (whose (contains l n) s.playing.onsets)
        (whose_passes (contains l n) s.playing.onsets)

    near : (place : ℕ) (t : ℕ → Bool) → l ≤ place → place ≤ l + n
        → Every (λ (o : Onset). apart o.unit place ≤ n) (whose t (inside s l n))
    near place t h k =
        whose_every _ t (inside s l n)
        (every_weaken _ (λ (o : Onset). apart o.unit place ≤ n) (λ o b. omega (arith, b.0, b.1, h, k)) (inside s l n) inside_bounds)

    pub own_distance_most : own_distance s l n ≤ n * onsets_in s l n
    unfolding own_distance early_count late_count early late
    own_distance_most =
        let e = distance_most l n (early s l n) (near l (is_early l n) (omega arith) (omega arith)) in
        let f = distance_most (l + n) n (late s l n) (near (l + n) (λ u. not (is_early l n u)) (omega arith) (omega arith)) in
        rw (← early_late) (omega (arith, e, f, mul-add n (early_count s l n) (late_count s l n)))

-- The lengths of a grammar fall from the first to the last, so a part stands behind its whole; and the units of the onsets never fall.
-- Assumes nothing.
use Rattle.std.specs.Prelude.{◌≡◌, ℕ, zero, suc, ◌*◌, ◌<◌, ◌≤◌, Bool, true, false, List, [], ◌∷◌, ◌++◌, length, drop, slice_index, refl}
use Rattle.std.proofs.Common.{ap, ⊎_elim, mul-le-mul_right, arith}
use Rattle.std.proofs.Math.Decide.{dec_lt, ℕ_discrete}
use Rattle.slices.specs.Every.{Every, every_weaken}
use Rattle.sheet.specs.Sheet.{Rule, Onset, Sheet}
use Rattle.sheet.specs.Good.{Rising, GoodRules, GoodOnsets}
use Rattle.sizes.specs.Sizes.{member, divisors, reached, collect, lengths_of}
use Rattle.sizes.specs.Members.{member_here, member_there, no_member, member_more, member_at}
use Rattle.sizes.specs.Divisors.{Falls, divisors_fall}
use Rattle.sizes.specs.Collect.{collect_in, collect_out, collect_end}
use Rattle.sizes.specs.SizesLaws.{lengths_collected, count_length}
use Rattle.expansions.specs.Tables.{last_unit}
use Rattle.expansions.specs.Places.{unit_from, cell_is}
use Rattle.plan.specs.Plan.{lengths, length_at}
use Rattle.plan.specs.PlanLaws.{length_positive}
use Rattle.rows.specs.OnsetLaws.{unit_at}

-- ---- lengths

falls_more : (xs : List ℕ) (d : ℕ) → Falls xs → ((x : ℕ) → member x xs ≡ true → d < x) → Falls (xs ++ (d ∷ []))
falls_more [] d f h = ((λ y m. absurd (no_member y m)), tt)
falls_more (x ∷ xs) d f h = (
  (λ y m. ⊎_elim (λ k. f.0 y k) (λ e. rw e (h x (member_here x x xs refl))) (member_more y d xs m)),
  falls_more xs d f.1 (λ y m. h y (member_there y x xs m)),
)

module _ (rs : List Rule) where
  by_reached : (d : ℕ) (ds found : List ℕ) → Falls (collect rs ds (found ++ (d ∷ []))) → Falls (collect rs ds found)
      → Falls (collect rs (d ∷ ds) found)
  by_reached d ds found f g = go (reached rs found d) refl
    where
      go : (b : Bool) → reached rs found d ≡ b → Falls (collect rs (d ∷ ds) found)
      go true e = rw (collect_in rs d ds found e) f
      go false e = rw (collect_out rs d ds found e) g

  -- what is found among divisors that fall, behind what is above them, falls
  collect_falls : (ds found : List ℕ) → Falls ds → Falls found → ((x y : ℕ) → member x found ≡ true → member y ds ≡ true → y < x)
      → Falls (collect rs ds found)
  collect_falls [] found f g above = rw (collect_end rs found) g
  collect_falls (d ∷ ds) found f g above =
      by_reached d ds found
      (collect_falls ds (found ++ (d ∷ [])) f.1 (falls_more found d g (λ x m. above x d m (member_here d d ds refl)))
      (λ x y m n. ⊎_elim (λ k. above x y k (member_there y d ds n)) (λ k. omega (arith, k, f.0 y n)) (member_more x d found m)))
      (collect_falls ds found f.1 g (λ x y m n. above x y m (member_there y d ds n)))

falls_at : (xs : List ℕ) → Falls xs → (i j : ℕ) → i < j → j < length xs → slice_index xs j < slice_index xs i
falls_at [] f i j h k = let none : ⊥ = omega arith in absurd none
falls_at (x ∷ xs) f i zero h k = let none : ⊥ = omega arith in absurd none
falls_at (x ∷ xs) f zero (suc j) h k = f.0 (slice_index xs j) (member_at xs j (omega arith))
falls_at (x ∷ xs) f (suc i) (suc j) h k = falls_at xs f.1 i j (omega arith) (omega arith)

module _ (s : Sheet) where
  lengths_fall : (i j : ℕ) → i < j → j < lengths s → length_at s j < length_at s i
  lengths_fall i j h k =
      let rs = s.grammar.rules in
      falls_at (lengths_of rs)
      (rw (lengths_collected rs) (collect_falls rs divisors [] divisors_fall tt (λ x y m n. absurd (no_member x m)))) i j h
      (rw (count_length rs) at k)

  -- a part is behind its whole
  pub part_behind : GoodRules s.grammar → (l h k : ℕ) → l < lengths s → h < lengths s → 2 ≤ k → length_at s l ≡ k * length_at s h → l < h
  part_behind good l h k hl hh two e =
      let long : 2 * length_at s h ≤ k * length_at s h = mul-le-mul_right (length_at s h) two in
      let some-length = length_positive s good h hh in
      elim (dec_lt l h) [
        | yes a ↦ a
        | no a ↦ elim (ℕ_discrete l h) [
          | yes b ↦ absurd (omega (arith, ap (length_at s) b))
          | no b ↦ absurd (omega (arith, lengths_fall h l (omega arith) hl))
        ]
      ]

-- ---- onsets

abbrev Before : List Onset → Type 0
Before os = Every (λ (o : Onset). o.unit ≤ last_unit) os

rising_least : (os : List Onset) (least : ℕ) → least ≤ last_unit → Rising least os → Before os → (j : ℕ) → least ≤ unit_from (drop j os)
rising_least [] least h r e zero = h
rising_least [] least h r e (suc j) = h
rising_least (o ∷ os) least h r e zero = r.0
rising_least (o ∷ os) least h r e (suc j) = omega (arith, r.0, rising_least os o.unit e.0 r.1 e.1 j)

rising_at : (os : List Onset) (least : ℕ) → Rising least os → Before os → (i j : ℕ) → i ≤ j → unit_from (drop i os) ≤ unit_from (drop j os)
rising_at [] least r e zero zero h = omega arith
rising_at [] least r e zero (suc j) h = omega arith
rising_at [] least r e (suc i) zero h = omega arith
rising_at [] least r e (suc i) (suc j) h = omega arith
rising_at (o ∷ os) least r e zero j h = rising_least (o ∷ os) o.unit e.0 (omega arith, r.1) e j
rising_at (o ∷ os) least r e (suc i) zero h = let none : ⊥ = omega arith in absurd none
rising_at (o ∷ os) least r e (suc i) (suc j) h = rising_at os o.unit r.1 e.1 i j (omega arith)

-- a later onset is not before an earlier one
pub unit_later : (s : Sheet) → GoodOnsets s.playing → (i j : ℕ) → i ≤ j → j ≤ 512 → unit_at s i ≤ unit_at s j
unit_later s good i j h k =
    let os = s.playing.onsets in
    let before : Before os =
    every_weaken _ (λ (o : Onset). o.unit ≤ last_unit) (λ o m. omega (arith, good.sixty_four)) os good.below in
    omega (
      arith,
      cell_is s.playing i (omega arith),
      cell_is s.playing j (omega arith),
      rising_at os 0 good.rising before i j h,
    )

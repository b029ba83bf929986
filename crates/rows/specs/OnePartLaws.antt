-- Which part of a division has the only onset of an item, and what the other parts cost as leaves: summed up one after another, as the
-- plan holds it.
use Rattle.std.specs.Prelude.{ℕ, zero, suc, ◌+◌, ◌-◌, ◌*◌, ◌/◌, ◌%◌, ◌≤◌, ◌<◌, ◌≡◌, eqb, get_or}
use Rattle.std.proofs.Math.Path.{refl, ap}
use Rattle.std.proofs.Common.{sym, ◌∙◌, mul-le-mul_right, div-lt_iff_lt-mul, mul_comm, div-add-mod', mod-lt}
use Rattle.std.proofs.Math.Bool.{true, false}
use mathlib.Core.List.{List, [], ◌∷◌, ◌++◌}
use Rattle.std.proofs.Math.Decide.{dec_lt, ℕ_discrete}
use native.Mathlib.Omega.{arith}
use borrow.Author.Tests.{eq-eqb, ne_eqb, lt-ltb, le-ltb}
use Rattle.std.proofs.Math.ListN.{length, drop}
use Rattle.sheet.specs.Sheet.{Onset, Sheet}
use Rattle.sheet.specs.Good.{GoodOnsets}
use Rattle.trees.specs.ValidTrees.{whose, is_early, inside, early, late, onsets_before, token, distance_to}
use Rattle.trees.specs.Instance.{onsets_in, early_count, late_count, own_distance}
use Rattle.trees.proofs.Onsets.{onsets-add}
use Rattle.plan.specs.Plan.{least_leaf}
use Rattle.groups.specs.Sums.{sum_to, sum_same}
use Rattle.plan.specs.Ways.{beside_at, beside_sum}
use Rattle.expansions.specs.Tables.{last_unit}
use Rattle.expansions.specs.Items.{first_at}
use Rattle.expansions.specs.Places.{unit_from, cell_is, inside_then, first_most, first_next}
use Rattle.rows.specs.OnsetLaws.{unit_at, unit_behind, unit_before, place_before, place_is, first_later}
use Rattle.rows.specs.OneLaws.{leaf_sum, leaf_sum_from}

-- ---- the part with the onset

-- the part of length p that a unit lies in, of those from l on
pub part_of_unit : (l p k u : ℕ) → l ≤ u → u < l + k * p
    → ((u - l) / p < k) × (l + (u - l) / p * p ≤ u) × (u < l + (u - l) / p * p + p)
part_of_unit l zero k u h e = let none : ⊥ = omega (arith, mul_comm k 0) in absurd none
part_of_unit l (suc p) k u h e =
    let rest : (u - l) % suc p < suc p = mod-lt (u - l) (omega arith) in
    let sum : (u - l) / suc p * suc p + (u - l) % suc p ≡ u - l = div-add-mod' (u - l) (suc p) in
    ((div-lt_iff_lt-mul {k = suc p} {x = u - l} {y = k} (omega arith)).1 (omega arith), omega arith, omega arith)

-- of k parts of length p, from l on, part j alone has an onset, and it has one; an onset lies before them
pub record OneAt (s : Sheet) (l p k j : ℕ) : Type 0 where
  pub begun : 0 < onsets_before s l
  pub within : j < k
  pub before : onsets_in s l (j * p) ≡ 0
  pub here : onsets_in s (l + j * p) p ≡ 1
  pub after : (n : ℕ) → k ≡ suc j + n → onsets_in s (l + j * p + p) (n * p) ≡ 0

-- the first onset behind the start is that of part j
pub one_first : (s : Sheet) → GoodOnsets s.playing → (l p k j : ℕ) → OneAt s l p k j → first_at s (l + j * p) ≡ first_at s l
one_first s good l p k j at = omega (arith, first_next s good l (j * p), at.before)

-- one onset is inside where the first behind the start is before the end, and the next is not
pub one_onset : (s : Sheet) → GoodOnsets s.playing → (l n : ℕ) → l + n ≤ last_unit → unit_at s (first_at s l) < l + n
    → l + n ≤ unit_at s (first_at s l + 1) → onsets_in s l n ≡ 1
one_onset s good l n near lo hi =
    let more : first_at s l < first_at s (l + n) =
    place_before s good (l + n) (first_at s l) near (first_later s good l (l + n) (omega arith)) lo in
    omega (arith, place_is s good (l + n) (first_at s l + 1) near (omega arith) hi, first_next s good l n)

module _ (s : Sheet) (good : GoodOnsets s.playing) (l n : ℕ) (near : l + n ≤ last_unit) (one : onsets_in s l n ≡ 1) where
  abbrev unit : ℕ
  unit = unit_at s (first_at s l)

  -- it lies inside
  pub one_unit : (l ≤ unit) × (unit < l + n)
  one_unit = (
    unit_behind s good l (omega arith),
    elim (dec_lt unit (l + n)) [
      | yes h ↦ h
      | no h ↦
          absurd (omega (
            arith,
            place_is s good (l + n) (first_at s l) near (first_later s good l (l + n) (omega arith)) (omega arith),
            first_next s good l n,
          ))
    ],
  )

  -- the only onset of an interval is that of each interval inside it that it lies in
  pub one_inside : (a m : ℕ) → l ≤ a → a + m ≤ l + n → a ≤ unit → unit < a + m → onsets_in s a m ≡ 1
  one_inside a m h k lo hi =
      let same : first_at s a ≡ first_at s l = elim (dec_lt (first_at s l) (first_at s a)) [
        | yes e ↦ absurd (omega (arith, unit_before s good a (first_at s l) (omega arith) e))
        | no e ↦ omega (arith, first_later s good l a h)
      ] in
      let behind : first_at s l < first_at s (a + m) =
      place_before s good (a + m) (first_at s l) (omega arith) (first_later s good l (a + m) (omega arith)) hi in
      omega (arith, first_next s good a m, first_next s good l n, first_later s good (a + m) (l + n) k)

  -- so it is that of one part
  pub one_at : (p k : ℕ) → n ≡ k * p → 0 < onsets_before s l → OneAt s l p k ((unit - l) / p)
  one_at p k e begun = go (part_of_unit l p k unit one_unit.0 (omega (arith, one_unit.1)))
    where
      j : ℕ
      j = (unit - l) / p

      go : ((unit - l) / p < k) × (l + (unit - l) / p * p ≤ unit) × (unit < l + (unit - l) / p * p + p)
          → OneAt s l p k ((unit - l) / p)
      go (a, b, c) = record {
        begun = begun;
        within = a;
        before = omega (arith, parts, behind, here);
        here = here;
        after = λ i ei.
            let rest : n - (j * p + p) ≡ i * p = omega (arith, ap (λ (x : ℕ). x * p) ei) in
            ap (onsets_in s (l + j * p + p)) (sym rest) ∙ omega (arith, parts, behind, here);
      }
        where
          most : suc j * p ≤ k * p
          most = mul-le-mul_right p a

          here : onsets_in s (l + j * p) p ≡ 1
          here = one_inside (l + j * p) p (omega arith) (omega (arith, most)) b c

          parts : onsets_in s l n ≡ onsets_in s l (j * p) + onsets_in s (l + j * p) (p + (n - (j * p + p)))
          parts = ap (onsets_in s l) (omega (arith, most)) ∙ onsets-add s l (j * p) (p + (n - (j * p + p)))

          behind : onsets_in s (l + j * p) (p + (n - (j * p + p)))
              ≡ onsets_in s (l + j * p) p + onsets_in s (l + j * p + p) (n - (j * p + p))
          behind = onsets-add s (l + j * p) p (n - (j * p + p))

  -- ---- as a leaf

  alone : (o : Onset) × (inside s l n ≡ o ∷ []) × (o.unit ≡ unit)
  unfolding onsets_in
  alone = go (inside s l n) refl
    where
      at : unit ≡ unit_from (inside s l n ++ drop (first_at s (l + n)) s.playing.onsets)
      at =
          cell_is s.playing (first_at s l) (omega (arith, first_most s good l))
          ∙ ap unit_from (inside_then s good l n near)

      go : (os : List Onset) → inside s l n ≡ os → (o : Onset) × (inside s l n ≡ o ∷ []) × (o.unit ≡ unit)
      go [] e = let none : ⊥ = omega (arith, one, ap length e) in absurd none
      go (o ∷ []) e = (o, e, sym (at ∙ ap (λ xs. unit_from (xs ++ drop (first_at s (l + n)) s.playing.onsets)) e))
      go (o ∷ x ∷ os) e = let none : ⊥ = omega (arith, one, ap length e) in absurd none

  -- an onset in the first half is early, and any other late
  pub one_early : 2 * (unit - l) < n → (early_count s l n ≡ 1) × (late_count s l n ≡ 0) × (own_distance s l n ≡ unit - l)
  unfolding early_count late_count own_distance early late whose distance_to
  one_early h = go alone.0 alone.1 alone.2
    where
      go : (o : Onset) → inside s l n ≡ o ∷ [] → o.unit ≡ unit
          → (early_count s l n ≡ 1) × (late_count s l n ≡ 0) × (own_distance s l n ≡ unit - l)
      go o e k =
          let is-early : is_early l n o.unit ≡ true = lt-ltb (2 * (o.unit - l)) n (omega arith) in
          rw (e, is-early) (refl, refl, omega (arith, one_unit.0))

  pub one_late : n ≤ 2 * (unit - l) → (early_count s l n ≡ 0) × (late_count s l n ≡ 1) × (own_distance s l n ≡ n - (unit - l))
  unfolding early_count late_count own_distance early late whose distance_to
  one_late h = go alone.0 alone.1 alone.2
    where
      go : (o : Onset) → inside s l n ≡ o ∷ [] → o.unit ≡ unit
          → (early_count s l n ≡ 0) × (late_count s l n ≡ 1) × (own_distance s l n ≡ n - (unit - l))
      go o e k =
          let is-late : is_early l n o.unit ≡ false = le-ltb (2 * (o.unit - l)) n (omega arith) in
          rw (e, is-late) (refl, refl, omega (arith, one_unit.0, one_unit.1))

-- ---- what the other parts cost

sum-first : (f : ℕ → ℕ) (n : ℕ) → sum_to f (suc n) ≡ f 0 + sum_to (λ i. f (suc i)) n
unfolding sum_to
sum-first f zero = omega arith
sum-first f (suc n) = omega (arith, sum-first f n)

-- two tests that pass together
eqb_same : (a b c d : ℕ) → (a ≡ b → c ≡ d) → (c ≡ d → a ≡ b) → eqb a b ≡ eqb c d
eqb_same a b c d h k = elim (ℕ_discrete a b) [
  | yes e ↦ eq-eqb a b e ∙ sym (eq-eqb c d (h e))
  | no e ↦ ne_eqb a b e ∙ sym (ne_eqb c d (λ x. e (k x)))
]

module _ (s : Sheet) where
  leaf_sum_is : (qs : List ℕ) → sum_to (λ i. least_leaf s (get_or qs i 0) (token 0 1)) (length qs) ≡ leaf_sum s qs
  unfolding sum_to
  leaf_sum_is [] = refl
  leaf_sum_is (q ∷ qs) =
      sum-first (λ i. least_leaf s (get_or (q ∷ qs) i 0) (token 0 1)) (length qs) ∙ ap (least_leaf s q (token 0 1) +◌) (leaf_sum_is qs)

  beside_behind : (k n : ℕ) (ys : List ℕ) → sum_to (λ i. beside_at s (k ∷ ys) 0 n (suc i)) (length ys) ≡ leaf_sum_from s n ys
  unfolding sum_to
  beside_behind k n [] = refl
  beside_behind k n (y ∷ ys) =
      sum-first (λ i. beside_at s (k ∷ y ∷ ys) 0 n (suc i)) (length ys)
      ∙ ap (least_leaf s y (token n 1) +◌)
      (sum_same (λ i. beside_at s (k ∷ y ∷ ys) 0 n (suc (suc i))) (λ i. least_leaf s (get_or ys i 0) (token 0 1)) (length ys)
      (λ i _. rw (ne_eqb (suc (suc i)) 0 (λ e. omega arith), ne_eqb (suc (suc i)) 1 (λ e. omega arith)))
      ∙ leaf_sum_is ys)

  -- the sum by the parts before and behind
  pub beside_sum_is : (xs : List ℕ) (k : ℕ) (ys : List ℕ) (n : ℕ)
      → beside_sum s (xs ++ (k ∷ ys)) (length xs) n ≡ leaf_sum s xs + leaf_sum_from s n ys
  unfolding beside_sum
  beside_sum_is [] k ys n = sum-first (beside_at s (k ∷ ys) 0 n) (length ys) ∙ ap (0 +◌) (beside_behind k n ys)
  beside_sum_is (x ∷ xs) k ys n =
      let zs = xs ++ (k ∷ ys) in
      let j = length xs in
      sum-first (beside_at s (x ∷ zs) (suc j) n) (length zs)
      ∙ omega (
        arith,
        first,
        sum_same (λ i. beside_at s (x ∷ zs) (suc j) n (suc i)) (beside_at s zs j n) (length zs) (λ i _. further i),
        beside_sum_is xs k ys n,
      )
    where
      first : beside_at s (x ∷ (xs ++ (k ∷ ys))) (suc (length xs)) n 0 ≡ least_leaf s x (token 0 1)
      first = rw (ne_eqb 0 (suc (length xs)) (λ e. omega arith), ne_eqb 0 (suc (length xs) + 1) (λ e. omega arith))

      further : (i : ℕ)
          → beside_at s (x ∷ (xs ++ (k ∷ ys))) (suc (length xs)) n (suc i) ≡ beside_at s (xs ++ (k ∷ ys)) (length xs) n i
      further i = rw (
        eqb_same (suc i) (suc (length xs)) i (length xs) (λ e. omega arith) (λ e. omega arith),
        eqb_same (suc i) (suc (length xs) + 1) i (length xs + 1) (λ e. omega arith) (λ e. omega arith),
      )

-- The onsets by their places in the table of units: which are before a unit, and which is the first inside an interval.
use Rattle.std.specs.Prelude.{ℕ, zero, suc, ◌+◌, ◌-◌, ◌*◌, ◌≤◌, ◌<◌, ◌≡◌, List, [], ◌∷◌, ◌++◌, length, get_or}
use Rattle.std.proofs.Common.{sym, ◌∙◌, arith}
use Rattle.std.proofs.Math.Path.{ap}
use Rattle.std.proofs.Math.Decide.{dec_lt, ℕ_discrete}
use Rattle.std.proofs.Math.ListN.{drop}
use Rattle.slices.specs.Every.{Every}
use Rattle.sheet.specs.Sheet.{Onset, Sheet, bar_units, in_bar}
use Rattle.sheet.specs.Good.{GoodOnsets}
use Rattle.trees.specs.ValidTrees.{inside, onsets_before}
use Rattle.trees.proofs.LeafBoundLaws.{in_bar_most}
use Rattle.trees.specs.Instance.{onsets_in}
use Rattle.trees.proofs.Onsets.{inside_bounds}
use Rattle.sizes.specs.Sizes.{largest, most_in_bar}
use Rattle.expansions.specs.Tables.{UnitsHeld, last_unit, unit_cells}
use Rattle.expansions.specs.Items.{first_at}
use Rattle.expansions.specs.Places.{unit_from, cell_is, inside_then, first_behind, first_most, first_next, first_zero}

-- the unit of the onset at a place
abbrev pub unit_at : Sheet → ℕ → ℕ
unit_at s i = get_or (unit_cells s.playing) i 0

-- the unit of an onset that is among the first of two lists
among : (u : ℕ) (xs ys : List Onset) (i : ℕ) → i < length xs → Every (λ (o : Onset). (0 ≤ o.unit) × (o.unit < 0 + u)) xs
    → unit_from (drop i (xs ++ ys)) < u
among u [] ys i h e = let none : ⊥ = omega arith in absurd none
among u (x ∷ xs) ys zero h e = omega (arith, e.0.1)
among u (x ∷ xs) ys (suc i) h e = among u xs ys i (omega arith) e.1

module _ (s : Sheet) (good : GoodOnsets s.playing) where
  -- the first onset at or behind a unit is not before it
  pub unit_behind : (u : ℕ) → u ≤ last_unit → u ≤ unit_at s (first_at s u)
  unit_behind u h = omega (arith, cell_is s.playing (first_at s u) (omega (arith, first_most s good u)), first_behind s good u h)

  -- and every onset in a place before that one is before the unit
  pub unit_before : (u i : ℕ) → u ≤ last_unit → i < first_at s u → unit_at s i < u
  unfolding onsets_before
  unit_before u i h k =
      let os = s.playing.onsets in
      let whole : os ≡ inside s 0 u ++ drop (first_at s (0 + u)) os
      = ap (λ n. drop n os) (sym (first_zero s good)) ∙ inside_then s good 0 u (omega arith) in
      let here : unit_at s i ≡ unit_from (drop i (inside s 0 u ++ drop (first_at s (0 + u)) os))
      = cell_is s.playing i (omega (arith, first_most s good u)) ∙ ap (λ xs. unit_from (drop i xs)) whole in
      omega (arith, among u (inside s 0 u) (drop (first_at s (0 + u)) os) i k (inside_bounds s 0 u), here)

  -- so the place of the first onset behind a unit is where the table first has one that is not before it
  pub place_before : (u i : ℕ) → u ≤ last_unit → i ≤ first_at s u → unit_at s i < u → i < first_at s u
  place_before u i h k l = elim (ℕ_discrete i (first_at s u)) [
    | yes e ↦ absurd (omega (arith, unit_behind u h, ap (unit_at s) e))
    | no n ↦ omega arith
  ]

  pub place_is : (u i : ℕ) → u ≤ last_unit → i ≤ first_at s u → u ≤ unit_at s i → i ≡ first_at s u
  place_is u i h k l = elim (dec_lt i (first_at s u)) [
    | yes e ↦ absurd (omega (arith, unit_before u i h e))
    | no n ↦ omega arith
  ]

  -- more onsets are before a later unit
  pub first_later : (u v : ℕ) → u ≤ v → first_at s u ≤ first_at s v
  first_later u v h = go (v - u) (omega arith)
    where
      go : (n : ℕ) → v ≡ u + n → first_at s u ≤ first_at s v
      go n e = rw e (omega (arith, first_next s good u n))

-- ---- the onsets of a bar

pub largest_le : (f : ℕ → ℕ) (n i : ℕ) → i < n → f i ≤ largest f n
unfolding largest
largest_le f zero i h = let none : ⊥ = omega arith in absurd none
largest_le f (suc n) i h = elim (ℕ_discrete i n) [
  | yes e ↦ rw e (omega arith)
  | no k ↦ omega (arith, largest_le f n i (omega arith))
]

-- no bar has more onsets than the fullest
pub onsets_of_bar : (s : Sheet) (b : ℕ) → b < s.playing.bars → onsets_in s (b * bar_units) bar_units ≤ most_in_bar s.playing
unfolding onsets_in inside most_in_bar
onsets_of_bar s b h =
    omega (
      arith,
      in_bar_most (b * bar_units) bar_units b (omega arith) (omega arith) s.playing.onsets,
      largest_le (λ (b : ℕ). in_bar b s.playing.onsets) s.playing.bars b h,
    )

-- ---- the search for the first onset behind a unit, from that of one before it

-- what `first_behind` is given
pub record Behind (s : Sheet) (units : List ℕ) (from left right : ℕ) : Type 0 where
  pub held : UnitsHeld s units
  pub first : from ≡ first_at s left
  pub ahead : left ≤ right
  pub near : right ≤ last_unit

module _ {s : Sheet} {us : List ℕ} {from left right : ℕ} (h : Behind s us from left right) where
  abbrev cells : (i : ℕ) → get_or us i 0 ≡ unit_at s i
  cells i = ap (λ xs. get_or xs i 0) h.held.cells

  pub behind_start : from ≤ first_at s right
  behind_start = omega (arith, h.first, first_later s h.held.good left right h.ahead)

  pub behind_more : (i : ℕ) → i ≤ first_at s right → get_or us i 0 < right → (i + 1 ≤ first_at s right) × (i + 1 ≤ 512)
  behind_more i k l =
      let m = place_before s h.held.good right i h.near k (omega (arith, cells i)) in
      (omega arith, omega (arith, first_most s h.held.good right))

  pub behind_end : (i : ℕ) → i ≤ first_at s right → right ≤ get_or us i 0 → i ≡ first_at s right
  behind_end i k l = place_is s h.held.good right i h.near k (omega (arith, cells i))

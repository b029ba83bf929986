-- The onsets by their places: those inside an interval stand together, from the first at or behind its left bound on.
use Rattle.std.specs.Prelude.{ℕ, zero, suc, ◌+◌, ◌≤◌, ◌<◌, ◌≡◌, refl, true, List, [], ◌∷◌, ◌++◌, map, leb, ltb, get_or}
use Rattle.std.proofs.Math.Path.{sym, ap}
use Rattle.std.proofs.Common.{◌∙◌, zero-add, arith, leb-true}
use Rattle.std.proofs.Math.ListN.{length, drop}
use Rattle.std.proofs.Math.Seq.{drop-append_seam}
use Rattle.slices.specs.Every.{Every, every_weaken}
use Rattle.slices.specs.Test.{and_both}
use Rattle.slices.specs.Pad.{pad, get_or-pad, length-pad}
use Rattle.sheet.specs.Sheet.{Onset, Playing, Sheet}
use Rattle.sheet.specs.Good.{GoodOnsets}
use Rattle.trees.specs.ValidTrees.{whose, inside, onsets_before}
use Rattle.trees.specs.Instance.{onsets_in}
use Rattle.trees.specs.Order.{within}
use Rattle.trees.proofs.OrderLaws.{within-append, within_all}
use Rattle.trees.proofs.Onsets.{onsets-add, onsets_none, onsets_most, onsets_before_lem, whose_passes}
use Rattle.expansions.specs.Tables.{last_unit, unit_in, unit_cells}
use Rattle.expansions.specs.Items.{first_at}

-- the unit of the first of some onsets; of none, the end of the longest piece
abbrev pub unit_from : List Onset → ℕ
unit_from [] = last_unit
unit_from (o ∷ os) = o.unit

-- another default, within the list
get_d_default : {A : Type 0} (xs : List A) (i : ℕ) (a b : A) → i < length xs → get_or xs i a ≡ get_or xs i b
get_d_default [] i a b h = let f : ⊥ = omega arith in absurd f
get_d_default (x ∷ xs) zero a b h = refl
get_d_default (x ∷ xs) (suc i) a b h = get_d_default xs i a b (omega arith)

unit_from_lem : (os : List Onset) (i : ℕ) → get_or (map unit_in os) i last_unit ≡ unit_from (drop i os)
unit_from_lem [] zero = refl
unit_from_lem [] (suc i) = refl
unit_from_lem (o ∷ os) zero = refl
unit_from_lem (o ∷ os) (suc i) = unit_from_lem os i

-- what a place of the table of units holds
pub cell_is : (p : Playing) (i : ℕ) → i < 513 → get_or (unit_cells p) i 0 ≡ unit_from (drop i p.onsets)
unfolding unit_cells
cell_is p i h =
    let us = map unit_in p.onsets in
    get_d_default (pad 513 last_unit us) i 0 last_unit (omega (arith, length-pad 513 last_unit us, h)) ∙ get_or-pad 513 last_unit us i h
    ∙ unit_from_lem p.onsets i

within_low : (l r u : ℕ) → within l r u ≡ true → l ≤ u
within_low l r u e = leb-true l u (and_both (leb l u) (ltb u r) e).0

module _ (s : Sheet) (good : GoodOnsets s.playing) where
  abbrev os : List Onset
  os = s.playing.onsets

  -- the onsets at or behind unit l
  abbrev behind : ℕ → List Onset
  behind l = whose (within l last_unit) os

  all_before : Every (λ (o : Onset). o.unit < last_unit) os
  all_before = every_weaken _ (λ (o : Onset). o.unit < last_unit) (λ o h. omega (arith, good.sixty_four)) os good.below

  drop-first : (l : ℕ) → l ≤ last_unit → drop (first_at s l) os ≡ behind l
  unfolding onsets_before inside
  drop-first l h =
      let whole = within-append 0 l last_unit 0 os (omega arith) h good.rising ∙ within_all last_unit os all_before in
      ap (λ n. drop n os) (ap (λ r. length (whose (within 0 r) os)) (zero-add l))
      ∙ sym (ap (drop (length (whose (within 0 l) os))) whole)
      ∙ drop-append_seam (whose (within 0 l) os) (behind l)

  -- the onsets from an interval's left bound on are those inside and those from its right bound on
  pub inside_then : (l n : ℕ) → l + n ≤ last_unit → drop (first_at s l) os ≡ inside s l n ++ drop (first_at s (l + n)) os
  unfolding inside
  inside_then l n h =
      drop-first l (omega arith) ∙ sym (within-append l (l + n) last_unit 0 os (omega arith) h good.rising)
      ∙ ap (inside s l n ++◌) (sym (drop-first (l + n) h))

  -- the first onset at or behind a unit is not before it
  pub first_behind : (l : ℕ) → l ≤ last_unit → l ≤ unit_from (drop (first_at s l) os)
  first_behind l h = rw (drop-first l h) (go (behind l) (whose_passes (within l last_unit) os))
    where
      go : (xs : List Onset) → Every (λ (o : Onset). within l last_unit o.unit ≡ true) xs → l ≤ unit_from xs
      go [] e = h
      go (o ∷ xs) e = within_low l last_unit o.unit e.0

  pub first_most : (l : ℕ) → first_at s l ≤ 512
  first_most l = omega (arith, onsets_before_lem s l, onsets_most s 0 l, good.most)

  -- the onsets before an interval's right bound are those before its left bound and those inside
  pub first_next : (l n : ℕ) → first_at s (l + n) ≡ first_at s l + onsets_in s l n
  first_next l n =
      onsets_before_lem s (l + n) ∙ onsets-add s 0 l n ∙ ap (λ x. onsets_in s 0 l + onsets_in s x n) (zero-add l)
      ∙ ap (◌+ onsets_in s l n) (sym (onsets_before_lem s l))

  pub first_zero : first_at s 0 ≡ 0
  first_zero = onsets_before_lem s 0 ∙ onsets_none s 0

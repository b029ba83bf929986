-- What one turn of the loop over the rules does to the packed cells of an item with one onset inside, entered with nothing carried: of the
-- division's parts only the cells of the one with the onset are looked up.
use Rattle.std.specs.Prelude.{ℕ, zero, suc, ◌+◌, ◌-◌, ◌*◌, ◌≤◌, ◌<◌, min, ◌≡◌, refl, List, [], ◌∷◌, ◌++◌, length, get_or}
use Rattle.std.proofs.Common.{sym, ap, ◌∙◌, not-suc-le-zero, arith, lt-ltb, le-ltb}
use Rattle.std.proofs.Math.Decide.{dec_lt}
use Rattle.sheet.specs.declared.clock.Units.{Units}
use Rattle.sheet.specs.Sheet.{Sheet}
use Rattle.sheet.specs.Good.{GoodRules, GoodOnsets}
use Rattle.derivations.specs.Derivation.{Item}
use Rattle.derivations.specs.Minima.{lowest, lowest_cap, only}
use Rattle.derivations.specs.Folds.{forward}
use Rattle.trees.specs.ValidTrees.{onsets_before, adjoining, token, weight_at}
use Rattle.trees.proofs.KindLaws.{kind_before}
use Rattle.trees.specs.Instance.{onsets_in, early_count, late_count, own_distance}
use Rattle.trees.specs.LeastTotal.{NONE, carries, cell_of}
use Rattle.plan.specs.Plan.{rule_count, length_at, Divides}
use Rattle.plan.specs.Packed.{packed_leaf}
use Rattle.plan.specs.Ways.{beside_sum, beside, one_to_zero, one_to_one}
use Rattle.expansions.specs.Tables.{last_unit}
use Rattle.expansions.specs.Items.{first_at}
use Rattle.rows.specs.VectorLaws.{lowest_fewer}
use Rattle.rows.specs.OnsetLaws.{unit_at}
use Rattle.rows.specs.CellLaws.{division_total}
use Rattle.rows.specs.Slots.{item_at, Inhabited}
use Rattle.rows.specs.CarryLaws.{one_none}
use Rattle.rows.specs.OneLaws.{Two, two_eq, leaf_sum, leaf_sum_from, one_last, one_inner}
use Rattle.rows.specs.OnePartLaws.{OneAt, one_early, one_late, beside_sum_is}
use Rattle.rows.specs.PackedLaws.{packed_cell, packed_leaf_total, packed_leaf_total_most, packed_cell_none, packed_cell_split}
use Rattle.rows.specs.PackedTurnLaws.{packed_to, packed_to_most, packed_leaf_at, packed_leaf_none, packed_more}

-- ---- the parts of a division

-- part j of those in a row
abbrev pub part_at : (l p : ℕ) (kids : List ℕ) (j : ℕ) → Item
part_at l p kids j = record { nonterminal = get_or kids j 0; left = l + j * p; len = p }

-- a list, split before each of its places
at_split : (P : List ℕ → ℕ → Type 0) → ((xs : List ℕ) (k : ℕ) (ys : List ℕ) → P (xs ++ (k ∷ ys)) (length xs)) → (ks : List ℕ) (j : ℕ)
    → j < length ks → P ks j
at_split P h [] j e = absurd (not-suc-le-zero e)
at_split P h (x ∷ ks) zero e = h [] x ks
at_split P h (x ∷ ks) (suc j) e =
    at_split (λ zs i. P (x ∷ zs) (suc i)) (λ xs k ys. h (x ∷ xs) k ys) ks j (omega arith)

get_or-middle : (xs : List ℕ) (k : ℕ) (ys : List ℕ) → get_or (xs ++ (k ∷ ys)) (length xs) 0 ≡ k
get_or-middle [] k ys = refl
get_or-middle (x ∷ xs) k ys = get_or-middle xs k ys

length-middle : (xs : List ℕ) (k : ℕ) (ys : List ℕ) → length (xs ++ (k ∷ ys)) ≡ suc (length xs) + length ys
length-middle [] k ys = omega arith
length-middle (x ∷ xs) k ys = omega (arith, length-middle xs k ys)

module _ (s : Sheet) (good : GoodRules s.grammar) (l p : ℕ) where
  abbrev fold : List ℕ → ℕ → ℕ
  fold ks = forward carries NONE (cell_of s) (adjoining l p ks) (only NONE 0)

  -- to carry state 0: by the onset's part to 0, or to 1 where a part is behind it; to 1: by the last part to 1
  abbrev Last : List ℕ → ℕ → Type 0
  Last ks j =
      suc j ≡ length ks → Two (fold ks) (min NONE (cell_of s (part_at l p ks j) 0 0 + beside_sum s ks j 0))
      (min NONE (cell_of s (part_at l p ks j) 0 1 + beside_sum s ks j 0))

  abbrev Inner : List ℕ → ℕ → Type 0
  Inner ks j =
      suc j < length ks → Two (fold ks)
      (min NONE (min (cell_of s (part_at l p ks j) 0 0 + beside_sum s ks j 0) (cell_of s (part_at l p ks j) 0 1 + beside_sum s ks j 1))) NONE

  both : (xs : List ℕ) (k : ℕ) (ys : List ℕ) → OneAt s l p (length (xs ++ (k ∷ ys))) (length xs)
      → Last (xs ++ (k ∷ ys)) (length xs) × Inner (xs ++ (k ∷ ys)) (length xs)
  both xs k ys at =
      rw (get_or-middle xs k ys, beside_sum_is s xs k ys 0, beside_sum_is s xs k ys 1) (
        (λ e. last (omega (arith, length-middle xs k ys))),
        (λ h. one_inner s good l p k xs ys at.begun at.before at.here (at.after (length ys) (length-middle xs k ys))
            (omega (arith, length-middle xs k ys))),
      )
    where
      last : length ys ≡ 0 → Two (fold (xs ++ (k ∷ ys)))
          (min NONE (cell_of s (record { nonterminal = k; left = l + length xs * p; len = p }) 0 0 + (leaf_sum s xs + leaf_sum_from s 0 ys)))
          (min NONE (cell_of s (record { nonterminal = k; left = l + length xs * p; len = p }) 0 1 + (leaf_sum s xs + leaf_sum_from s 0 ys)))
      last e =
          let nothing : leaf_sum_from s 0 ys ≡ 0 = no_leaf ys e in
          two_eq (omega arith) (omega arith)
          (one_last s good l p k xs ys at.begun at.before at.here (at.after (length ys) (length-middle xs k ys)) e)
        where
          no_leaf : (zs : List ℕ) → length zs ≡ 0 → leaf_sum_from s 0 zs ≡ 0
          no_leaf [] e = refl
          no_leaf (z ∷ zs) e = let none : ⊥ = omega arith in absurd none

  pub one-fold : (ks : List ℕ) (j : ℕ) → OneAt s l p (length ks) j → Last ks j × Inner ks j
  one-fold ks j at = at_split (λ zs i. OneAt s l p (length zs) i → Last zs i × Inner zs i) both ks j at.within at

-- ---- packed

-- a cap in what is packed makes no difference to a minimum below it
module _ (b w r : ℕ) (low : b ≤ 64 * NONE) where
  pack_low : (x : ℕ) → min b (64 * (w + min NONE x) + r) ≡ min b (64 * (w + x) + r)
  pack_low x = omega arith

  pack_cell : (c x : ℕ) → min b (64 * (w + (c + x)) + r) ≡ min b (64 * c + (64 * min NONE (w + x) + r))
  pack_cell c x = omega arith

  pack_either : (x y : ℕ) → min b (64 * (w + min x y) + r) ≡ min (min b (64 * (w + x) + r)) (min b (64 * (w + y) + r))
  pack_either x y = omega arith

min_both : (b x y : ℕ) → min (min b x) (min b y) ≡ min b (min x y)
min_both b x y = omega arith

module _ (s : Sheet) (good : GoodRules s.grammar) (q l : ℕ) (left : Units) {n k h j : ℕ} (d : Divides s q l n k h)
    (on : Inhabited s l left) (at : OneAt s left.0 (length_at s h) (length d.parts) j) where
  abbrev whole : Item
  whole = item_at s q l left

  -- what the part with the onset comes to, with nothing carried in
  abbrev in_part : ℕ → ℕ
  in_part = cell_of s (part_at left.0 (length_at s h) d.parts j) 0

  abbrev cost : ℕ
  cost = s.grammar.multiplier * weight_at s n

  abbrev sums : ℕ → ℕ
  sums = beside_sum s d.parts j

  abbrev now : ℕ → ℕ
  now = packed_to s whole 0 n

  by-fold : (x y : ℕ) → fold s good left.0 (length_at s h) d.parts x ≡ min NONE y
      → packed_to s whole 0 (n + 1) x ≡ min (now x) (64 * (cost + y) + n)
  by-fold x y e =
      packed_more s q l left 0 good d on x ∙ ap (λ (z : ℕ). min (now x) (64 * (cost + z) + n)) e
      ∙ pack_low (now x) cost n (packed_to_most s whole 0 n x) y

  by_cell : (x c i : ℕ) → min (now x) (64 * (cost + (c + sums i)) + n) ≡ min (now x) (64 * c + beside s n d.parts j i)
  by_cell x c i = pack_cell (now x) cost n (packed_to_most s whole 0 n x) c (sums i)

  pub one_more_zero : packed_to s whole 0 (n + 1) 0
      ≡ min (packed_to s whole 0 n 0) (min (64 * in_part 0 + beside s n d.parts j 0) (64 * in_part 1 + one_to_zero s n d.parts j))
  one_more_zero = elim (dec_lt (j + 1) (length d.parts)) [
    | yes i ↦
        rw (lt-ltb (j + 1) (length d.parts) i)
        (by-fold 0 (min (in_part 0 + sums 0) (in_part 1 + sums 1)) ((one-fold s good _ _ d.parts j at).1 (omega arith)).zeroth
        ∙ pack_either (now 0) cost n (packed_to_most s whole 0 n 0) (in_part 0 + sums 0) (in_part 1 + sums 1)
        ∙ ap (λ (z : ℕ). min z (min (now 0) (64 * (cost + (in_part 1 + sums 1)) + n))) (by_cell 0 (in_part 0) 0)
        ∙ ap (min (min (now 0) (64 * in_part 0 + beside s n d.parts j 0))) (by_cell 0 (in_part 1) 1)
        ∙ min_both (now 0) (64 * in_part 0 + beside s n d.parts j 0) (64 * in_part 1 + beside s n d.parts j 1))
    | no i ↦
        rw (le-ltb (j + 1) (length d.parts) (omega arith))
        (by-fold 0 (in_part 0 + sums 0) ((one-fold s good _ _ d.parts j at).0 (omega (arith, at.within))).zeroth
        ∙ by_cell 0 (in_part 0) 0
        ∙ above (now 0) (64 * in_part 0 + beside s n d.parts j 0) (in_part 1) (packed_to_most s whole 0 n 0))
  ]
    where
      above : (b x y : ℕ) → b ≤ 64 * NONE → min b x ≡ min b (min x (64 * y + 64 * NONE))
      above b x y low = omega arith

  pub one_more_one : packed_to s whole 0 (n + 1) 1 ≡ min (packed_to s whole 0 n 1) (64 * in_part 1 + one_to_one s n d.parts j)
  one_more_one = elim (dec_lt (j + 1) (length d.parts)) [
    | yes i ↦
        rw (lt-ltb (j + 1) (length d.parts) i)
        (by-fold 1 NONE (((one-fold s good _ _ d.parts j at).1 (omega arith)).first ∙ omega arith)
        ∙ above (now 1) cost n (in_part 1) (packed_to_most s whole 0 n 1))
    | no i ↦
        rw (le-ltb (j + 1) (length d.parts) (omega arith))
        (by-fold 1 (in_part 1 + sums 0) ((one-fold s good _ _ d.parts j at).0 (omega (arith, at.within))).first ∙ by_cell 1 (in_part 1) 0)
  ]
    where
      above : (b w r y : ℕ) → b ≤ 64 * NONE → min b (64 * (w + NONE) + r) ≡ min b (64 * y + 64 * NONE)
      above b w r y low = omega arith

-- ---- the leaf that the loop starts with, and the cells that it leaves out

module _ (s : Sheet) (g : Item) (one : onsets_in s g.left g.len ≡ 1) where
  pub packed_one_none : GoodRules s.grammar → (m : ℕ) → 1 < m → m < 4 → packed_cell s g 0 m ≡ 64 * NONE
  packed_one_none good m h k =
      packed_cell_none s good g 0 m (omega arith) k (one_none s good g one 0 m (omega arith) h k)

  -- whatever rules are done
  pub packed_to_none : GoodRules s.grammar → (n m : ℕ) → n ≤ rule_count s → 1 < m → m < 4 → packed_to s g 0 n m ≡ 64 * NONE
  packed_to_none good n m few h k =
      let packs : ℕ → ℕ = λ r. 64 * division_total s g 0 m r + r in
      let all : lowest (64 * NONE) packs (rule_count s) ≡ 64 * NONE =
      omega (
        arith,
        packed_cell_split s good g 0 m (omega arith) k,
        packed_one_none good m h k,
        lowest_cap (64 * NONE) packs (rule_count s),
      ) in
      omega (
        arith,
        packed_cell_split s good g 0 m (omega arith) k,
        packed_one_none good m h k,
        packed_leaf_total_most s g 0 m,
        lowest_fewer (64 * NONE) packs n (rule_count s) few all,
      )

  module _ (good : GoodOnsets s.playing) (near : g.left + g.len ≤ last_unit) where
    -- how far the onset is from the left bound
    abbrev along : ℕ
    along = unit_at s (first_at s g.left) - g.left

    pub leaf_one_early : 2 * along < g.len
        → (packed_leaf_total s g 0 0 ≡ min (64 * NONE) (packed_leaf s g.nonterminal (token 1 1) + 64 * along))
        × (packed_leaf_total s g 0 1 ≡ 64 * NONE)
    leaf_one_early h = go (one_early s good g.left g.len near one h)
      where
        go : (early_count s g.left g.len ≡ 1) × (late_count s g.left g.len ≡ 0) × (own_distance s g.left g.len ≡ along)
            → (packed_leaf_total s g 0 0 ≡ min (64 * NONE) (packed_leaf s g.nonterminal (token 1 1) + 64 * along))
            × (packed_leaf_total s g 0 1 ≡ 64 * NONE)
        go (a, b, c) =
            (packed_leaf_at s g 0 (rw (a, c) refl) 0 (sym b), packed_leaf_none s g 0 1 (λ e. omega arith))

    pub leaf_one_late : 0 < onsets_before s g.left → g.len ≤ 2 * along
        → (packed_leaf_total s g 0 0 ≡ 64 * NONE)
        × (packed_leaf_total s g 0 1 ≡ min (64 * NONE) (packed_leaf s g.nonterminal (token 0 1) + 64 * (g.len - along)))
    leaf_one_late begun h = go (one_late s good g.left g.len near one h)
      where
        go : (early_count s g.left g.len ≡ 0) × (late_count s g.left g.len ≡ 1)
            × (own_distance s g.left g.len ≡ g.len - along)
            → (packed_leaf_total s g 0 0 ≡ 64 * NONE)
            × (packed_leaf_total s g 0 1 ≡ min (64 * NONE) (packed_leaf s g.nonterminal (token 0 1) + 64 * (g.len - along)))
        go (a, b, c) =
            let kind = kind_before (0 + early_count s g.left g.len) (onsets_before s g.left) begun in
            (packed_leaf_none s g 0 0 (λ e. omega arith), packed_leaf_at s g 0 (rw (kind, a, c) refl) 1 (sym b))

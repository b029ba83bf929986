-- What one turn of a loop over the rules does to the packed cells of an item, and where the loop starts and ends.
use Rattle.std.specs.Prelude.{ℕ, zero, suc, ◌+◌, ◌*◌, ◌≤◌, ◌<◌, min, ◌≡◌, List, length, set}
use Rattle.std.proofs.Common.{sym, ◌∙◌, add-zero, arith}
use Rattle.std.proofs.Math.Path.{ap}
use Rattle.sheet.specs.declared.clock.Units.{Units}
use Rattle.sheet.specs.Sheet.{Sheet}
use Rattle.sheet.specs.Good.{GoodRules}
use Rattle.derivations.specs.Derivation.{Item}
use Rattle.derivations.specs.Minima.{lowest, only, only_same}
use Rattle.derivations.specs.Folds.{forward}
use Rattle.trees.specs.ValidTrees.{weight_at}
use Rattle.trees.specs.Instance.{late_count, own_distance}
use Rattle.trees.specs.LeastTotal.{NONE, carries, cell_of}
use Rattle.trees.specs.Expansions.{may_divide_lem}
use Rattle.trees.proofs.RoomLaws.{good_division}
use Rattle.plan.specs.Plan.{rule_count, length_at, Divides, NoDivision}
use Rattle.plan.specs.Packed.{packed, packed_next, packed_leaf}
use Rattle.rows.specs.Vectors.{vec, lowered_by}
use Rattle.rows.specs.VectorLaws.{vec_same, vec-set, only_other}
use Rattle.rows.specs.Slots.{item_at, Inhabited}
use Rattle.rows.specs.Rows.{parts_at}
use Rattle.rows.specs.CellLaws.{division_total, division_never, division_total_lem, kind_of}
use Rattle.rows.specs.PackedLaws.{packed_cell, packed_leaf_total, packed_leaf_total_most, packed_cell_split}

-- the lesser of what is packed of a leaf at the item and of those of the first n rules that are divisions
abbrev pub packed_to : Sheet → Item → (c n x : ℕ) → ℕ
packed_to s g c n x = min (packed_leaf_total s g c x) (packed NONE (division_total s g c x) n)

module _ (s : Sheet) (g : Item) (c : ℕ) where
  pub packed_to_most : (n x : ℕ) → packed_to s g c n x ≤ 64 * NONE
  packed_to_most n x = omega (arith, packed_leaf_total_most s g c x)

  -- no rule yet: a leaf
  pub packed_none : (x : ℕ) → packed_to s g c 0 x ≡ packed_leaf_total s g c x
  unfolding lowest
  packed_none x = omega (arith, packed_leaf_total_most s g c x)

  -- all rules: the packed cell
  pub packed_all : GoodRules s.grammar → c < 4 → (n x : ℕ) → n ≡ rule_count s → x < 4 → packed_to s g c n x ≡ packed_cell s g c x
  packed_all good hc n x e hx = ap (λ (i : ℕ). packed_to s g c i x) e ∙ sym (packed_cell_split s good g c x hc hx)

  -- the row of a leaf: the cap, but at the number of late onsets; more than three are no carry state
  abbrev late : ℕ
  late = late_count s g.left g.len

  pub packed_leaf_none : (x : ℕ) → (x ≡ late → ⊥) → packed_leaf_total s g c x ≡ 64 * NONE
  unfolding packed_leaf_total
  packed_leaf_none x k = omega (arith, only_other late x k)

  pub packed_leaf_far : 4 ≤ late → vec (λ _. 64 * NONE) ≡ vec (packed_leaf_total s g c)
  packed_leaf_far h = vec_same (λ _. 64 * NONE) (packed_leaf_total s g c) (λ x k. sym (packed_leaf_none x (λ z. omega arith)))

  module _ {w : ℕ} (e : w ≡ min (64 * NONE) (packed_leaf s g.nonterminal (kind_of s g c) + 64 * own_distance s g.left g.len)) where
    pub packed_leaf_at : (x : ℕ) → x ≡ late → packed_leaf_total s g c x ≡ w
    unfolding packed_leaf_total
    packed_leaf_at x k = omega (arith, e, ap (only NONE late) k ∙ only_same NONE late)

    pub packed_leaf_row : (x : ℕ) → x ≡ late → x < 4 → set (vec (λ _. 64 * NONE)) x w ≡ vec (packed_leaf_total s g c)
    packed_leaf_row x k h =
        vec-set (packed_leaf_total s g c) x w (64 * NONE) h (packed_leaf_at x k) (λ y i. packed_leaf_none y (λ z. i (z ∙ sym k)))

module _ (s : Sheet) (q l : ℕ) (left : Units) (c : ℕ) where
  abbrev g : Item
  g = item_at s q l left

  -- a rule that does not divide the item
  pub packed_idle : (n x : ℕ) → NoDivision s q l n → packed_to s g c (n + 1) x ≡ packed_to s g c n x
  packed_idle n x no_division =
      let never : division_total s g c x n ≡ NONE =
      division_never s g c x n (λ w ks rule may. no_division w ks rule (may_divide_lem s (length ks) g.left g.len may).0) in
      omega (arith, packed_next NONE (division_total s g c x) n, never, packed_leaf_total_most s g c x)

  -- k of them in a row
  pub packed_idles : (n k x : ℕ) → ((i : ℕ) → n ≤ i → i < n + k → NoDivision s q l i) → packed_to s g c (n + k) x ≡ packed_to s g c n x
  packed_idles n zero x h = ap (λ (i : ℕ). packed_to s g c i x) (add-zero n)
  packed_idles n (suc k) x h =
      ap (λ (i : ℕ). packed_to s g c i x) (omega arith) ∙ packed_idle (n + k) x (h (n + k) (omega arith) (omega arith))
      ∙ packed_idles n k x (λ i a b. h i a (omega arith))

  -- one that does
  module _ (good : GoodRules s.grammar) {n k h : ℕ} (d : Divides s q l n k h) (on : Inhabited s l left) where
    abbrev total : ℕ → ℕ
    total = forward carries NONE (cell_of s) (parts_at s h left d.parts) (only NONE c)

    pub packed_more : (x : ℕ)
        → packed_to s g c (n + 1) x ≡ min (packed_to s g c n x) (64 * (s.grammar.multiplier * weight_at s n + total x) + n)
    packed_more x =
        let whole : length_at s l ≡ length d.parts * length_at s h = d.whole ∙ ap (λ (k : ℕ). k * length_at s h) (sym d.count) in
        let some_parts : 0 < length d.parts = omega (arith, (good_division s good n q d.weight d.parts d.rule).two) in
        let is-total : division_total s g c x n ≡ s.grammar.multiplier * weight_at s n + total x =
        division_total_lem s g c x n d.weight (length_at s h) d.parts d.rule some_parts whole on in
        omega (arith, packed_next NONE (division_total s g c x) n, is-total)

    pub packed_lowered : {a : ℕ} {o y o' : List ℕ} → a ≡ s.grammar.multiplier * weight_at s n → o ≡ vec (packed_to s g c n) → y ≡ vec total
        → o' ≡ lowered_by o a n y → o' ≡ vec (packed_to s g c (n + 1))
    packed_lowered {a} {y = y} ea eo ey e =
        e ∙ ap (λ v. lowered_by v a n y) eo ∙ ap (λ v. lowered_by (vec (packed_to s g c n)) a n v) ey
        ∙ vec_same (λ x. min (packed_to s g c n x) (64 * (a + total x) + n)) (packed_to s g c (n + 1))
        (λ x _. ap (λ (b : ℕ). min (packed_to s g c n x) (64 * (b + total x) + n)) ea ∙ sym (packed_more x))

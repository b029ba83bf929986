-- The packed cells of a sheet: 64 times a total, and the first rule that comes to it; so a loop over the rules lowers one number for both.
use Rattle.std.specs.Prelude.{ℕ, ◌+◌, ◌*◌, ◌/◌, ◌%◌, ◌≤◌, ◌<◌, min, ◌≡◌, refl}
use Rattle.std.proofs.Math.Path.{sym, ap}
use Rattle.std.proofs.Common.{◌∙◌, arith}
use Rattle.std.proofs.Math.Nat.{add-zero}
use Rattle.sheet.specs.Sheet.{Sheet}
use Rattle.sheet.specs.Good.{GoodRules}
use Rattle.derivations.specs.Derivation.{Item}
use Rattle.derivations.specs.Minima.{lowest, only, FirstPlace}
use Rattle.trees.specs.ValidTrees.{onsets_before, rule_at, token}
use Rattle.trees.specs.Instance.{onsets_in}
use Rattle.trees.specs.LeastTotal.{NONE, cell_of}
use Rattle.plan.specs.Plan.{rule_count}
use Rattle.plan.specs.Packed.{packed, packed_cap, packed_total, packed_first, packed_leaf}
use Rattle.rows.specs.VectorLaws.{lowest_capped, lowest_both, lowest_more, lowest_none}
use Rattle.rows.specs.CellLaws.{total_by, division_total, cell_rules, behind_leaf, kind_of, cost_as_leaf, split_by}
use Rattle.rows.specs.CellLaws.{division_empty, none_early, none_late, no_distance}

-- ---- a packed minimum

-- what is packed beside a cap that a value does not pass
pub pack_capped : (cap a b r : ℕ) → min cap a ≡ min cap b → min (64 * cap) (64 * a + r) ≡ min (64 * cap) (64 * b + r)
pack_capped cap a b r e = omega arith

-- a function that is, below the cap, the lesser of two, of which k is added to the first
pub packed_split : (cap : ℕ) (f u v : ℕ → ℕ) (k n : ℕ) → ((r : ℕ) → min cap (f r) ≡ min cap (min (u r + k) (v r)))
    → packed cap f n ≡ min (min (64 * cap) (packed cap u n + 64 * k)) (packed cap v n)
packed_split cap f u v k n h =
    lowest_capped (64 * cap) (λ r. 64 * f r + r) (λ r. min (64 * u r + r + 64 * k) (64 * v r + r)) n
    (λ r. pack_capped cap (f r) (min (u r + k) (v r)) r (h r) ∙ omega arith)
    ∙ lowest_both (64 * cap) (λ r. 64 * u r + r + 64 * k) (λ r. 64 * v r + r) n
    ∙ ap (λ (x : ℕ). min x (packed cap v n)) (lowest_more (64 * cap) (λ r. 64 * u r + r) (64 * k) n)

-- ---- the packed cells of a sheet

-- of an item, by carry state in and out: over its rules
unfoldable pub packed_cell : Sheet → Item → (c m : ℕ) → ℕ
unfolding total_by
packed_cell s g c m = packed NONE (total_by s g c m) (rule_count s)

-- of a leaf at an item
unfoldable pub packed_leaf_total : Sheet → Item → (c m : ℕ) → ℕ
unfolding packed_leaf
packed_leaf_total s g c m = min (64 * NONE) (packed_leaf s g.nonterminal (kind_of s g c) + 64 * behind_leaf s g m)

pub packed_cell_most : (s : Sheet) (g : Item) (c m : ℕ) → packed_cell s g c m ≤ 64 * NONE
unfolding packed_cell
packed_cell_most s g c m = packed_cap NONE (total_by s g c m) (rule_count s)

pub packed_leaf_total_most : (s : Sheet) (g : Item) (c m : ℕ) → packed_leaf_total s g c m ≤ 64 * NONE
unfolding packed_leaf_total
packed_leaf_total_most s g c m = omega arith

module _ (s : Sheet) (good : GoodRules s.grammar) where
  module _ (g : Item) (c m : ℕ) (hc : c < 4) (hm : m < 4) where
    -- a packed cell is the cell
    pub packed_cell_is : packed_cell s g c m / 64 ≡ cell_of s g c m
    unfolding packed_cell
    packed_cell_is = packed_total NONE (total_by s g c m) (rule_count s) good.most ∙ sym (cell_rules s good g c m hc hm)

    -- and below the cap the first rule that comes to it
    pub packed_cell_rule : cell_of s g c m < NONE
        → FirstPlace (total_by s g c m) (rule_count s) (packed_cell s g c m % 64)
        × (cell_of s g c m ≡ total_by s g c m (packed_cell s g c m % 64))
    unfolding packed_cell
    packed_cell_rule low =
        let is : cell_of s g c m ≡ lowest NONE (total_by s g c m) (rule_count s) = cell_rules s good g c m hc hm in
        let told = packed_first NONE (total_by s g c m) (rule_count s) good.most (omega (arith, is)) in
        (told.0, is ∙ told.1)

    -- at the cap
    pub packed_cell_none : cell_of s g c m ≡ NONE → packed_cell s g c m ≡ 64 * NONE
    packed_cell_none e = omega (arith, packed_cell_is, packed_cell_most s g c m)

    -- it comes of a leaf and of the divisions
    pub packed_cell_split : packed_cell s g c m
        ≡ min (packed_leaf_total s g c m) (packed NONE (division_total s g c m) (rule_count s))
    unfolding packed_cell packed_leaf_total division_total
    packed_cell_split =
        packed_split NONE (total_by s g c m) (λ r. cost_as_leaf s g c (rule_at s r)) (division_total s g c m) (behind_leaf s g m) (rule_count s)
        (λ r. split_by s g c m r hm (rule_at s r) refl)

    -- of an item with no onset inside: a leaf of what is carried in, and nothing is carried on
    pub packed_cell_empty : onsets_in s g.left g.len ≡ 0
        → packed_cell s g c m ≡ min (64 * NONE) (packed_leaf s g.nonterminal (token c (onsets_before s g.left)) + 64 * only NONE 0 m)
    unfolding packed_leaf_total
    packed_cell_empty e =
        packed_cell_split
        ∙ ap (min (packed_leaf_total s g c m)) (lowest_none (64 * NONE) (λ r. 64 * division_total s g c m r + r) (rule_count s)
        (λ r. omega (arith, division_empty s g c m r e)))
        ∙ rw (none_early s g e, none_late s g e, no_distance s g e, add-zero c) (omega arith)

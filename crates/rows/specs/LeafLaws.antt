-- The packed row of a leaf, as it is computed from what the leaf places.
use Rattle.std.specs.Prelude.{ℕ, ◌+◌, ◌*◌, ◌≤◌, ◌<◌, min, ◌≡◌, List, set}
use Rattle.std.proofs.Common.{ap, ◌∙◌, mul-le-mul, arith}
use Rattle.sheet.specs.Sheet.{Sheet}
use Rattle.trees.specs.ValidTrees.{token}
use Rattle.trees.specs.Instance.{onsets_in, own_distance}
use Rattle.trees.proofs.Onsets.{onsets_most, early_late, own_distance_most}
use Rattle.trees.specs.LeastTotal.{NONE}
use Rattle.expansions.specs.declared.Interval.{Interval}
use Rattle.expansions.specs.declared.Placed.{Placed}
use Rattle.expansions.specs.Items.{first_at, PlacedAt, item_of}
use Rattle.plan.specs.Plan.{leaf_cell}
use Rattle.plan.specs.Layout.{kinds}
use Rattle.plan.specs.PlanLaws.{token_below, leaf_cell_most}
use Rattle.plan.specs.Packed.{packed_leaf}
use Rattle.rows.specs.Vectors.{vec}
use Rattle.rows.specs.CellLaws.{kind_of}
use Rattle.rows.specs.PackedLaws.{packed_leaf_total}
use Rattle.rows.specs.PackedTurnLaws.{packed_leaf_row, packed_leaf_far}
use Rattle.rows.specs.Rows.{LeafEntry}

module _ {s : Sheet} {plan units : List ℕ} {q : ℕ} {over : Interval} {from c : ℕ} {p : Placed}
    (h : LeafEntry s plan units q over from c) (placed : PlacedAt s over p) where
  abbrev left : ℕ
  left = over.left.0

  abbrev len : ℕ
  len = over.len.0

  few_onsets : onsets_in s left len ≤ 512
  few_onsets = omega (arith, onsets_most s left len, h.entered.here.onsets.good.most)

  -- what is added up fits
  pub few_early : c + p.early ≤ 515
  few_early = omega (arith, placed.early, early_late s left len, few_onsets, h.entered.few)

  pub near : p.distance ≤ 660602880
  near =
      let most : len * onsets_in s left len ≤ 1290240 * 512 =
      mul-le-mul {n₂ = 1290240} (omega (arith, h.entered.here.within)) few_onsets in
      omega (arith, placed.distance, own_distance_most s left len)

  module _ {kind : ℕ} (ek : kind ≡ token (c + p.early) from) where
    pub kind_asked : (q < 16) × (kind < kinds)
    kind_asked = (omega (arith, h.nonterminal, h.prepared.good.sixteen), omega (arith, ek, token_below (c + p.early) from))

    module _ {w : ℕ} (ew : w ≡ leaf_cell plan q kind) where
      cost_is : w ≡ packed_leaf s q (kind_of s (item_of q over) c)
      cost_is =
          ew ∙ h.prepared.leaves q kind kind_asked.0 kind_asked.1
          ∙ ap (packed_leaf s q) (ek ∙ ap (token (c + p.early)) h.entered.here.first
          ∙ ap (λ (e : ℕ). token (c + e) (first_at s left)) placed.early)

      pub cost_most : w ≤ 64 * NONE
      cost_most = omega (arith, ew, leaf_cell_most s plan h.prepared q kind kind_asked.0 kind_asked.1)

      module _ {x : ℕ} (ex : x ≡ min (64 * NONE) (w + 64 * p.distance)) where
        same_cell : x ≡ min (64 * NONE) (packed_leaf s q (kind_of s (item_of q over) c) + 64 * own_distance s left len)
        same_cell = omega (arith, ex, cost_is, placed.distance)

        pub leaf_row_is : p.late < 4 → set (vec (λ _. 64 * NONE)) p.late x ≡ vec (packed_leaf_total s (item_of q over) c)
        leaf_row_is k = packed_leaf_row s (item_of q over) c same_cell p.late placed.late k

      pub leaf_row_none : 4 ≤ p.late → vec (λ _. 64 * NONE) ≡ vec (packed_leaf_total s (item_of q over) c)
      leaf_row_none k = packed_leaf_far s (item_of q over) c (omega (arith, placed.late))

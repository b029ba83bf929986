-- What holds of the valid trees of every accepted sheet: how many nodes they have, how much they total, and that there is none or a first
-- of the least. (`Good s` holds of every sheet that a text means: `sheet`'s `GoodLaws.good`. Where their intervals lie is in `Intervals`.)
use Rattle.std.specs.Prelude.{ℕ, ◌+◌, ◌*◌, ◌≤◌, ◌<◌, ◌^◌, ◌≡◌, List, [], ◌∷◌, ◌⊎◌, length}
use Rattle.std.proofs.Common.{inl, inr, arith}
use Rattle.std.proofs.Math.Option.{some}
use Rattle.std.proofs.Math.Decide.{dec_lt}
use Rattle.slices.specs.Every.{Every}
use Rattle.sheet.specs.Sheet.{Sheet}
use Rattle.sheet.specs.Good.{Good}
use Rattle.derivations.specs.Derivation.{Item, Price, derive}
use Rattle.derivations.specs.Bound.{nodes_bound}
use Rattle.derivations.specs.Least.{rules_below, carry_fits}
use Rattle.trees.specs.ValidTrees.{bars, ValidTree, Priced, total_of}
use Rattle.trees.specs.Instance.{instance_of, Derived}
use Rattle.trees.specs.LeastTotal.{NONE, least_total}
use Rattle.trees.specs.Room.{room, Stretch}
use Rattle.trees.proofs.RoomLaws.{room_pays, bars_room, stretch_bars, stretch_front, stretch_expands, stretch_at}
use Rattle.trees.specs.Room.{tree_most}
use Rattle.trees.proofs.RoomLaws.{total_small}
use Rattle.trees.proofs.Laws.{lawful}
use Rattle.trees.proofs.IntervalLaws.{Occurs, bar, part}
use Rattle.trees.specs.LeastTrees.{FirstTree}
use Rattle.trees.proofs.Found.{own_price, first_tree, least_total_below}
use Rattle.trees.proofs.Equivalence.{valid_derived}

-- the numbers of a valid tree are rule numbers; so they are bytes, a sheet having at most 64 rules (of any sheet)
pub valid_bytes : (s : Sheet) (bs : List ℕ) → ValidTree s bs → Every (λ r. r < length s.grammar.rules) bs
unfolding Derived
valid_bytes s bs v =
    let (R, D, p) = own_price s bs v in
    rules_below (lawful s) bs (bars s) 0 _ (valid_derived s bs R D p)

module _ (s : Sheet) (good : Good s) where
  -- at most B + 80 × N nodes, and for a part of a tree no more than its item has room for
  pub node_count : (bs : List ℕ) → ValidTree s bs → length bs ≤ s.playing.bars + 80 * length s.playing.onsets
  unfolding Derived
  node_count bs v =
      let (R, D, p) = own_price s bs v in
      omega (arith, bars_room s, nodes_bound (instance_of s) (room s) (room_pays s good.rules) bs (bars s) 0 _ (valid_derived s bs R D p))

  -- so no tree of any sheet has more than 64 + 80 × 512 bytes
  pub nodes_most : (bs : List ℕ) → ValidTree s bs → length bs ≤ tree_most
  nodes_most bs v = omega (arith, node_count bs v, good.onsets.sixty_four, good.onsets.most)

  pub part_node_count : (bs : List ℕ) (g : Item) (c : ℕ) (p : Price) → derive (instance_of s) bs (g ∷ []) c ≡ some p → length bs ≤ room s g
  part_node_count bs g c p e = omega (arith, nodes_bound (instance_of s) (room s) (room_pays s good.rules) bs (g ∷ []) c p e)

  -- every total is below 2^49; and so is what any part of a tree totals: what is read against an item of the sheet, or any stretch of items
  pub total_below : (bs : List ℕ) (R D : ℕ) → Priced s bs R D → total_of s R D < 2 ^ 49
  unfolding Derived
  total_below bs R D p = total_small s good.rules bs (bars s) 0 _ (stretch_bars s good) (valid_derived s bs R D p)

  stretch_item : (g : Item) → Occurs s g → Stretch s (g ∷ [])
  stretch_item _ (bar g b e) = stretch_at s (bars s) b g e (stretch_bars s good)
  stretch_item _ (part g h c r i m o e k) =
      stretch_at s m.parts i h k
      (stretch_front s m.parts [] (stretch_expands s good.rules g [] c r m e (stretch_item g o)))

  pub part_total_below : (bs : List ℕ) (g : Item) (c : ℕ) (p : Price) → Occurs s g → derive (instance_of s) bs (g ∷ []) c ≡ some p
      → total_of s p.weight p.distance < 2 ^ 49
  part_total_below bs g c p o = total_small s good.rules bs (g ∷ []) c p (stretch_item g o)

  -- the carry never passes 3
  pub carry_at_most_three : (bs : List ℕ) (gs : List Item) (c : ℕ) (p : Price) → derive (instance_of s) bs gs c ≡ some p → c ≤ 3
      → p.carry ≤ 3
  carry_at_most_three bs gs c p e h = omega (arith, carry_fits (lawful s) bs gs c p e (omega arith))

  -- where the least total is the cap, no list of any length is a valid tree
  pub none_valid : NONE ≤ least_total s → (bs : List ℕ) → ValidTree s bs → ⊥
  none_valid h bs v =
      let (R, D, p) = own_price s bs v in
      omega (arith, least_total_below s good.rules bs R D p, total_below bs R D p)

  -- either no list of any length is valid, or one is the first of the least
  pub none_or_first : ((bs : List ℕ) → ValidTree s bs → ⊥) ⊎ ((bs : List ℕ) × (R : ℕ) × (D : ℕ) × FirstTree s bs R D)
  none_or_first = elim (dec_lt (least_total s) NONE) [
    | yes h ↦ let (bs, R, D, f, e) = first_tree s good.rules h in inr (bs, R, D, f)
    | no h ↦ inl (none_valid (omega arith))
  ]

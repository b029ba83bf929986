-- The steps of `write_leaf`: the onsets placed at a leaf stand in a row in the sheet, first those carried in, then the early ones; and the
-- late ones are the last before the next left bound.
use Prim.Native.Nat.{ℕ, ◌+◌, ◌-◌, ◌≤◌}
use mathlib.Core.Path.{◌≡◌, refl, sym, ap, ◌∙◌, subst}
use mathlib.Core.Bool.{true, cond}
use mathlib.Core.List.{List, [], ◌∷◌, ◌++◌, map, append_assoc}
use native.Mathlib.Omega.{arith}
use borrow.Author.Tests.{le-leb}
use lib.ListN.{length, take, drop, length-append, length-map, length-take}
use lib.Seq.{take-add, take_at, take-length, drop_at, drop-drop, length-take-le}
use Rattle.slices.specs.Over.{over_from}
use Rattle.slices.specs.Pad.{length-pad, slice_pad}
use Rattle.hextext.specs.Written.{has_room, LineWritten}
use Rattle.sheet.specs.Sheet.{Onset, Sheet}
use Rattle.sheet.specs.Good.{GoodOnsets}
use Rattle.sheet.specs.Held.{pitch_of}
use Rattle.trees.specs.ValidTrees.{inside, early, late}
use Rattle.trees.specs.Instance.{early_count, late_count}
use Rattle.trees.proofs.Onsets.{early_late, onsets_most, onsets_before_lem}
use Rattle.trees.proofs.OrderLaws.{early_then_late}
use Rattle.trees.proofs.LeafBoundLaws.{early_most}
use Rattle.expansions.specs.declared.Interval.{Interval}
use Rattle.expansions.specs.declared.Placed.{Placed}
use Rattle.expansions.specs.Tables.{last_unit}
use Rattle.expansions.specs.Items.{first_at, Here, PlacedAt}
use Rattle.expansions.specs.Places.{inside_then, first_next}
use Rattle.score.specs.declared.tree.Place.{Place}
use Rattle.score.specs.Score.{leaf_line, score_leaf}
use Rattle.score.specs.ScoreLaws.{leaf_line_bytes}
use Rattle.score.specs.Clauses.{pitch_cells, leaf_over, LineHeld, carried_into, StandsAt, entry_at, leaf_text, LeafPre, LeafWritten}

-- ---- lists

map-drop : {A B : Type 0} (f : A → B) (i : ℕ) (xs : List A) → drop i (map f xs) ≡ map f (drop i xs)
map-drop f ℕ.zero xs = refl
map-drop f (ℕ.suc i) [] = refl
map-drop f (ℕ.suc i) (x ∷ xs) = map-drop f i xs

map-take : {A B : Type 0} (f : A → B) (i : ℕ) (xs : List A) → take i (map f xs) ≡ map f (take i xs)
map-take f ℕ.zero xs = refl
map-take f (ℕ.suc i) [] = refl
map-take f (ℕ.suc i) (x ∷ xs) = ap (f x ∷◌) (map-take f i xs)

-- ---- onsets in a row

module _ (s : Sheet) (good : GoodOnsets s.playing) (left len : ℕ) (within : left + len ≤ last_unit) where
  abbrev os : List Onset
  os = s.playing.onsets

  abbrev behind : List Onset
  behind = drop (first_at s (left + len)) os

  -- from the left bound on there are the early ones, then the late ones, then those behind the interval
  in_order_lem : drop (first_at s left) os ≡ early s left len ++ (late s left len ++ behind)
  unfolding inside
  in_order_lem =
      inside_then s good left len within ∙ ap (◌++ behind) (sym (early_then_late s left len 0 good.rising))
      ∙ append_assoc (early s left len) (late s left len) behind

  early_size : length (early s left len) ≡ early_count s left len
  unfolding early_count
  early_size = refl

  late_size : length (late s left len) ≡ late_count s left len
  unfolding late_count
  late_size = refl

  early_row : take (early_count s left len) (drop (first_at s left) os) ≡ early s left len
  early_row = rw in_order_lem (take_at (early s left len) _ (early_count s left len) early_size)

  late_row : take (late_count s left len) (drop (first_at s left + early_count s left len) os) ≡ late s left len
  late_row =
      let e = early_count s left len in
      rw (← drop-drop e (first_at s left) os, in_order_lem, drop_at (early s left len) _ e early_size)
      (take_at (late s left len) behind (late_count s left len) late_size)

  -- those carried in, and then the early ones, stand in a row
  placed_row : (c : ℕ) → c ≤ first_at s left
      → take (c + early_count s left len) (drop (first_at s left - c) os)
      ≡ take c (drop (first_at s left - c) os) ++ early s left len
  placed_row c h =
      let f = first_at s left in
      let back : f - c + c ≡ f = omega arith in
      take-add c (early_count s left len) (drop (f - c) os)
      ∙ ap (λ xs. take c (drop (f - c) os) ++ take (early_count s left len) xs) (drop-drop c (f - c) os ∙ ap (λ i. drop i os) back)
      ∙ ap (take c (drop (f - c) os) ++◌) early_row

  -- the place of the first onset behind the interval
  first_behind_is : first_at s (left + len) ≡ first_at s left + (early_count s left len + late_count s left len)
  first_behind_is = first_next s good left len ∙ ap (first_at s left +◌) (sym (early_late s left len))

-- ---- a leaf's line

-- the place behind a leaf
abbrev pub behind_leaf : Place → Placed → (to : ℕ) → Place
behind_leaf p x to = record { at = p.at; from = p.from + x.early + x.late; carried = x.late; to = to }

module _ {s : Sheet} {us ps : List ℕ} {over : Interval} {n : ℕ} {p : Place} {score : List ℕ} (h : LeafPre s us ps over n p score) where
  abbrev left : ℕ
  left = over.left.0

  abbrev len : ℕ
  len = over.len.0

  good : GoodOnsets s.playing
  good = h.onsets.units.good

  within : left + len ≤ last_unit
  within = omega (arith, h.in_bar_lem.below, h.in_bar_lem.ends, good.sixty_four)

  pub here : Here s us over p.from
  here = record { onsets = h.onsets.units; within = within; first = h.stands.first }

  pub cells_size : length ps ≡ 512
  unfolding pitch_cells
  cells_size = ap length h.onsets.pitches ∙ length-pad 512 0 (map pitch_of s.playing.onsets)

  module _ (x : Placed) (e : PlacedAt s over x) where
    -- how many are placed, and where they end
    pub few_placed : p.carried + x.early ≤ 35
    unfolding early_count
    few_placed = omega (arith, h.stands.few, e.early, early_most s good left len h.in_bar_lem)

    next_first : p.from + x.early + x.late ≡ first_at s (left + len)
    next_first = omega (arith, h.stands.first, e.early, e.late, first_behind_is s good left len within)

    pub in_table : p.from + x.early + x.late ≤ 512
    in_table = omega (arith, next_first, onsets_before_lem s (left + len), onsets_most s 0 (left + len), good.most)

    pub placed_in_table : p.from - p.carried + (p.carried + x.early) ≤ 512
    placed_in_table = omega (arith, in_table, h.stands.before)

    pitches_placed : take (p.carried + x.early) (drop (p.from - p.carried) ps)
        ≡ map pitch_of (carried_into s p ++ early s left len)
    unfolding pitch_cells
    pitches_placed =
        let k = p.carried + x.early in
        let i = p.from - p.carried in
        let os = s.playing.onsets in
        let all : i + k ≤ length os =
        omega (arith, next_first, onsets_before_lem s (left + len), onsets_most s 0 (left + len), h.stands.before) in
        let first : p.carried ≤ first_at s left = omega (arith, h.stands.before, h.stands.first) in
        let row : take k (drop i os) ≡ carried_into s p ++ early s left len =
        rw (e.early, h.stands.first) (placed_row s good left len within p.carried first) in
        rw h.onsets.pitches
        (slice_pad 512 0 (map pitch_of os) i k (omega (arith, length-map os pitch_of, good.most)) (omega (arith, length-map os pitch_of, all))
        ∙ ap (take k) (map-drop pitch_of i os) ∙ map-take pitch_of k (drop i os) ∙ ap (map pitch_of) row)

    module _ {count : ℕ} {bytes : List ℕ}
        (is : LineHeld (leaf_line (leaf_over over n (take (p.carried + x.early) (drop (p.from - p.carried) ps)))) count bytes) where
      held : LineHeld (leaf_line (score_leaf (entry_at s over n p))) count bytes
      held = subst (λ l. LineHeld l count bytes) (ap (λ xs. leaf_line (leaf_over over n xs)) pitches_placed) is

      size : length (leaf_line (score_leaf (entry_at s over n p))) ≤ 44
      size =
          omega (
            arith,
            leaf_line_bytes (score_leaf (entry_at s over n p)),
            length-map (carried_into s p ++ early s left len) pitch_of,
            length-append (carried_into s p) (early s left len),
            length-take p.carried (drop (p.from - p.carried) s.playing.onsets),
            early_size s good left len within,
            few_placed,
            e.early,
          )

      bytes_are : take count bytes ≡ leaf_line (score_leaf (entry_at s over n p))
      bytes_are =
          let l = leaf_line (score_leaf (entry_at s over n p)) in
          ap (λ k. take k bytes) held.size ∙ ap (take (length l)) held.cells ∙ slice_pad 44 0 l 0 (length l) size (omega arith)
          ∙ take-length l

      array_size : length bytes ≡ 44
      array_size = ap length held.cells ∙ length-pad 44 0 (leaf_line (score_leaf (entry_at s over n p)))

      pub count_within : count ≤ length bytes
      count_within = omega (arith, held.size, size, array_size)

      pub count_is : count ≡ length (take count bytes)
      count_is = sym (length-take-le count bytes count_within)

      stands_behind : (to : ℕ) → StandsAt s (left + len) (behind_leaf p x to)
      stands_behind to =
          record { first = next_first; before = omega arith; few = omega (arith, e.late, h.few_late) }

      carried_behind : (to : ℕ) → carried_into s (behind_leaf p x to) ≡ late s left len
      carried_behind to =
          let os = s.playing.onsets in
          let back : p.from + x.early + x.late - x.late ≡ first_at s left + early_count s left len =
          omega (arith, h.stands.first, e.early) in
          ap (λ i. take x.late (drop i os)) back ∙ ap (λ k. take k (drop (first_at s left + early_count s left len) os)) e.late
          ∙ late_row s good left len within

      pub leaf_written : (to : ℕ) (score' : List ℕ) → LineWritten (take count bytes) p.to score score' to
          → LeafWritten s over n p (behind_leaf p x to) score score'
      unfolding has_room
      leaf_written to score' w =
          let text = leaf_text s over n p in
          let fits : has_room (leaf_line (score_leaf (entry_at s over n p))) p.to score ≡ true = le-leb _ _ h.room in
          let v : LineWritten (leaf_line (score_leaf (entry_at s over n p))) p.to score score' to = rw bytes_are at w in
          record {
            at = refl;
            stands = stands_behind to;
            carried = e.late;
            into = carried_behind to;
            to = v.end ∙ ap (λ b. cond b (p.to + length text) p.to) fits;
            text = v.text ∙ ap (λ b. cond b (over_from p.to text score) score) fits;
          }

-- How large the fields of a valid tree's leaves are: each leaf lies in one bar, and at most 35 onsets are placed at it, since a bar of an
-- accepted sheet has at most 32 and at most three are carried in. So a leaf's fields fit the bytes that a score line has for them.
use Rattle.std.specs.Prelude.{ℕ, ◌+◌, ◌*◌, ◌/◌, ◌%◌, ◌≤◌, ◌<◌, ◌≡◌, refl, Bool, true, false, cond, eqb, length, replicate}
use mathlib.Core.List.{List, [], ◌∷◌, ◌++◌}
use Rattle.std.proofs.Common.{mod-lt, div-add-mod', mul-le-mul_right, suc-mul, eq-eqb, length-append}
use native.Mathlib.Omega.{arith}
use Rattle.std.proofs.Math.ListN.{length-replicate}
use Rattle.slices.specs.Every.{Every, every_append}
use Rattle.sheet.specs.Sheet.{Onset, Sheet, bar_units, bar_of, in_bar}
use Rattle.sheet.specs.Good.{GoodOnsets}
use Rattle.derivations.specs.Derivation.{Item}
use Rattle.trees.specs.ValidTrees.{Forest, whose, contains, inside, early, late, bars, Leaf, by_leaf, by_division}
use Rattle.trees.specs.ValidTrees.{ParsedAll, empty_forest, next_tree, placed_from, FewLate, ValidTree}
use Rattle.trees.specs.Instance.{onsets_in, early_count}
use Rattle.trees.specs.Expansions.{may_divide_lem, parts_whole}
use Rattle.trees.proofs.Onsets.{contains_bounds, early_late}
use Rattle.trees.proofs.Laws.{adjoining_every, part_of}
use Rattle.trees.specs.Leaves.{leaves_of, entries_of}
use Rattle.trees.proofs.LeafLaws.{leaves_of_lem}
use Rattle.trees.specs.LeafBounds.{InOneBar, ItemInOneBar, LeafInOneBar, EntryBounds}

-- ---- onsets of an interval and of its bar

-- an interval of bar b has no more onsets than the bar
pub in_bar_most : (l n b : ℕ) → b * bar_units ≤ l → l + n ≤ b * bar_units + bar_units → (os : List Onset)
    → length (whose (contains l n) os) ≤ in_bar b os
unfolding whose in_bar
in_bar_most l n b h k [] = omega arith
in_bar_most l n b h k (o ∷ os) = go (contains l n o.unit) refl (in_bar_most l n b h k os)
  where
    u : ℕ
    u = o.unit

    in_bar_lem : contains l n u ≡ true → bar_of u ≡ b
    in_bar_lem e =
        let (lo, hi) = contains_bounds l n u e in
        let m : u % bar_units < bar_units = mod-lt u (omega arith) in
        omega (arith, lo, hi, m, div-add-mod' u bar_units)

    go : (c : Bool) → contains l n u ≡ c → length (whose (contains l n) os) ≤ in_bar b os
        → length (cond c (o ∷ whose (contains l n) os) (whose (contains l n) os)) ≤ cond (eqb (bar_of u) b) 1 0 + in_bar b os
    go true e ih = rw (eq-eqb (bar_of u) b (in_bar_lem e)) (omega arith)
    go false e ih = omega arith

module _ (s : Sheet) where
  -- ---- where leaves lie

  pub part_in_bar : (g : Item) (k j q : ℕ) → ItemInOneBar s g → g.len % k ≡ 0 → j < k → ItemInOneBar s (part_of g k j q)
  part_in_bar g k j q a z h =
      let p = g.len / k in
      record {
        bar = a.bar;
        below = a.below;
        begins = omega (arith, a.begins);
        ends = omega (arith, a.ends, parts_whole k g.len z, mul-le-mul_right p h, suc-mul j p);
      }

  -- the leaves of a forest lie in one bar each if its items do
  forest_in_bars : {ts : Forest} {gs : List Item} {ls : List Leaf} → ParsedAll s ts gs ls → Every (ItemInOneBar s) gs
      → Every (LeafInOneBar s) ls
  forest_in_bars p =
      elim p as (λ t g ls q. ItemInOneBar s g → Every (LeafInOneBar s) ls)
      (λ ts gs ls q. Every (ItemInOneBar s) gs → Every (LeafInOneBar s) ls) [
        | by_leaf r h w n g e f ↦ λ a. (a, tt)
        | by_division r h w ks g ts ls e f d (q → ih) ↦ λ a.
            let k = length ks in
            ih (adjoining_every (ItemInOneBar s) g.left (g.len / k) ks
            (λ j x i. part_in_bar g k j x a (may_divide_lem s k g.left g.len d).0 i))
        | empty_forest ↦ λ a. tt
        | next_tree t g ls ts gs ms (q → ih) (qs → ihs) ↦ λ a. every_append (LeafInOneBar s) ls ms (ih a.0) (ihs a.1)
      ]

  bars_in_bars : Every (ItemInOneBar s) (bars s)
  unfolding bars
  bars_in_bars =
      let n = s.playing.bars in
      adjoining_every (ItemInOneBar s) 0 bar_units (replicate n s.grammar.start)
      (λ j q h. record {
        bar = j;
        below = omega (arith, h, length-replicate n s.grammar.start);
        begins = omega arith;
        ends = omega arith;
      })

  -- ---- what is placed at them

  module _ (good : GoodOnsets s.playing) where
    pub early_most : (l n : ℕ) → InOneBar s l n → length (early s l n) ≤ 32
    unfolding onsets_in early_count inside
    early_most l n a =
        omega (
          arith,
          early_late s l n,
          in_bar_most l n a.bar a.begins a.ends s.playing.onsets,
          good.few a.bar,
        )

    entries_bounded : (cs : List Onset) (ls : List Leaf) → length cs ≤ 3 → Every (FewLate s) ls → Every (LeafInOneBar s) ls
        → Every (EntryBounds s) (placed_from s cs ls)
    unfolding placed_from
    entries_bounded cs [] h f a = tt
    entries_bounded cs (l ∷ ls) h f a = (here a.0, entries_bounded (late s l.left l.len) ls f.0 f.1 a.1)
      where
        soon : List Onset
        soon = early s l.left l.len

        here : LeafInOneBar s l → EntryBounds s (record { leaf = l; placed = cs ++ soon })
        here b =
            record {
              ends = omega (arith, b.below, b.ends);
              short = omega (arith, b.begins, b.ends);
              few_placed = omega (arith, length-append cs soon, early_most l.left l.len b);
            }

  -- ---- the leaves of a valid tree

  module _ (bs : List ℕ) (v : ValidTree s bs) where
    -- each leaf lies in one bar
    pub leaves_in_bars : Every (LeafInOneBar s) (leaves_of s bs)
    leaves_in_bars = rw leaves_of_lem at (forest_in_bars v.parsed bars_in_bars)

    -- and its fields are bounded
    pub entry_bounds : GoodOnsets s.playing → Every (EntryBounds s) (entries_of s bs)
    entry_bounds good =
        entries_bounded good [] (leaves_of s bs) (omega arith) (rw leaves_of_lem at v.few_late) leaves_in_bars

-- The steps of `place`: what is counted and what is left of the onsets inside an interval.
use Prim.Native.Nat.{ℕ, suc, ◌+◌, ◌-◌, ◌*◌, ◌≤◌, ◌<◌}
use mathlib.Core.Path.{◌≡◌, sym, ap, ◌∙◌}
use mathlib.Core.Bool.{Bool, true, false, not}
use mathlib.Core.List.{List, [], ◌∷◌, ◌++◌}
use native.Mathlib.Nat.{mul-le-mul}
use native.Mathlib.Decide.{dec_lt}
use native.Mathlib.Omega.{arith}
use borrow.Author.Tests.{lt-ltb, le-ltb}
use lib.ListN.{length, drop, get_or, length-drop}
use lib.Seq.{drop-drop}
use Rattle.slices.specs.Every.{Every}
use Rattle.sheet.specs.Sheet.{Onset, Sheet}
use Rattle.trees.specs.ValidTrees.{whose, is_early, inside, early, late, distance_to}
use Rattle.trees.specs.Instance.{onsets_in, early_count, late_count, own_distance}
use Rattle.trees.proofs.Onsets.{onsets_most, onsets_before_lem, early_late, inside_bounds, own_distance_most}
use Rattle.expansions.specs.Items.{interval, first_at, Here, PlacedAt}
use Rattle.expansions.specs.Places.{unit_from, cell_is, inside_then, first_behind}

abbrev is_late : (left len unit : ℕ) → Bool
is_late left len u = not (is_early left len u)

-- of the onsets inside, `rest` are left from place i on; e early, l late and the distance d are counted
pub record Left (s : Sheet) (left len i e l d : ℕ) (rest : List Onset) : Type 0 where
  pub in_list : i ≤ length s.playing.onsets
  pub place : drop i s.playing.onsets ≡ rest ++ drop (first_at s (left + len)) s.playing.onsets
  pub bounds : Every (λ (o : Onset). (left ≤ o.unit) × (o.unit < left + len)) rest
  pub soon : e + length (whose (is_early left len) rest) ≡ early_count s left len
  pub behind : l + length (whose (is_late left len) rest) ≡ late_count s left len
  pub far : d + (distance_to left (whose (is_early left len) rest) + distance_to (left + len) (whose (is_late left len) rest))
      ≡ own_distance s left len

abbrev pub Counted : Sheet → (left len i e l d : ℕ) → Type 0
Counted s left len i e l d = (rest : List Onset) × Left s left len i e l d rest

-- a sheet has at most 512 onsets, and an interval of the longest piece 1,290,240 units
pub record Small (i e l d : ℕ) : Type 0 where
  pub place : i ≤ 512
  pub early : e ≤ 512
  pub late : l ≤ 512
  pub distance : d ≤ 660602880

-- the onset at place i, of unit u, is inside: it is the first of those left
pub record Next (s : Sheet) (left len i e l d u : ℕ) : Type 0 where
  pub low : left ≤ u
  pub in_table : i < 512
  pub if_early : 2 * (u - left) < len → Counted s left len (i + 1) (e + 1) l (d + (u - left))
  pub if_late : len ≤ 2 * (u - left) → Counted s left len (i + 1) e (l + 1) (d + (left + len - u))

module _ {s : Sheet} {us : List ℕ} {left len from : ℕ} (h : Here s us (interval left len) from) where
  pub none_counted : Counted s left len from 0 0 0
  unfolding early_count late_count own_distance early late inside
  none_counted = (
    inside s left len,
    record {
      in_list = omega (arith, h.first, onsets_before_lem s left, onsets_most s 0 left);
      place = ap (λ n. drop n s.playing.onsets) h.first ∙ inside_then s h.onsets.good left len h.within;
      bounds = inside_bounds s left len;
      soon = omega arith;
      behind = omega arith;
      far = omega arith;
    },
  )

  pub counts_small : (i e l d : ℕ) → Counted s left len i e l d → Small i e l d
  counts_small i e l d (rest, c) =
      let n = onsets_in s left len in
      let few : n ≤ 512 = omega (arith, onsets_most s left len, h.onsets.good.most) in
      let most : len * n ≤ 1290240 * 512 = mul-le-mul {n₂ = 1290240} (omega (arith, h.within)) few in
      let own = own_distance_most s left len in
      record {
        place = omega (arith, c.in_list, h.onsets.good.most);
        early = omega (arith, c.soon, early_late s left len);
        late = omega (arith, c.behind, early_late s left len);
        distance = omega (arith, c.far);
      }

  -- what the table holds at place i
  unit_is : (i : ℕ) → i ≤ length s.playing.onsets → get_or us i 0 ≡ unit_from (drop i s.playing.onsets)
  unit_is i k = ap (λ xs. get_or xs i 0) h.onsets.cells ∙ cell_is s.playing i (omega (arith, h.onsets.good.most))

  pub next_counted : (i e l d : ℕ) → Counted s left len i e l d → get_or us i 0 < left + len → Next s left len i e l d (get_or us i 0)
  unfolding whose distance_to
  next_counted i e l d ([], c) k =
      absurd (omega (arith, unit_is i c.in_list, ap unit_from c.place, first_behind s h.onsets.good (left + len) h.within))
  next_counted i e l d (o ∷ rest, c) k =
      let os = s.playing.onsets in
      let more = drop (first_at s (left + len)) os in
      let here : get_or us i 0 ≡ o.unit = unit_is i c.in_list ∙ ap unit_from c.place in
      let size : length os - i ≡ suc (length (rest ++ more)) = sym (length-drop i os) ∙ ap length c.place in
      let later : drop (i + 1) os ≡ rest ++ more = sym (drop-drop 1 i os) ∙ ap (drop 1) c.place in
      record {
        low = omega (arith, c.bounds.0.0);
        in_table = omega (arith, h.onsets.good.most);
        if_early = λ t.
            let q : is_early left len o.unit ≡ true = lt-ltb (2 * (o.unit - left)) len (rw here at t) in (
              rest,
              record {
                in_list = omega arith;
                place = later;
                bounds = c.bounds.1;
                soon = omega (arith, rw q at c.soon);
                behind = rw q at c.behind;
                far = omega (arith, rw q at c.far, c.bounds.0.0);
              },
            );
        if_late = λ t.
            let q : is_early left len o.unit ≡ false = le-ltb (2 * (o.unit - left)) len (rw here at t) in (
              rest,
              record {
                in_list = omega arith;
                place = later;
                bounds = c.bounds.1;
                soon = rw q at c.soon;
                behind = omega (arith, rw q at c.behind);
                far = omega (arith, rw q at c.far, c.bounds.0.1);
              },
            );
      }

  -- the onset at place i is behind the interval: none is left
  pub all_counted : (i e l d : ℕ) → Counted s left len i e l d → left + len ≤ get_or us i 0
      → PlacedAt s (interval left len) (record { early = e; late = l; distance = d })
  unfolding whose distance_to
  all_counted i e l d ([], c) k =
      record { early = omega (arith, c.soon); late = omega (arith, c.behind); distance = omega (arith, c.far) }
  all_counted i e l d (o ∷ rest, c) k = absurd (omega (arith, unit_is i c.in_list, ap unit_from c.place, c.bounds.0.1))

  -- the first onset at or behind the left bound is before the right bound where one lies inside, and nowhere else
  pub some_inside : get_or us from 0 < left + len → 0 < onsets_in s left len
  some_inside k = go (dec_lt (2 * (get_or us from 0 - left)) len) (next_counted from 0 0 0 none_counted k)
    where
      go : Dec (2 * (get_or us from 0 - left) < len) → Next s left len from 0 0 0 (get_or us from 0) → 0 < onsets_in s left len
      go (yes t) n = omega (arith, (n.if_early t).1.soon, early_late s left len)
      go (no t) n = omega (arith, (n.if_late (omega arith)).1.behind, early_late s left len)

  pub none_inside : left + len ≤ get_or us from 0 → onsets_in s left len ≡ 0
  none_inside k = let p = all_counted from 0 0 0 none_counted k in omega (arith, p.early, p.late, early_late s left len)

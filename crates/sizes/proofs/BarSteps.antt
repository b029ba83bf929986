-- Steps of counting the onsets of a bar, onset after onset.
use Prim.Native.Nat.{ℕ, zero, suc, ◌+◌, ◌*◌, max, ◌<◌, ◌≤◌}
use mathlib.Core.Path.{◌≡◌, refl, sym, ap, ◌∙◌}
use mathlib.Core.List.{List, [], ◌∷◌, ◌++◌, map}
use native.Mathlib.Numerals.{add-one}
use native.Mathlib.Nat.{div-lt_iff_lt-mul}
use native.Mathlib.Omega.{arith}
use lib.ListN.{length, get_or, take, drop, get_or-map}
use lib.Seq.{take-suc, take_all, drop-cons}
use borrow.Author.Tests.{eq-eqb, ne_eqb}
use Rattle.slices.specs.Every.{every_in}
use Rattle.slices.specs.Pad.{get_or-pad}
use Rattle.sheet.specs.declared.clock.Units.{Units}
use Rattle.sheet.specs.declared.table.PlayingTable.{PlayingTable}
use Rattle.sheet.specs.Sheet.{Onset, Playing, bar_units, bar_of, in_bar}
use Rattle.sheet.specs.Held.{playing_table, units, units_of}
use Rattle.sheet.specs.Good.{Rising, GoodOnsets}
use Rattle.sheet.specs.Clock.{div_mono}
use Rattle.sheet.proofs.GoodLines.{in_bar_more}
use Rattle.sizes.specs.Sizes.{largest, most_in_bar}
use Rattle.sizes.specs.Members.{by_equal}

-- in its bar there is one more
in_bar_here : (b : ℕ) (os : List Onset) (o : Onset) → bar_of o.unit ≡ b → in_bar b (os ++ (o ∷ [])) ≡ in_bar b os + 1
in_bar_here b os o e = in_bar_more b os o ∙ simp (eq-eqb (bar_of o.unit) b e)

-- in every other bar as many
in_bar_other : (b : ℕ) (os : List Onset) (o : Onset) → (bar_of o.unit ≡ b → ⊥) → in_bar b (os ++ (o ∷ [])) ≡ in_bar b os
in_bar_other b os o n = in_bar_more b os o ∙ simp (ne_eqb (bar_of o.unit) b n) (omega arith)

-- the largest of zeros
largest_zero : (n : ℕ) → largest (λ (b : ℕ). 0) n ≡ 0
unfolding largest
largest_zero zero = refl
largest_zero (suc n) = omega (arith, largest_zero n)

-- the largest of equal numbers
largest_same : (f g : ℕ → ℕ) (n : ℕ) → ((k : ℕ) → k < n → g k ≡ f k) → largest g n ≡ largest f n
unfolding largest
largest_same f g zero e = refl
largest_same f g (suc n) e = omega (arith, largest_same f g n (λ k h. e k (omega arith)), e n (omega arith))

-- the largest where one number, at b, has grown
largest_more : (f g : ℕ → ℕ) (n b : ℕ) → b < n → ((k : ℕ) → (b ≡ k → ⊥) → g k ≡ f k) → f b ≤ g b → largest g n ≡ max (largest f n) (g b)
unfolding largest
largest_more f g zero b h e m = let w : ⊥ = omega arith in absurd w
largest_more f g (suc n) b h e m =
    by_equal b n
    (λ q. omega (arith, largest_same f g n (λ k l. e k (λ w. omega arith)), ap g q, ap f q))
    (λ q. omega (arith, largest_more f g n b (omega arith) e m, e n q))

-- the first i onsets have been looked at: the last of them is in `bar`, which has `run` of them, and the most in a bar is `most`
pub record Counted (p : Playing) (most run bar i : ℕ) : Type 0 where
  pub last : ℕ
  pub last_bar : bar ≡ bar_of last
  pub rising : Rising last (drop i p.onsets)
  pub here : run ≡ in_bar bar (take i p.onsets)
  pub later : (b : ℕ) → bar < b → in_bar b (take i p.onsets) ≡ 0
  pub so_most : most ≡ largest (λ (b : ℕ). in_bar b (take i p.onsets)) p.bars

-- o is the onset at place i, at no earlier unit than `last`
record OnsetAt (p : Playing) (last i : ℕ) (o : Onset) : Type 0 where
  front : take (i + 1) p.onsets ≡ take i p.onsets ++ (o ∷ [])
  inside : o.unit < p.bars * bar_units
  rises : last ≤ o.unit
  rising : Rising o.unit (drop (i + 1) p.onsets)

-- the run and its bar before an onset of bar b is counted: as they were, or a run of none in another bar
pub record RunAt (run bar b run₁ bar₁ : ℕ) : Type 0 where
  pub now : bar₁ ≡ b
  pub same : b ≡ bar → run₁ ≡ run
  pub other : (b ≡ bar → ⊥) → run₁ ≡ 0

-- b is the bar of the run
pub run_stays : {run bar b run₁ bar₁ : ℕ} → b ≡ bar → run₁ ≡ run → bar₁ ≡ bar → RunAt run bar b run₁ bar₁
run_stays e r k = record { now = k ∙ sym e; same = λ q. r; other = λ n. absurd (n e) }

-- b is another
pub run_starts : {run bar b run₁ bar₁ : ℕ} → (b ≡ bar → ⊥) → run₁ ≡ 0 → bar₁ ≡ b → RunAt run bar b run₁ bar₁
run_starts n r k = record { now = k; same = λ q. absurd (n q); other = λ q. r }

-- an onset o of bar b is next
module _ {p : Playing} {most run bar i : ℕ} (c : Counted p most run bar i) (o : Onset) (at : OnsetAt p c.last i o)
    (b run₁ bar₁ : ℕ) (is : b ≡ bar_of o.unit) (runs : RunAt run bar b run₁ bar₁) where
  -- its bar is no earlier one
  no_earlier : bar ≤ b
  no_earlier = rw (is, c.last_bar) (div_mono 20160 (omega arith) at.rises)

  -- and before the end
  bar_inside : b < p.bars
  bar_inside = rw is ((div-lt_iff_lt-mul {k = 20160} (omega arith)).1 at.inside)

  -- the run is what its bar has before it
  run_before : run₁ ≡ in_bar b (take i p.onsets)
  run_before =
      by_equal b bar
      (λ e. runs.same e ∙ c.here ∙ ap (λ (k : ℕ). in_bar k (take i p.onsets)) (sym e))
      (λ n. runs.other n ∙ sym (c.later b (omega (arith, no_earlier, n))))

  -- it is counted
  counted_next : (most₁ : ℕ) → most₁ ≡ max most (run₁ + 1) → Counted p most₁ (run₁ + 1) bar₁ (i + 1)
  counted_next most₁ m =
      let os = take i p.onsets in
      let here : in_bar b (os ++ (o ∷ [])) ≡ run₁ + 1 = in_bar_here b os o (sym is) ∙ ap (λ (n : ℕ). n + 1) (sym run_before) in
      record {
        last = o.unit;
        last_bar = runs.now ∙ is;
        rising = at.rising;
        here = rw (at.front, runs.now) (sym here);
        later = λ k h.
            rw at.front
            (in_bar_other k os o (λ q. omega (arith, is, runs.now)) ∙ c.later k (omega (arith, no_earlier, runs.now)));
        so_most =
            rw at.front
            (omega (
              arith,
              m,
              c.so_most,
              here,
              largest_more (λ (k : ℕ). in_bar k os) (λ (k : ℕ). in_bar k (os ++ (o ∷ []))) p.bars b bar_inside
                  (λ k n. in_bar_other k os o (λ q. n (is ∙ q))) (omega (arith, in_bar_here b os o (sym is))),
            ));
      }

-- of any good playing that the table holds
abbrev pub CountedOf : (t : PlayingTable) (most run bar i : ℕ) → Type 0
CountedOf t most run bar i = (p : Playing) → GoodOnsets p → t ≡ playing_table p → Counted p most run bar i

-- no onset has been looked at
pub counted_none : (t : PlayingTable) → CountedOf t 0 0 0 0
unfolding in_bar
counted_none t p good e =
    record {
      last = 0;
      last_bar = refl;
      rising = good.rising;
      here = refl;
      later = λ b h. refl;
      so_most = sym (largest_zero p.bars);
    }

-- the onset that a place's zero is the unit of
abbrev zero_onset : Onset
zero_onset = record { unit = 0; pitch = 0 }

module _ (t : PlayingTable) (most run bar i : ℕ) (so_far : CountedOf t most run bar i) where
  -- every onset has
  pub counted_all : t.count ≤ i → (p : Playing) → GoodOnsets p → t ≡ playing_table p → most ≡ most_in_bar p
  unfolding playing_table most_in_bar
  counted_all l p good e =
      (so_far p good e).so_most
      ∙ ap (λ (os : List Onset). largest (λ (b : ℕ). in_bar b os) p.bars)
      (take_all i p.onsets (omega (arith, ap (λ (x : PlayingTable). x.count) e)))

  -- one onset more
  pub counted_more : i < t.count → (run₁ bar₁ most₁ : ℕ) → RunAt run bar (bar_of (get_or t.units i (units 0)).0) run₁ bar₁
      → most₁ ≡ max most (run₁ + 1) → CountedOf t most₁ (run₁ + 1) bar₁ (i + 1)
  unfolding playing_table
  counted_more within run₁ bar₁ most₁ runs m p good e =
      let c = so_far p good e in
      let os = p.onsets in
      let o = get_or os i zero_onset in
      let l : i < length os = omega (arith, ap (λ (x : PlayingTable). x.count) e) in
      let unit : get_or t.units i (units 0) ≡ units_of o =
      ap (λ (x : PlayingTable). get_or x.units i (units 0)) e
      ∙ get_or-pad 512 (units 0) (map units_of os) i (omega (arith, good.most))
      ∙ get_or-map units_of os i zero_onset in
      let next : drop i os ≡ o ∷ drop (i + 1) os = rw add-one (drop-cons os i zero_onset l) in
      let rises : Rising c.last (o ∷ drop (i + 1) os) = rw next at c.rising in
      let at : OnsetAt p c.last i o =
      record {
        front = rw add-one (take-suc os i zero_onset l);
        inside = every_in (λ (x : Onset). x.unit < p.bars * bar_units) os i zero_onset l good.below;
        rises = rises.0;
        rising = rises.1;
      } in
      counted_next c o at (bar_of (get_or t.units i (units 0)).0) run₁ bar₁ (ap (λ (x : Units). bar_of x.0) unit) runs most₁ m

-- Laws of bar lines: the bar of a moment is where its line is not after it and the next one is (`bar_at_lem`, `bar_of_lem`); units rise with
-- moments (`unit_in_mono`), and reach the end half a unit before the last line (`end_reached`, `end_not_reached`).
use Rattle.std.specs.Prelude.{ℕ, zero, suc, ◌+◌, ◌-◌, ◌*◌, ◌≤◌, ◌<◌, ◌≡◌, refl, List, [], ◌∷◌, length, get_or}
use Rattle.std.proofs.Math.Path.{ap}
use Rattle.std.proofs.Common.{◌∙◌, arith, lt_of_mul-lt-mul_right, le-leb}
use Rattle.std.proofs.Math.Decide.{dec_le}
use Rattle.std.proofs.lemmas.Bool.{lt-leb}
use Rattle.sheet.specs.Sheet.{Timing, bar_units, unit_of, line_at, lasting, end_of, begun, bar_at, unit_within, unit_in, bar_of}
use Rattle.sheet.specs.Good.{GoodSteps, GoodTiming}
use Rattle.sheet.specs.Nearest.{unit_rounded, rounded_unit}
use Rattle.sheet.specs.Clock.{unit_mono, first_past_end, bar_reached, bar_not_reached}

-- ---- how many of some numbers are not above t

begun_none : (ls : List ℕ) (t : ℕ) → ((i : ℕ) → i < length ls → t < get_or ls i 0) → begun ls t ≡ 0
unfolding begun
begun_none [] t h = refl
begun_none (l ∷ ls) t h = simp (lt-leb l t (h 0 (omega arith)), begun_none ls t (λ i k. h (suc i) (omega arith)))

begun_some : (ls : List ℕ) (t b : ℕ) → b < length ls → ((i : ℕ) → i ≤ b → get_or ls i 0 ≤ t)
    → ((i : ℕ) → b < i → i < length ls → t < get_or ls i 0) → begun ls t ≡ b + 1
unfolding begun
begun_some [] t b some low high = let f : ⊥ = omega arith in absurd f
begun_some (l ∷ ls) t zero some low high =
    simp (le-leb l t (low 0 (omega arith)), begun_none ls t (λ i k. high (suc i) (omega arith) (omega arith)))
begun_some (l ∷ ls) t (suc b) some low high =
    let rest = begun_some ls t b (omega arith) (λ i k. low (suc i) (omega arith)) (λ i k m. high (suc i) (omega arith) (omega arith)) in
    simp (le-leb l t (low 0 (omega arith)), rest) (omega arith)

-- ---- bar lines, each after the one before

abbrev pub Rising : List ℕ → Type 0
Rising ls = (i : ℕ) → i + 1 < length ls → get_or ls i 0 < get_or ls (i + 1) 0

module _ (ls : List ℕ) (up : Rising ls) where
  rising_to : (i k : ℕ) → i + k < length ls → get_or ls i 0 + k ≤ get_or ls (i + k) 0
  rising_to i zero h = let e = ap (λ j. get_or ls j 0) (add-zero i) in omega (arith, e)
    where
      add-zero : (i : ℕ) → i + 0 ≡ i
      add-zero i = omega arith
  rising_to i (suc k) h =
      let m = rising_to i k (omega arith) in
      let n = up (i + k) (omega arith) in
      let e : get_or ls (i + k + 1) 0 ≡ get_or ls (i + suc k) 0 = ap (λ j. get_or ls j 0) (omega arith) in
      omega (arith, m, n, e)

  -- a later line is later
  pub rising_at : (i j : ℕ) → i ≤ j → j < length ls → get_or ls i 0 + (j - i) ≤ get_or ls j 0
  rising_at i j h k =
      let m = rising_to i (j - i) (omega arith) in
      let e : get_or ls (i + (j - i)) 0 ≡ get_or ls j 0 = ap (λ n. get_or ls n 0) (omega arith) in
      omega (arith, m, e)

-- ---- the bar of a moment

module _ (timing : Timing) (bars : ℕ) (count : length timing.bar_lines ≡ bars + 1) (up : Rising timing.bar_lines) where
  abbrev line : ℕ → ℕ
  line i = line_at timing i

  pub lines_up : (i j : ℕ) → i ≤ j → j ≤ bars → line i + (j - i) ≤ line j
  lines_up i j h k = rising_at timing.bar_lines up i j h (omega (arith, count))

  pub bar_at_lem : (b t : ℕ) → b < bars → line b ≤ t → t < line (b + 1) → bar_at timing t ≡ b
  bar_at_lem b t inside low high =
      let e = begun_some timing.bar_lines t b (omega (arith, count))
      (λ i k. let m = lines_up i b k (omega arith) in omega (arith, m))
      (λ i k n. let m = lines_up (b + 1) i (omega arith) (omega (arith, count)) in omega (arith, m)) in
      omega (arith, e)

  -- a moment before the second line is in the first bar, also where it is before the first line
  pub bar_first : (t : ℕ) → 0 < bars → t < line 1 → bar_at timing t ≡ 0
  bar_first t some high = go (dec_le (line 0) t)
    where
      go : Dec (line 0 ≤ t) → bar_at timing t ≡ 0
      go (yes low) = bar_at_lem 0 t some low high
      go (no low) =
          let e = begun_none timing.bar_lines t
          (λ i k. let m = lines_up 0 i (omega arith) (omega (arith, count)) in omega (arith, m, low)) in
          omega (arith, e)

  -- every moment from the first line on, and before the last, is in a bar
  pub record InBar (t : ℕ) : Type 0 where
    pub bar : ℕ
    pub inside : bar < bars
    pub low : line bar ≤ t
    pub high : t < line (bar + 1)

  pub bar_of_lem : (t : ℕ) → line 0 ≤ t → t < line bars → InBar t
  bar_of_lem t low high = go bars (omega arith) high
    where
      go : (k : ℕ) → k ≤ bars → t < line k → InBar t
      go zero h m = let f : ⊥ = omega (arith, low, m) in absurd f
      go (suc k) h m = elim (dec_le (line k) t) [
        | yes l ↦
            let e : line (k + 1) ≡ line (suc k) = ap line (omega arith) in
            record { bar = k; inside = omega arith; low = l; high = omega (arith, e, m) }
        | no l ↦ go k (omega arith) (omega (arith, l))
      ]

  pub unit_at_lem : (b t : ℕ) → b < bars → line b ≤ t → t < line (b + 1) → unit_in timing t ≡ unit_within timing b t
  unfolding unit_in
  unit_at_lem b t inside low high = ap (λ c. unit_within timing c t) (bar_at_lem b t inside low high)

  -- ---- units rise with moments

  module _ (b : ℕ) (inside : b < bars) where
    pub lasts : 0 < lasting timing b
    lasts = let m = lines_up b (b + 1) (omega arith) (omega arith) in omega (arith, m)

    -- the unit of a moment in bar b is at most that of the bar's end
    pub share_most : (t : ℕ) → t < line (b + 1) → unit_of (lasting timing b) (t - line b) ≤ bar_units
    share_most t high =
        let d = lasting timing b in
        let r = unit_rounded d (t - line b) lasts in
        let within : unit_of d (t - line b) < bar_units + 1 = lt_of_mul-lt-mul_right d (omega (arith, r.least, high, lasts)) in
        omega (arith, within)

  -- a moment before the first line is at unit 0
  pub unit_before : (t : ℕ) → 0 < bars → t < line 0 → unit_in timing t ≡ 0
  unfolding unit_in
  unit_before t some h =
      let m = lines_up 0 1 (omega arith) (omega arith) in
      let is = ap (λ c. unit_within timing c t) (bar_first t some (omega (arith, m, h))) in
      let d = lasting timing 0 in
      let none = rounded_unit d 0 0 (lasts 0 some) (record { least = omega arith; below = omega (arith, lasts 0 some) }) in
      let same : unit_of d (t - line 0) ≡ unit_of d 0 = ap (unit_of d) (omega (arith, h)) in
      omega (arith, is, none, same)

  pub unit_in_mono : (s t : ℕ) → 0 < bars → s ≤ t → line 0 ≤ t → t < line bars → unit_in timing s ≤ unit_in timing t
  unit_in_mono s t some h low high = elim (dec_le (line 0) s) [
    | yes l ↦
        let x = bar_of_lem s l (omega (arith, high)) in
        let y = bar_of_lem t low high in
        both x y (dec_le (x.bar + 1) y.bar) (dec_le (y.bar + 1) x.bar)
    | no l ↦ let e = unit_before s some (omega (arith, l)) in omega (arith, e)
  ]
    where
      both : (x : InBar s) (y : InBar t) → Dec (x.bar + 1 ≤ y.bar) → Dec (y.bar + 1 ≤ x.bar) → unit_in timing s ≤ unit_in timing t
      both x y (yes k) _ =
          let es = unit_at_lem x.bar s x.inside x.low x.high in
          let et = unit_at_lem y.bar t y.inside y.low y.high in
          let m = share_most x.bar x.inside s x.high in
          omega (arith, m, es, et, k)
      both x y (no k) (yes m) =
          let n = lines_up (y.bar + 1) x.bar m (omega (arith, x.inside)) in
          let f : ⊥ = omega (arith, n, h, x.low, y.high) in absurd f
      both x y (no k) (no m) =
          let same : y.bar ≡ x.bar = omega (arith, k, m) in
          let es = unit_at_lem x.bar s x.inside x.low x.high in
          let et = unit_at_lem y.bar t y.inside y.low y.high ∙ ap (λ b. unit_within timing b t) same in
          let up = unit_mono (lasting timing x.bar) {s = s - line x.bar} {t = t - line x.bar} (lasts x.bar x.inside)
          (omega (arith, h)) in
          omega (arith, es, et, up)

  -- the first bar has time 0
  pub first_bar : 0 < bars → 0 ≡ bar_of (unit_in timing 0)
  unfolding unit_in
  first_bar some =
      let m = lines_up 0 1 (omega arith) (omega arith) in
      let is = ap (λ c. unit_within timing c 0) (bar_first 0 some (omega (arith, m))) in
      let d = lasting timing 0 in
      let none = rounded_unit d 0 0 (lasts 0 some) (record { least = omega arith; below = omega (arith, lasts 0 some) }) in
      let same : unit_of d (0 - line 0) ≡ unit_of d 0 = ap (unit_of d) (omega arith) in
      omega (arith, is, none, same)

  -- ---- the end: the first moment whose unit is at or past it is half a unit before it
  module _ (t : ℕ) (some : 0 < bars) (low : line 0 ≤ t) where
    abbrev last : ℕ
    last = bars - 1

    closes : line (last + 1) ≡ line bars
    closes = ap line (omega arith)

    pub end_reached : first_past_end bars timing ≤ t → t < end_of bars timing → bars * bar_units ≤ unit_in timing t
    end_reached h high =
        let d = lasting timing last in
        let up = lines_up last (last + 1) (omega arith) (omega arith) in
        let is = unit_at_lem last t (omega arith) (omega (arith, h, closes, up)) (omega (arith, high, closes)) in
        let reached = bar_reached d (t - line last) (lasts last (omega arith)) (omega (arith, h, closes, up)) in
        omega (arith, is, reached)

    pub end_not_reached : t < first_past_end bars timing → (t < end_of bars timing) × (unit_in timing t < bars * bar_units)
    end_not_reached h = (omega (arith, h), go (bar_of_lem t low (omega (arith, h))))
      where
        go : InBar t → unit_in timing t < bars * bar_units
        go x = elim (dec_le (x.bar + 1) last) [
          | yes k ↦
              let is = unit_at_lem x.bar t x.inside x.low x.high in
              let m = share_most x.bar x.inside t x.high in
              omega (arith, is, m, k)
          | no k ↦
              let same : x.bar ≡ last = omega (arith, k, x.inside) in
              let is = unit_at_lem x.bar t x.inside x.low x.high ∙ ap (λ b. unit_within timing b t) same in
              let low : line last ≤ t = let e = ap line same in let l = x.low in omega (arith, e, l) in
              let d = lasting timing last in
              let below = bar_not_reached d (t - line last) (lasts last (omega arith)) (omega (arith, h, closes, low)) in
              omega (arith, is, below)
        ]

-- ---- good bar lines

-- each bar lasts
pub good_rising : (ls : List ℕ) → GoodSteps ls → Rising ls
good_rising ls h i k = let m = h.shortest i k in omega (arith, m)

module _ (bars : ℕ) (timing : Timing) (good : GoodTiming bars timing) where
  abbrev pub rises : Rising timing.bar_lines
  rises = good_rising timing.bar_lines good.steps

  pub units_up : (s t : ℕ) → 1 ≤ bars → s ≤ t → line_at timing 0 ≤ t → t < end_of bars timing → unit_in timing s ≤ unit_in timing t
  units_up s t some h low high = unit_in_mono timing bars good.count rises s t some h low high

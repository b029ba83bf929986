-- The loop over the taps: what holds where some have been read, how a line keeps it, and how it ends. Assumes nothing.
use Prim.Native.Nat.{ℕ, ◌+◌, ◌-◌, ◌<◌, ◌≤◌}
use mathlib.Core.Path.{◌≡◌, refl, sym, ap, subst, ◌∙◌}
use mathlib.Core.Bool.{Bool, true, false, cond}
use mathlib.Core.List.{List, [], ◌∷◌, ◌++◌, map, map-append}
use native.Mathlib.Nat.{le_trans, le_of_eq}
use native.Mathlib.Omega.{arith}
use lib.ListN.{length, get_or, take, drop, set, length-append}
use lib.Seq.{get_or_at, take_at}
use borrow.Author.Tests.{eq-eqb, ne_eqb, lt-ltb, le-ltb}
use Rattle.slices.specs.Pad.{pad, pad-append, pad_map_more}
use Rattle.hextext.specs.declared.line.Line.{Line}
use Rattle.hextext.specs.Text.{line_bytes}
use Rattle.hextext.specs.Packed.{line_read}
use Rattle.hextext.specs.Laws.{line_within, line_size_pos}
use Rattle.hextext.specs.PackedLaws.{line_next}
use Rattle.std.proofs.Common.{Result, Ok, Err}
use Rattle.std.proofs.lemmas.List.{length-map, map-id}
use Rattle.std.proofs.lemmas.Simd.{map-map}
use Rattle.sheet.specs.declared.clock.Micros.{Micros}
use Rattle.bar_lines.specs.declared.taps.Bars.{Bars}
use Rattle.sheet.specs.declared.refusal.Stop.{Stop}
use Rattle.sheet.specs.Sheet.{Grammar, Timing, TimedSheet, no_playing, even_lines}
use Rattle.sheet.specs.Outcome.{Outcome}
use Rattle.sheet.specs.Reading.{byte, four, Progress, step_refusal, tap_refusal, in_taps, in_onsets, refusal, after_tap, after}
use Rattle.sheet.specs.Rest.{read_rest, stopped, Stopped, rest_end, rest_bad, rest_stop, rest_held, rest_on}
use Rattle.sheet.specs.Held.{LineHeld, micros, moments_in, no_grammar}
use Rattle.sheet.specs.Good.{GoodSteps, GoodTiming}
use Rattle.sheet.specs.Laws.{end_in_taps}
use Rattle.sheet.specs.PlayingLaws.{tap_line_lem}
use Rattle.sheet.proofs.GoodBars.{line_small, no_steps, steps_more, even_good}
use Rattle.bar_lines.specs.Lines.{lines_in, TapRefused, BarsDone, TapsRead, NextRead}

-- a line where a tap is to stand, by its kind, its count and its step
module _ (g : Grammar) (bars : ℕ) (taps b : List ℕ) where
  pub other_line : (byte b 0 ≡ 0x42 → ⊥) → 17 ≡ refusal (in_taps g bars taps) b
  unfolding refusal
  other_line f = simp (ne_eqb (byte b 0) 0x42 f)

  module _ (kind : byte b 0 ≡ 0x42) where
    pub other_count : (length b ≡ 5 → ⊥) → 4 ≡ refusal (in_taps g bars taps) b
    unfolding refusal tap_refusal
    other_count f = simp (eq-eqb (byte b 0) 0x42 kind, ne_eqb (length b) 5 f)

    module _ (count : length b ≡ 5) where
      pub first_tap : length taps ≡ 0 → 0 ≡ refusal (in_taps g bars taps) b
      unfolding refusal tap_refusal
      first_tap none = simp (eq-eqb (byte b 0) 0x42 kind, eq-eqb (length b) 5 count, eq-eqb (length taps) 0 none)

      pub later_tap : (length taps ≡ 0 → ⊥) → step_refusal (get_or taps (length taps - 1) 0) (four b 1) ≡ refusal (in_taps g bars taps) b
      unfolding refusal tap_refusal
      later_tap some = simp (eq-eqb (byte b 0) 0x42 kind, eq-eqb (length b) 5 count, ne_eqb (length taps) 0 some)

-- of the lines from line n, at place `at`, on, those before line n', at place at', have been read as k taps
pub record TapsSoFar (t : List ℕ) (at n bars : ℕ) (cells : List Micros) (before at' n' k : ℕ) : Type 0 where
  pub taps : List ℕ
  pub count : k ≡ length taps
  pub most : k ≤ bars + 1
  pub cells_are : cells ≡ pad 65 (micros 0) (map micros taps)
  pub latest : 0 < k → before ≡ get_or taps (k - 1) 0
  pub steps : GoodSteps taps
  pub within : at' ≤ length t
  pub line : n' ≤ at' + 1
  pub numbered : 0 < n'
  pub rest : (g : Grammar)
      → read_rest (in_taps g bars []) n (drop at t) ≡ read_rest (after_tap g bars taps) n' (drop at' t)

-- where not all have been read, a tap is next; where all have, the onsets are
tap_next : (g : Grammar) (bars : ℕ) (taps : List ℕ) → length taps ≤ bars → after_tap g bars taps ≡ in_taps g bars taps
unfolding after_tap
tap_next g bars taps h = simp (le-ltb bars (length taps) h)

taps_done : (g : Grammar) (bars : ℕ) (taps : List ℕ) → bars < length taps
    → after_tap g bars taps ≡ in_onsets g true (record { bar_lines = taps }) (no_playing bars) 0
unfolding after_tap
taps_done g bars taps h = simp (lt-ltb bars (length taps) h)

pub taps_none : (t : List ℕ) (at n bars : ℕ) (cells : List Micros) (before : ℕ) → at ≤ length t → n ≤ at + 1 → 0 < n
    → cells ≡ pad 65 (micros 0) [] → TapsSoFar t at n bars cells before at n 0
taps_none t at n bars cells before w l pos e =
    record {
      taps = [];
      count = refl;
      most = omega arith;
      cells_are = e;
      latest = λ h. let f : ⊥ = omega arith in absurd f;
      steps = no_steps;
      within = w;
      line = l;
      numbered = pos;
      rest = λ g. ap (λ (r : Progress). read_rest r n (drop at t)) (sym (tap_next g bars [] (omega arith)));
    }

module _ {t : List ℕ} {at n bars : ℕ} {cells : List Micros} {before at' n' k : ℕ} (h : TapsSoFar t at n bars cells before at' n' k)
    (few : bars ≤ 64) where
  abbrev b : List ℕ
  b = line_bytes (drop at' t)

  -- reading stops at line n' with number m
  abbrev Stops : Grammar → ℕ → Type 0
  Stops g m = read_rest (in_taps g bars []) n (drop at t) ≡ stopped m n' (drop at' t)

  -- a tap is missing
  module _ (missing : k ≤ bars) where
    now_taps : (g : Grammar) → read_rest (in_taps g bars []) n (drop at t) ≡ read_rest (in_taps g bars h.taps) n' (drop at' t)
    now_taps g =
        h.rest g
        ∙ ap (λ (r : Progress). read_rest r n' (drop at' t))
        (tap_next g bars h.taps (let c = h.count in omega (arith, c, missing)))

    -- no line is left
    pub taps_missing : length t ≤ at' → (g : Grammar) → Stops g 17
    taps_missing past g = now_taps g ∙ rest_end (in_taps g bars h.taps) n' t at' 17 past (end_in_taps g bars h.taps n')

    -- another line is read
    module _ (inside : at' < length t) (l : Line) (is : l ≡ line_read t at') where
      -- a bad one
      pub taps_bad : (g : Grammar) → l.count ≡ 0 → (m : ℕ) → Stops g m
      taps_bad g e m = now_taps g ∙ rest_bad t at' inside l is (in_taps g bars h.taps) n' h.numbered e m

      -- one that is well formed
      module _ (filled : l.count ≡ 0 → ⊥) (r : ℕ)
          (told : (c taps : List ℕ) → LineHeld l c → TapRefused k before taps c r) where
        line_held : LineHeld l b
        line_held = rest_held t at' inside l is filled

        refusal_is : (g : Grammar) → r ≡ refusal (in_taps g bars h.taps) b
        refusal_is g = told b h.taps line_held h.count h.latest g bars

        -- and refused
        pub taps_stop : (r ≡ 0 → ⊥) → (g : Grammar) → Stops g r
        taps_stop f g = now_taps g ∙ rest_stop t at' inside l is (in_taps g bars h.taps) n' r (refusal_is g) f

        -- or taken
        pub taps_more : r ≡ 0 → (x : ℕ) → ((c : List ℕ) → LineHeld l c → x ≡ four c 1)
            → TapsSoFar t at n bars (set cells k (micros x)) x l.next (n' + 1) (k + 1)
        unfolding after
        taps_more z x x-is =
            let taps = h.taps in
            let c = h.count in
            let four_is = x-is b line_held in
            let next = line_next t at' l is filled in
            let m = line_size_pos t at' inside in
            let met = (tap_line_lem no_grammar bars taps b (sym (refusal_is no_grammar) ∙ z)).1 in
            record {
              taps = taps ++ (four b 1 ∷ []);
              count = let e = length-append taps (four b 1 ∷ []) in omega (arith, e, c);
              most = omega (arith, missing);
              cells_are =
                  ap (λ v. set cells k (micros v)) four_is
                  ∙ pad_map_more 65 (micros 0) micros taps (four b 1) cells k h.cells_are (sym c) (omega (arith, missing, few));
              latest = λ _. four_is ∙ sym (get_or_at taps (four b 1) [] 0 (k + 1 - 1) (omega (arith, c)));
              steps = steps_more taps b (line_small b line_held.small) h.steps met;
              within = le_trans (le_of_eq next) (line_within t at' (omega arith));
              line = omega (arith, h.line, next);
              numbered = omega arith;
              rest = λ g. now_taps g ∙ rest_on t at' inside l is (in_taps g bars taps) n' filled (sym (refusal_is g) ∙ z);
            }

  -- none is missing
  module _ (all : bars < k) where
    cells_in : lines_in bars cells ≡ record { bar_lines = h.taps }
    cells_in =
        let c = h.count in
        let most = h.most in
        let n : length h.taps ≡ bars + 1 = omega (arith, c, most, all) in
        let size = length-map h.taps micros ∙ n in
        let is = ap (λ cs. take (bars + 1) (moments_in cs))
        (h.cells_are ∙ pad-append 65 (micros 0) (map micros h.taps) (omega (arith, size, few)))
        ∙ ap (take (bars + 1)) (map-append (λ (m : Micros). m.0) (map micros h.taps) _)
        ∙ take_at (moments_in (map micros h.taps)) _ (bars + 1) (length-map (map micros h.taps) (λ (m : Micros). m.0) ∙ size)
        ∙ map-map (λ (m : Micros). m.0) micros h.taps ∙ map-id h.taps in
        λ j. record { bar_lines = is j }

    pub taps_onsets : (g : Grammar)
        → read_rest (in_taps g bars []) n (drop at t)
        ≡ read_rest (in_onsets g true (lines_in bars cells) (no_playing bars) 0) n' (drop at' t)
    taps_onsets g =
        h.rest g
        ∙ ap (λ (r : Progress). read_rest r n' (drop at' t))
        (taps_done g bars h.taps (let c = h.count in omega (arith, c, all))
        ∙ ap (λ (x : Timing). in_onsets g true x (no_playing bars) 0) (sym cells_in))

    pub taps_good : GoodTiming bars (lines_in bars cells)
    taps_good =
        subst (GoodTiming bars) (sym cells_in)
        (record { count = let c = h.count in let most = h.most in omega (arith, c, most, all); steps = h.steps })

-- ---- what follows a `45` line

-- read where its bars are tapped or not
abbrev Follows : (t : List ℕ) (at n bars d : ℕ) → Bool → Grammar → Outcome TimedSheet
Follows t at n bars d b g = read_rest (cond b (in_taps g bars []) (in_onsets g false (even_lines bars d) (no_playing bars) 0)) n (drop at t)

-- taps, where the duration is 0
pub next_tapped : (t : List ℕ) (at n bars d : ℕ) → 1 ≤ bars → bars ≤ 64 → d ≡ 0 → (r : Result Bars Stop) → TapsRead t at n bars r
    → NextRead t at n bars d r
next_tapped t at n bars d one few none (Ok r) taps = (
  subst (λ b. BarsDone (Follows t at n bars d b) t bars b r) (sym (eq-eqb d 0 none)) taps,
  record { lines = record { one = one; sixty_four = few; time = taps.good }; even = λ f. absurd (f none) },
)
next_tapped t at n bars d one few none (Err e) taps = (
  taps.0,
  λ g. subst (λ b. Stopped t (Follows t at n bars d b g) e) (sym (eq-eqb d 0 none)) (taps.1 g),
)

-- else evenly spaced lines, for which no line is read
pub next_even : (t : List ℕ) (at n bars d : ℕ) → at ≤ length t → n ≤ at + 1 → 0 < n → 1 ≤ bars → bars ≤ 64 → (d ≡ 0 → ⊥)
    → (1000 ≤ d) × (d ≤ 60_000_000) → (cells : List Micros) → lines_in bars cells ≡ even_lines bars d
    → NextRead t at n bars d (Ok (record { line = n; at = at; lines = cells }))
next_even t at n bars d within line pos one few some range cells is =
    let good = subst (GoodTiming bars) (sym is) (even_good bars d few range.0 range.1) in
    let r : Bars = record { line = n; at = at; lines = cells } in (
      subst (λ b. BarsDone (Follows t at n bars d b) t bars b r) (sym (ne_eqb d 0 some))
          (record {
            place = line;
            numbered = pos;
            within = within;
            rest = λ g j. read_rest (in_onsets g false (sym is j) (no_playing bars) 0) n (drop at t);
            good = good;
          }),
      record { lines = record { one = one; sixty_four = few; time = good }; even = λ _. is },
    )

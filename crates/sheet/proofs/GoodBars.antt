-- What has been read of the bar lines is good at each step: behind the `45` line (`good_start`) and behind a tap (`good_tap`).
use Rattle.std.specs.Prelude.{ℕ, ◌+◌, ◌-◌, ◌*◌, ◌^◌, ◌<◌, ◌≤◌, ◌≡◌, refl, Bool, true, false, cond, List, [], ◌∷◌, ◌++◌, length, get_or, ltb}
use Rattle.std.proofs.Common.{subst, ◌∙◌, arith, length-append, ltb-true, ltb-false}
use Rattle.std.proofs.Math.Decide.{dec_le}
use Rattle.std.proofs.Math.ListN.{get_or-append}
use Rattle.std.proofs.lemmas.List.{get_or_at}
use Rattle.slices.specs.Every.{Every, every_at}
use Rattle.sheet.specs.Sheet.{Grammar, no_playing, line_at, even_lines, in_bar}
use Rattle.sheet.specs.Reading.{byte, two, four, playing_refusal, playing_of, is_tapped, even_of, tap_refusal, in_taps, in_onsets, after_head}
use Rattle.sheet.specs.Reading.{after_tap}
use Rattle.sheet.specs.Clock.{end_fits}
use Rattle.sheet.proofs.EvenLines.{even_count, even_at}
use Rattle.sheet.specs.Good.{GoodRules, GoodOnsets, GoodSteps, GoodTiming}
use Rattle.sheet.specs.SoFar.{GoodTaps, GoodProgress}
use Rattle.sheet.specs.PlayingLaws.{PlayingPassed, playing_passed, tap_passed}

-- the bytes of a line are below 256, and its numbers of two and four bytes are as small as these
abbrev pub Small : List ℕ → Type 0
Small l = (i : ℕ) → byte l i < 256

pub line_small : (b : List ℕ) → Every (λ (x : ℕ). x < 256) b → Small b
line_small b h i = every_at (λ (x : ℕ). x < 256) b i 0 h (omega arith)

pub two_small : (l : List ℕ) (i : ℕ) → Small l → two l i ≤ 65535
unfolding two
two_small l i h = omega (arith, h i, h (i + 1))

four_small : (l : List ℕ) (i : ℕ) → Small l → four l i < 2 ^ 32
unfolding four
four_small l i h = let a = two_small l i h in let b = two_small l (i + 2) h in omega (arith, a, b)

-- a playing without onsets
pub good_none : (bars : ℕ) → 1 ≤ bars → bars ≤ 64 → GoodOnsets (no_playing bars)
unfolding in_bar
good_none bars one most =
    record {
      one = one;
      sixty_four = most;
      most = omega arith;
      below = tt;
      pitches = tt;
      rising = tt;
      few = λ b. omega arith;
    }

-- the bar lines of one duration
pub even_good : (bars d : ℕ) → bars ≤ 64 → 1000 ≤ d → d ≤ 60_000_000 → GoodTiming bars (even_lines bars d)
even_good bars d most short long =
    record {
      count = even_count bars d;
      steps = record {
        shortest = λ b h. let low = at b h in let high = at' b h in omega (arith, low, high);
        longest = λ b h. let low = at b h in let high = at' b h in omega (arith, low, high);
        fits = small;
      };
    }
  where
    at : (b : ℕ) → b + 1 < length (even_lines bars d).bar_lines → line_at (even_lines bars d) b ≡ b * d
    at b h = even_at bars d b (let n = even_count bars d in omega (arith, n))

    at' : (b : ℕ) → b + 1 < length (even_lines bars d).bar_lines → line_at (even_lines bars d) (b + 1) ≡ b * d + d
    at' b h = even_at bars d (b + 1) (let n = even_count bars d in omega (arith, n)) ∙ omega arith

    small : (i : ℕ) → i < length (even_lines bars d).bar_lines → line_at (even_lines bars d) i < 2 ^ 32
    small i h =
        let n = even_count bars d in
        let e = even_at bars d i (omega (arith, n)) in
        let m = end_fits {b = i} {d = d} (omega (arith, n)) long in
        omega (arith, e, m)

-- no bar line yet
pub no_steps : GoodSteps []
no_steps =
    record {
      shortest = λ b h. let f : ⊥ = omega arith in absurd f;
      longest = λ b h. let f : ⊥ = omega arith in absurd f;
      fits = λ i h. let f : ⊥ = omega arith in absurd f;
    }

-- behind the `45` line, plain or tapped
pub good_start : (g : Grammar) (l : List ℕ) → GoodRules g → 1 ≤ length g.rules → playing_refusal l ≡ 0
    → GoodProgress (after_head g l)
unfolding after_head playing_of even_of
good_start g l rules some e = go (is_tapped l) refl
  where
    p : PlayingPassed l
    p = playing_passed l e

    go : (c : Bool) → is_tapped l ≡ c → GoodProgress (cond c (in_taps g (byte l 1) []) (in_onsets g false (even_of l) (playing_of l) 0))
    go true q = (
      rules,
      some,
      record {
        one = p.one;
        sixty_four = p.sixty_four;
        missing = omega arith;
        steps = no_steps;
      },
    )
    go false q =
        let d = p.even q in (
          rules,
          some,
          record {
            time = even_good (byte l 1) (four l 2) p.sixty_four d.0 d.1;
            onsets = good_none (byte l 1) p.one p.sixty_four;
            before = tt;
          },
        )

-- one tap more
module _ (taps l : List ℕ) (small : Small l) (steps : GoodSteps taps) (met : tap_refusal taps l ≡ 0) where
  abbrev t : ℕ
  t = four l 1

  abbrev more : List ℕ
  more = taps ++ (t ∷ [])

  -- a step of the taps is one of those before, or the last
  step_more : (P : ℕ → ℕ → Type 0) → ((b : ℕ) → b + 1 < length taps → P (get_or taps b 0) (get_or taps (b + 1) 0))
      → (0 < length taps → P (get_or taps (length taps - 1) 0) t)
      → (b : ℕ) → b + 1 < length more → P (get_or more b 0) (get_or more (b + 1) 0)
  step_more P old new b k = elim (dec_le (b + 2) (length taps)) [
    | yes m ↦
        rw (get_or-append taps (t ∷ []) 0 b (omega arith), get_or-append taps (t ∷ []) 0 (b + 1) (omega arith)) (old b (omega arith))
    | no m ↦
        let is : length taps ≡ b + 1 = let n = length-append taps (t ∷ []) in omega (arith, n, k, m) in
        let before : length taps - 1 ≡ b = omega (arith, is) in
        rw (get_or-append taps (t ∷ []) 0 b (omega (arith, is)), get_or_at taps t [] 0 (b + 1) is)
        (subst (λ (i : ℕ). P (get_or taps i 0) t) before (new (omega (arith, is))))
  ]

  fits_more : (i : ℕ) → i < length more → get_or more i 0 < 2 ^ 32
  fits_more i k = elim (dec_le (i + 1) (length taps)) [
    | yes m ↦ rw (get_or-append taps (t ∷ []) 0 i (omega (arith, m))) (steps.fits i (omega (arith, m)))
    | no m ↦
        let is : length taps ≡ i = let n = length-append taps (t ∷ []) in omega (arith, n, k, m) in
        rw (get_or_at taps t [] 0 i is) (four_small l 1 small)
  ]

  pub steps_more : GoodSteps more
  steps_more =
      record {
        shortest = step_more (λ x y. x + 1000 ≤ y) steps.shortest (λ some. (tap_passed taps l met some).0);
        longest = step_more (λ x y. y ≤ x + 60_000_000) steps.longest (λ some. (tap_passed taps l met some).1);
        fits = fits_more;
      }

pub good_tap : (bars : ℕ) (taps l : List ℕ) → Small l → GoodTaps bars taps → tap_refusal taps l ≡ 0
    → (g : Grammar) → GoodRules g → 1 ≤ length g.rules → GoodProgress (after_tap g bars (taps ++ (four l 1 ∷ [])))
unfolding after_tap
good_tap bars taps l small h met g rules some = go (ltb bars (length after_it)) refl
  where
    after_it : List ℕ
    after_it = taps ++ (four l 1 ∷ [])

    many : length after_it ≡ length taps + 1
    many = length-append taps (four l 1 ∷ [])

    steps_after : GoodSteps after_it
    steps_after = steps_more taps l small h.steps met

    go : (c : Bool) → ltb bars (length after_it) ≡ c
        → GoodProgress (cond c (in_onsets g true (record { bar_lines = after_it }) (no_playing bars) 0) (in_taps g bars after_it))
    go true q = (
      rules,
      some,
      record {
        time = record {
          count = let m = ltb-true bars (length after_it) q in let k = h.missing in omega (arith, many, m, k);
          steps = steps_after;
        };
        onsets = good_none bars h.one h.sixty_four;
        before = tt;
      },
    )
    go false q = (
      rules,
      some,
      record {
        one = h.one;
        sixty_four = h.sixty_four;
        missing = let m = ltb-false bars (length after_it) q in omega (arith, m);
        steps = steps_after;
      },
    )

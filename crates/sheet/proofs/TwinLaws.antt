-- "A sheet with a plain duration is read as evenly spaced ones" (document 02, (vi)): a tapped sheet that taps the bar lines of a plain one
-- means the same sheet, and the same real time (`twins_mean`). Before the `45` line both are read alike; behind it the taps come to the
-- plain sheet's bar lines; and the onsets are read alike again.
use Rattle.std.specs.Prelude.{ℕ, zero, suc, ◌+◌, ◌-◌, ◌≤◌, ◌≡◌, Bool, true, false, eqb, ltb}
use Rattle.std.proofs.Math.Path.{refl, sym, ap}
use Rattle.std.proofs.Common.{◌∙◌, arith, length-append}
use Rattle.std.proofs.Math.Bool.{cond}
use mathlib.Core.List.{List, [], ◌∷◌, ◌++◌, map, append_assoc}
use Rattle.std.proofs.Math.Decide.{dec_le, ℕ_discrete}
use Rattle.std.proofs.Math.ListN.{length, get_or, get_or-append}
use Rattle.std.proofs.lemmas.List.{get_or_at}
use borrow.Author.Tests.{eq-eqb, eqb-true, ne_eqb, le-leb, le-ltb, lt-ltb}
use Rattle.hextext.specs.Text.{bad_line, lines}
use Rattle.sheet.specs.Sheet.{Grammar, Playing, Timing, TimedSheet, no_playing, even_from, even_lines}
use Rattle.sheet.specs.Outcome.{Outcome, refused, accepted, accepted_not_refused}
use Rattle.sheet.specs.Reading.{demand, byte, two, four, head_refusal, head_of, rule_refusal, rule_of, with_rule, playing_refusal}
use Rattle.sheet.specs.Reading.{playing_of, is_tapped, even_of, step_refusal, tap_refusal, onset_refusal, onset_of, with_onset, other_refusal}
use Rattle.sheet.specs.Reading.{Progress, nothing, in_rules, in_taps, in_onsets, rules_refusal, refusal, after_head, after_tap, after}
use Rattle.sheet.specs.Reading.{at_end, read_lines, read_sheet}
use Rattle.sheet.specs.Laws.{demand_zero, cond_zero, read_on, read_stop, well_formed, accepted_lines}
use Rattle.sheet.specs.PlayingLaws.{PlayingPassed, playing_passed, onset_line}
use Rattle.sheet.specs.Good.{GoodSteps, GoodTiming}
use Rattle.sheet.proofs.GoodBars.{even_good}
use Rattle.sheet.specs.OnsetLines.{of_kind, playing_line}
use Rattle.sheet.specs.Literal.{text_of}
use Rattle.sheet.specs.Cases.{grammar_s, S, sheet_s, S_means}
use Rattle.sheet.specs.Twin.{tap_line, tapped, with_taps, twin_lines, Twins}

-- of lines that are accepted the first is not refused, and those behind it are accepted
accepted_line : (r : Progress) (n : ℕ) (l : List ℕ) (ls : List (List ℕ)) (x : TimedSheet) → read_lines r n (l ∷ ls) ≡ accepted x
    → (refusal r l ≡ 0) × (read_lines (after r l) (n + 1) ls ≡ accepted x)
accepted_line r n l ls x e = go (refusal r l) refl
  where
    go : (k : ℕ) → refusal r l ≡ k → (refusal r l ≡ 0) × (read_lines (after r l) (n + 1) ls ≡ accepted x)
    go zero q = (q, sym (read_on r n l ls q) ∙ e)
    go (suc k) q = absurd (accepted_not_refused (sym e ∙ read_stop r n l ls (suc k) (sym q) (λ z. omega arith)))

-- ---- the onsets: in a tapped sheet and in a plain one (a and b) the same are accepted, whatever the numbers of their lines

onset_either : (g : Grammar) (a b : Bool) (timing : Timing) (p : Playing) (last : ℕ) (l : List ℕ)
    → refusal (in_onsets g a timing p last) l ≡ 0 → refusal (in_onsets g b timing p last) l ≡ 0
unfolding refusal
onset_either g a b timing p last l e =
    let k = onset_line g a timing p last l e in
    ap (λ (c : Bool). cond c (onset_refusal timing p last l) (other_refusal b l)) k.0 ∙ k.1

onsets_either : (g : Grammar) (a b : Bool) (timing : Timing) (p : Playing) (last n m : ℕ) (ls : List (List ℕ)) (x : TimedSheet)
    → read_lines (in_onsets g a timing p last) n ls ≡ accepted x → read_lines (in_onsets g b timing p last) m ls ≡ accepted x
unfolding read_lines at_end after
onsets_either g a b timing p last n m [] x e = go (ltb 0 (length p.onsets)) e
  where
    whole : Outcome TimedSheet
    whole = accepted (record { sheet = record { grammar = g; playing = p }; timing = timing })

    go : (c : Bool) → cond c whole (refused 3 n) ≡ accepted x → cond c whole (refused 3 m) ≡ accepted x
    go true q = q
    go false q = absurd (accepted_not_refused (sym q))
onsets_either g a b timing p last n m (l ∷ ls) x e =
    let k = accepted_line (in_onsets g a timing p last) n l ls x e in
    read_on (in_onsets g b timing p last) m l ls (onset_either g a b timing p last l k.0)
    ∙ onsets_either g a b timing (with_onset p (onset_of timing l)) (four l 1) (n + 1) (m + 1) ls x k.1

-- ---- the taps

-- a tap's line tells its moment
tap_tells : (t : ℕ) → four (tap_line t) 1 ≡ t
unfolding four two
tap_tells t = omega arith

-- taps on good bar lines come to these (`taps_come`): the lines behind the taps are read as they are with these bar lines
module _ (g : Grammar) (bars : ℕ) (all : List ℕ) (steps : GoodSteps all) (count : length all ≡ bars + 1) where
  abbrev behind : List ℕ → Progress
  behind taps = in_onsets g true (record { bar_lines = taps }) (no_playing bars) 0

  -- one tap, behind some and before others
  module _ (taps : List ℕ) (t : ℕ) (more : List ℕ) (is : taps ++ (t ∷ more) ≡ all) where
    many : length all ≡ length taps + suc (length more)
    many = ap length (sym is) ∙ length-append taps (t ∷ more)

    tap_met : refusal (in_taps g bars taps) (tap_line t) ≡ 0
    unfolding refusal tap_refusal step_refusal
    tap_met = elim (dec_le 1 (length taps)) [
      | yes some ↦
          let last = length taps - 1 in
          let before = get_or taps last 0 in
          let from = sym (get_or-append taps (t ∷ more) 0 last (omega arith)) ∙ ap (λ (xs : List ℕ). get_or xs last 0) is in
          let to = tap_tells t ∙ sym (get_or_at taps t more 0 (last + 1) (omega arith)) ∙ ap (λ (xs : List ℕ). get_or xs (last + 1) 0) is in
          let short = steps.shortest last (omega (arith, many)) in
          let long = steps.longest last (omega (arith, many)) in
          simp (
            ne_eqb (length taps) 0 (λ z. omega arith),
            le-leb (before + 1000) (four (tap_line t) 1) (omega (arith, from, to, short)),
            le-leb (four (tap_line t) 1) (before + 60_000_000) (omega (arith, from, to, long)),
          )
      | no none ↦ simp (eq-eqb (length taps) 0 (omega arith))
    ]

    tap_after : (c : Bool) → ltb bars (length taps + 1) ≡ c
        → after (in_taps g bars taps) (tap_line t) ≡ cond c (behind (taps ++ (t ∷ []))) (in_taps g bars (taps ++ (t ∷ [])))
    unfolding after after_tap
    tap_after c q =
        ap (λ (s : ℕ). after_tap g bars (taps ++ (s ∷ []))) (tap_tells t)
        ∙ ap (λ (d : Bool). cond d (behind (taps ++ (t ∷ []))) (in_taps g bars (taps ++ (t ∷ []))))
        (ap (ltb bars) (length-append taps (t ∷ [])) ∙ q)

  taps_come : (ls : List (List ℕ)) (o : Outcome TimedSheet) → ((n : ℕ) → read_lines (behind all) n ls ≡ o)
      → (taps : List ℕ) (t : ℕ) (more : List ℕ) → taps ++ (t ∷ more) ≡ all
      → (n : ℕ) → read_lines (in_taps g bars taps) n (map tap_line (t ∷ more) ++ ls) ≡ o
  taps_come ls o come taps t [] is n =
      let full = let m = many taps t [] is in lt-ltb bars (length taps + 1) (omega (arith, m, count)) in
      read_on (in_taps g bars taps) n (tap_line t) ls (tap_met taps t [] is)
      ∙ ap (λ (r : Progress). read_lines r (n + 1) ls) (tap_after taps t [] is true full ∙ ap behind is) ∙ come (n + 1)
  taps_come ls o come taps t (s ∷ more) is n =
      let short = let m = many taps t (s ∷ more) is in le-ltb bars (length taps + 1) (omega (arith, m, count)) in
      let left = map tap_line (s ∷ more) ++ ls in
      read_on (in_taps g bars taps) n (tap_line t) left (tap_met taps t (s ∷ more) is)
      ∙ ap (λ (r : Progress). read_lines r (n + 1) left) (tap_after taps t (s ∷ more) is false short)
      ∙ taps_come ls o come (taps ++ (t ∷ [])) s more (append_assoc taps (t ∷ []) (s ∷ more) ∙ is) (n + 1)

-- ---- the `45` line

module _ (g : Grammar) (l : List ℕ) (kind : eqb (byte l 0) 0x45 ≡ true) (met : refusal (in_rules g) l ≡ 0) where
  abbrev rules : ℕ
  rules = length g.rules

  met_parts : (ltb 0 rules ≡ true) × (playing_refusal l ≡ 0)
  unfolding refusal rules_refusal
  met_parts =
      demand_zero (ltb 0 rules) 2 (playing_refusal l)
      (ap (λ (c : Bool). cond c (demand (ltb 0 rules) 3 (playing_refusal l)) (rule_refusal g.nonterminals rules l)) (sym kind) ∙ met)

  passed : PlayingPassed l
  passed = playing_passed l met_parts.1

  -- with a duration of 0 it is not refused either, and taps are to follow
  tapped_read : (refusal (in_rules g) (tapped l) ≡ 0) × (after (in_rules g) (tapped l) ≡ in_taps g (byte l 1) [])
  unfolding refusal rules_refusal playing_refusal after after_head four two
  tapped_read = (
    simp (kind, met_parts.0, le-leb 1 (byte l 1) passed.one, le-leb (byte l 1) 64 passed.sixty_four),
    simp kind,
  )

  plain_after : is_tapped l ≡ false → after (in_rules g) l ≡ in_onsets g false (even_of l) (playing_of l) 0
  unfolding after after_head
  plain_after plain = simp (kind, plain)

  twin_playing : is_tapped l ≡ false → (n : ℕ) (ls : List (List ℕ)) (x : TimedSheet)
      → read_lines (after (in_rules g) l) (n + 1) ls ≡ accepted x → read_lines (in_rules g) n (with_taps l ls) ≡ accepted x
  unfolding even_of playing_of
  twin_playing plain n ls x e =
      read_on (in_rules g) n (tapped l) _ tapped_read.0
      ∙ ap (λ (r : Progress). read_lines r (n + 1) (map tap_line time.bar_lines ++ ls)) tapped_read.1 ∙ from time.bar_lines refl
    where
      time : Timing
      time = even_lines (byte l 1) (four l 2)

      good : GoodTiming (byte l 1) time
      good = even_good (byte l 1) (four l 2) passed.sixty_four (passed.even plain).0 (passed.even plain).1

      come : (m : ℕ) → read_lines (in_onsets g true time (no_playing (byte l 1)) 0) m ls ≡ accepted x
      come m =
          onsets_either g false true time (no_playing (byte l 1)) 0 (n + 1) m ls x
          (ap (λ (r : Progress). read_lines r (n + 1) ls) (sym (plain_after plain)) ∙ e)

      from : (all : List ℕ) → all ≡ time.bar_lines → read_lines (in_taps g (byte l 1) []) (n + 1) (map tap_line all ++ ls) ≡ accepted x
      from [] q = let f : ⊥ = let c = good.count in let z = ap length q in omega (arith, c, z) in absurd f
      from (t ∷ more) q = taps_come g (byte l 1) time.bar_lines good.steps good.count ls (accepted x) come [] t more q (n + 1)

-- ---- the lines before it, which stay

-- a line in front of others, by whether it is a `45` line
module _ (l : List ℕ) (ls : List (List ℕ)) (c : Bool) (kind : eqb (byte l 0) 0x45 ≡ c) where
  twin_line : twin_lines (l ∷ ls) ≡ cond c (with_taps l ls) (l ∷ twin_lines ls)
  unfolding twin_lines
  twin_line = simp kind

  playing_line_lem : playing_line (l ∷ ls) ≡ get_or (cond c (l ∷ of_kind 0x45 ls) (of_kind 0x45 ls)) 0 []
  unfolding of_kind
  playing_line_lem = simp kind

twin_rules : (g : Grammar) (n : ℕ) (ls : List (List ℕ)) (x : TimedSheet) → read_lines (in_rules g) n ls ≡ accepted x
    → is_tapped (playing_line ls) ≡ false → read_lines (in_rules g) n (twin_lines ls) ≡ accepted x
unfolding twin_lines after
twin_rules g n [] x e plain = e
twin_rules g n (l ∷ ls) x e plain =
    let k = accepted_line (in_rules g) n l ls x e in
    elim (ℕ_discrete (byte l 0) 0x45) [
      | yes q ↦
          let kind = eq-eqb (byte l 0) 0x45 q in
          ap (read_lines (in_rules g) n) (twin_line l ls true kind)
          ∙ twin_playing g l kind k.0 (ap is_tapped (sym (playing_line_lem l ls true kind)) ∙ plain) n ls x k.1
      | no f ↦
          let kind = ne_eqb (byte l 0) 0x45 f in
          let is = ap (λ (c : Bool). cond c (after_head g l) (in_rules (with_rule g (rule_of l)))) kind in
          ap (read_lines (in_rules g) n) (twin_line l ls false kind) ∙ read_on (in_rules g) n l (twin_lines ls) k.0
          ∙ ap (λ (r : Progress). read_lines r (n + 1) (twin_lines ls)) is
          ∙ twin_rules (with_rule g (rule_of l)) (n + 1) ls x (ap (λ (r : Progress). read_lines r (n + 1) ls) (sym is) ∙ k.1)
          (ap is_tapped (sym (playing_line_lem l ls false kind)) ∙ plain)
    ]

twin_whole : (n : ℕ) (ls : List (List ℕ)) (x : TimedSheet) → read_lines nothing n ls ≡ accepted x
    → is_tapped (playing_line ls) ≡ false → read_lines nothing n (twin_lines ls) ≡ accepted x
unfolding twin_lines refusal after
twin_whole n [] x e plain = e
twin_whole n (l ∷ ls) x e plain =
    let k = accepted_line nothing n l ls x e in
    let head = eqb-true (byte l 0) 0x47 (cond_zero (eqb (byte l 0) 0x47) (head_refusal l) 2 k.0).0 in
    let kind = ne_eqb (byte l 0) 0x45 (λ z. omega (arith, head, z)) in
    ap (read_lines nothing n) (twin_line l ls false kind) ∙ read_on nothing n l (twin_lines ls) k.0
    ∙ twin_rules (head_of l) (n + 1) ls x k.1 (ap is_tapped (sym (playing_line_lem l ls false kind)) ∙ plain)

-- an accepted plain text and a text that taps its bar lines mean the same
pub twins_mean : (t u : List ℕ) (x : TimedSheet) → read_sheet t ≡ accepted x → is_tapped (playing_line (lines t)) ≡ false
    → Twins t u → bad_line u ≡ 0 → length u ≤ 16384 → read_sheet u ≡ accepted x
twins_mean t u x e plain twins formed fits =
    well_formed u fits formed ∙ ap (read_lines nothing 1) twins ∙ twin_whole 1 (lines t) x (accepted_lines t x e) plain

-- S with its bar lines tapped, by computation; and so it means what S means
abbrev pub twin_s : List ℕ
twin_s = grammar_s ++ text_of "450100000000\n4200000000\n42001E8480\n4E000000003C40\n4E0010C8E03E40\n"

pub S_twins : Twins S twin_s
unfolding lines twin_lines even_from four two
S_twins = refl

pub S_twin_means : read_sheet twin_s ≡ accepted (record { sheet = sheet_s; timing = record { bar_lines = 0 ∷ 2_000_000 ∷ [] } })
unfolding bad_line lines of_kind four two
S_twin_means = twins_mean S twin_s _ S_means refl S_twins refl (omega arith)

-- The bar lines of an accepted text are those that its `45` line and its `42` lines tell, and its onsets those of its `4E` lines, in their
-- order (`timing_read`, `onsets_read`); and the refusal of a `4E` line whose unit is at or past the end (`late_refused`).
use Rattle.std.specs.Prelude.{ℕ, zero, suc, ◌+◌, ◌*◌, ◌≤◌, ◌<◌, ◌≡◌, Bool, cond, length, eqb, ltb}
use Rattle.std.proofs.Math.Path.{refl, ap}
use Rattle.std.proofs.Common.{sym, subst, ◌∙◌, arith, eq-eqb, ne_eqb, eqb-true}
use Rattle.std.proofs.Math.Bool.{true, false}
use mathlib.Core.List.{List, [], ◌∷◌, ◌++◌, map, append-nil, append_assoc}
use Rattle.std.proofs.Math.ListN.{get_or}
use Rattle.slices.specs.Every.{Every}
use Rattle.hextext.specs.Text.{lines}
use Rattle.sheet.specs.Sheet.{Onset, Grammar, Playing, Timing, TimedSheet, no_playing, bar_units, line_at, end_of, unit_in}
use Rattle.sheet.specs.Outcome.{refused, accepted, accepted_not_refused, accepted_value}
use Rattle.sheet.specs.Reading.{byte, four, demand, head_refusal, division_refusal, leaf_refusal, rule_refusal, rule_of, with_rule}
use Rattle.sheet.specs.Reading.{playing_refusal, playing_of, is_tapped, even_of, onset_form, onset_refusal, onset_of, with_onset, Progress}
use Rattle.sheet.specs.Reading.{nothing, in_rules, in_taps, in_onsets, rules_refusal, refusal, after_head, after_tap, after, at_end}
use Rattle.sheet.specs.Reading.{read_lines, read_sheet}
use Rattle.sheet.specs.Laws.{cond_zero, read_on, read_stop, accepted_lines}
use Rattle.sheet.specs.PlayingLaws.{onset_passed, tap_line_lem, onset_line, moment_late}

-- the lines of one kind, in order
unfoldable pub of_kind : (kind : ℕ) → List (List ℕ) → List (List ℕ)
of_kind k [] = []
of_kind k (l ∷ ls) = cond (eqb (byte l 0) k) (l ∷ of_kind k ls) (of_kind k ls)

-- the `4E` lines, the `45` line, and the moments of the `42` lines
abbrev pub onset_lines : List (List ℕ) → List (List ℕ)
onset_lines ls = of_kind 0x4E ls

abbrev pub playing_line : List (List ℕ) → List ℕ
playing_line ls = get_or (of_kind 0x45 ls) 0 []

abbrev pub taps_of : List (List ℕ) → List ℕ
taps_of ls = map (λ (l : List ℕ). four l 1) (of_kind 0x42 ls)

-- the bar lines that they tell: the taps, where the `45` line has a duration of 0; else evenly spaced ones
abbrev pub timing_by : (playing : List ℕ) → (taps : List ℕ) → Timing
timing_by l taps = cond (is_tapped l) (record { bar_lines = taps }) (even_of l)

-- a line of that kind, and one of another
module _ (k : ℕ) (l : List ℕ) (ls : List (List ℕ)) where
  one_line : eqb (byte l 0) k ≡ true → of_kind k (l ∷ ls) ≡ l ∷ of_kind k ls
  unfolding of_kind
  one_line e = simp e

  other_line : (j : ℕ) → eqb (byte l 0) j ≡ true → (j ≡ k → ⊥) → of_kind k (l ∷ ls) ≡ of_kind k ls
  unfolding of_kind
  other_line j e f = simp (ne_eqb (byte l 0) k (λ z. f (sym (eqb-true (byte l 0) j e) ∙ z)))

-- a line's time is from the first bar line on, and before the last
abbrev pub InTime : TimedSheet → List ℕ → Type 0
InTime x l = (line_at x.timing 0 ≤ four l 1) × (four l 1 < end_of x.sheet.playing.bars x.timing)

-- what some lines add to bar lines and onsets, where the bar lines have been read
record Added (x : TimedSheet) (timing : Timing) (before : List Onset) (ls : List (List ℕ)) : Type 0 where
  timing_is : x.timing ≡ timing
  onsets_are : x.sheet.playing.onsets ≡ before ++ map (onset_of x.timing) (onset_lines ls)
  in_time : Every (InTime x) (onset_lines ls)

-- what the lines that are left add to what has been read
abbrev Adds : Progress → TimedSheet → List (List ℕ) → Type 0
Adds nothing x ls = Added x (timing_by (playing_line ls) (taps_of ls)) [] ls
Adds (in_rules g) x ls = Added x (timing_by (playing_line ls) (taps_of ls)) [] ls
Adds (in_taps g bars taps) x ls = Added x (record { bar_lines = taps ++ taps_of ls }) [] ls
Adds (in_onsets g tapped timing p last) x ls =
    Added x timing p.onsets ls × (of_kind 0x42 ls ≡ []) × (x.sheet.playing.bars ≡ p.bars)

-- where no line is left
adds_none : (r : Progress) (n : ℕ) (x : TimedSheet) → at_end r n ≡ accepted x → Adds r x []
unfolding at_end of_kind
adds_none nothing n x e = absurd (accepted_not_refused (sym e))
adds_none (in_rules g) n x e = absurd (accepted_not_refused (sym e))
adds_none (in_taps g bars taps) n x e = absurd (accepted_not_refused (sym e))
adds_none (in_onsets g tapped timing p last) n x e = go (ltb 0 (length p.onsets)) e
  where
    go : (k : Bool)
        → cond k (accepted (record { sheet = record { grammar = g; playing = p }; timing = timing })) (refused 3 n) ≡ accepted x
        → Adds (in_onsets g tapped timing p last) x []
    go false q = absurd (accepted_not_refused (sym q))
    go true q =
        let is = accepted_value q in (
          record {
            timing_is = ap (λ (y : TimedSheet). y.timing) (sym is);
            onsets_are = ap (λ (y : TimedSheet). y.sheet.playing.onsets) (sym is) ∙ sym (append-nil p.onsets);
            in_time = tt;
          },
          refl,
          ap (λ (y : TimedSheet). y.sheet.playing.bars) (sym is),
        )

-- a line that is no onset adds none
adds_other : (x : TimedSheet) (timing timing' : Timing) (l : List ℕ) (ls : List (List ℕ)) (k : ℕ) → eqb (byte l 0) k ≡ true
    → (k ≡ 0x4E → ⊥) → timing ≡ timing' → Added x timing [] ls → Added x timing' [] (l ∷ ls)
adds_other x timing timing' l ls k e f same h =
    record {
      timing_is = h.timing_is ∙ same;
      onsets_are = h.onsets_are ∙ ap (map (onset_of x.timing)) (sym (other_line 0x4E l ls k e f));
      in_time = subst (Every (InTime x)) (sym (other_line 0x4E l ls k e f)) h.in_time;
    }

-- the head, or a rule: neither the `45` line nor a tap
adds_early : (x : TimedSheet) (l : List ℕ) (ls : List (List ℕ)) (k : ℕ) → eqb (byte l 0) k ≡ true → (k ≡ 0x4E → ⊥)
    → (k ≡ 0x45 → ⊥) → (k ≡ 0x42 → ⊥) → Added x (timing_by (playing_line ls) (taps_of ls)) [] ls
    → Added x (timing_by (playing_line (l ∷ ls)) (taps_of (l ∷ ls))) [] (l ∷ ls)
adds_early x l ls k e f no-head no-tap h =
    let head = other_line 0x45 l ls k e no-head in
    let taps = other_line 0x42 l ls k e no-tap in
    adds_other x _ _ l ls k e f
    (λ j. timing_by (get_or (sym head j) 0 []) (map (λ (m : List ℕ). four m 1) (sym taps j))) h

-- a rule, by its kind, or the `45` line
module _ (g : Grammar) (l : List ℕ) (ls : List (List ℕ)) (x : TimedSheet) where
  abbrev q : ℕ
  q = g.nonterminals

  abbrev n : ℕ
  n = length g.rules

  abbrev Whole : Type 0
  Whole = Added x (timing_by (playing_line (l ∷ ls)) (taps_of (l ∷ ls))) [] (l ∷ ls)

  adds_rule : (c d : Bool) → eqb (byte l 0) 0x44 ≡ c → eqb (byte l 0) 0x4C ≡ d
      → cond c (division_refusal q n l) (cond d (leaf_refusal q n l) 3) ≡ 0 → Adds (in_rules g) x ls → Whole
  adds_rule true d e f z h = adds_early x l ls 0x44 e (λ k. omega arith) (λ k. omega arith) (λ k. omega arith) h
  adds_rule false true e f z h = adds_early x l ls 0x4C f (λ k. omega arith) (λ k. omega arith) (λ k. omega arith) h
  adds_rule false false e f z h = let no : ⊥ = omega arith in absurd no

  adds_playing : eqb (byte l 0) 0x45 ≡ true → Adds (after_head g l) x ls → Whole
  unfolding after_head playing_of
  adds_playing e = go (is_tapped l) refl
    where
      head : playing_line (l ∷ ls) ≡ l
      head = ap (λ (ms : List (List ℕ)). get_or ms 0 []) (one_line 0x45 l ls e)

      taps : taps_of (l ∷ ls) ≡ taps_of ls
      taps = ap (map (λ (m : List ℕ). four m 1)) (other_line 0x42 l ls 0x45 e (λ k. omega arith))

      by : {c : Bool} → is_tapped l ≡ c
          → cond c (record { bar_lines = taps_of ls }) (even_of l) ≡ timing_by (playing_line (l ∷ ls)) (taps_of (l ∷ ls))
      by t =
          ap (λ (c : Bool). cond c (record { bar_lines = taps_of ls }) (even_of l)) (sym t)
          ∙ (λ j. timing_by (sym head j) (sym taps j))

      go : (c : Bool) → is_tapped l ≡ c → Adds (cond c (in_taps g (byte l 1) []) (in_onsets g false (even_of l) (playing_of l) 0)) x ls
          → Whole
      go true t h = adds_other x _ _ l ls 0x45 e (λ k. omega arith) (by t) h
      go false t h = adds_other x _ _ l ls 0x45 e (λ k. omega arith) (by t) h.0

  adds_in_rules : (c : Bool) → eqb (byte l 0) 0x45 ≡ c → cond c (demand (ltb 0 n) 3 (playing_refusal l)) (rule_refusal q n l) ≡ 0
      → Adds (cond c (after_head g l) (in_rules (with_rule g (rule_of l)))) x ls → Whole
  unfolding rule_refusal
  adds_in_rules true e z h = adds_playing e h
  adds_in_rules false e z h = adds_rule (eqb (byte l 0) 0x44) (eqb (byte l 0) 0x4C) refl refl z h

-- a tap: the last of them, or not
adds_tap : (g : Grammar) (bars : ℕ) (taps l : List ℕ) (ls : List (List ℕ)) (x : TimedSheet) → eqb (byte l 0) 0x42 ≡ true
    → Adds (after_tap g bars (taps ++ (four l 1 ∷ []))) x ls → Adds (in_taps g bars taps) x (l ∷ ls)
unfolding after_tap
adds_tap g bars taps l ls x e = go (ltb bars (length more))
  where
    more : List ℕ
    more = taps ++ (four l 1 ∷ [])

    -- the taps that are left, behind those that have been read
    split : (ms : List ℕ) → taps_of ls ≡ ms → more ++ ms ≡ taps ++ taps_of (l ∷ ls)
    split ms q =
        append_assoc taps (four l 1 ∷ []) ms
        ∙ (λ j. taps ++ (four l 1 ∷ sym q j))
        ∙ ap (λ (ns : List (List ℕ)). taps ++ map (λ (m : List ℕ). four m 1) ns) (sym (one_line 0x42 l ls e))

    go : (c : Bool) → Adds (cond c (in_onsets g true (record { bar_lines = more }) (no_playing bars) 0) (in_taps g bars more)) x ls
        → Adds (in_taps g bars taps) x (l ∷ ls)
    go true h =
        let all = sym (append-nil more) ∙ split [] (ap (map (λ (m : List ℕ). four m 1)) h.1) in
        adds_other x _ _ l ls 0x42 e (λ k. omega arith) (λ j. record { bar_lines = all j }) h.0
    go false h = adds_other x _ _ l ls 0x42 e (λ k. omega arith) (λ j. record { bar_lines = split (taps_of ls) refl j }) h

-- a line that is not refused
adds_line : (r : Progress) (l : List ℕ) (ls : List (List ℕ)) (x : TimedSheet) → refusal r l ≡ 0
    → Adds (after r l) x ls → Adds r x (l ∷ ls)
unfolding refusal rules_refusal after with_onset
adds_line nothing l ls x e h =
    adds_early x l ls 0x47 (cond_zero (eqb (byte l 0) 0x47) (head_refusal l) 2 e).0 (λ k. omega arith) (λ k. omega arith)
    (λ k. omega arith) h
adds_line (in_rules g) l ls x e h = adds_in_rules g l ls x (eqb (byte l 0) 0x45) refl e h
adds_line (in_taps g bars taps) l ls x e h = adds_tap g bars taps l ls x (tap_line_lem g bars taps l e).0 h
adds_line (in_onsets g tapped timing p last) l ls x e h =
    let kind = (onset_line g tapped timing p last l e).0 in
    let moment = (onset_passed timing p last l (onset_line g tapped timing p last l e).1).moment in
    let time : InTime x l = rw (h.0.timing_is, h.2) (moment.begins, moment.ends) in
    let own = ap (λ (y : Timing). onset_of y l) (sym h.0.timing_is) in (
      record {
        timing_is = h.0.timing_is;
        onsets_are =
            h.0.onsets_are ∙ append_assoc p.onsets (onset_of timing l ∷ []) (map (onset_of x.timing) (onset_lines ls))
            ∙ (λ j. p.onsets ++ (own j ∷ map (onset_of x.timing) (onset_lines ls)))
            ∙ ap (λ (ms : List (List ℕ)). p.onsets ++ map (onset_of x.timing) ms) (sym (one_line 0x4E l ls kind));
        in_time = subst (Every (InTime x)) (sym (one_line 0x4E l ls kind)) (time, h.0.in_time);
      },
      other_line 0x42 l ls 0x4E kind (λ k. omega arith) ∙ h.1,
      h.2,
    )

adds_lines : (r : Progress) (n : ℕ) (ls : List (List ℕ)) (x : TimedSheet) → read_lines r n ls ≡ accepted x → Adds r x ls
unfolding read_lines
adds_lines r n [] x e = adds_none r n x e
adds_lines r n (l ∷ ls) x e = go (refusal r l) refl (adds_lines (after r l) (n + 1) ls x)
  where
    go : (k : ℕ) → refusal r l ≡ k → (read_lines (after r l) (n + 1) ls ≡ accepted x → Adds (after r l) x ls)
        → Adds r x (l ∷ ls)
    go zero q next = adds_line r l ls x q (next (sym (read_on r n l ls q) ∙ e))
    go (suc k) q next = absurd (accepted_not_refused (sym e ∙ read_stop r n l ls (suc k) (sym q) (λ z. omega arith)))

module _ (t : List ℕ) (x : TimedSheet) (e : read_sheet t ≡ accepted x) where
  whole : Adds nothing x (lines t)
  whole = adds_lines nothing 1 (lines t) x (accepted_lines t x e)

  pub timing_read : x.timing ≡ timing_by (playing_line (lines t)) (taps_of (lines t))
  timing_read = whole.timing_is

  pub onsets_read : x.sheet.playing.onsets ≡ map (onset_of x.timing) (onset_lines (lines t))
  onsets_read = whole.onsets_are

  pub onsets_in_time : Every (InTime x) (onset_lines (lines t))
  onsets_in_time = whole.in_time

-- "Refusal 7 also comes when the unit reaches B × 20,160", whatever room there is
pub late_refused : (g : Grammar) (tapped : Bool) (timing : Timing) (p : Playing) (last : ℕ) (l : List ℕ) → byte l 0 ≡ 0x4E
    → onset_form l ≡ 0 → last ≤ four l 1 → line_at timing 0 ≤ four l 1 → p.bars * bar_units ≤ unit_in timing (four l 1)
    → refusal (in_onsets g tapped timing p last) l ≡ 7
unfolding refusal onset_refusal
late_refused g tapped timing p last l kind formed rises begins late =
    simp (eq-eqb (byte l 0) 0x4E kind, formed, moment_late p.bars timing last (four l 1) rises begins late)

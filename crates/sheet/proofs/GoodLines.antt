-- What has been read of a text is good at each step: a line that is not refused keeps it so (`good_after`).
use Rattle.std.specs.Prelude.{ℕ, ◌+◌, ◌*◌, ◌<◌, ◌≤◌, ◌≡◌, refl, Bool, ◌&&◌, List, [], ◌∷◌, ◌++◌, length, eqb, ltb}
use Rattle.std.proofs.Math.Path.{ap}
use Rattle.std.proofs.Math.Bool.{true, false, cond}
use Rattle.std.proofs.lemmas.Bool.{false≢true}
use native.Mathlib.Omega.{arith}
use Rattle.std.proofs.Math.Nat.{le_trans}
use Rattle.std.proofs.Math.Decide.{ℕ_discrete}
use Rattle.std.proofs.Common.{length-append}
use borrow.Author.Tests.{eq-eqb, ne_eqb, ltb-true}
use Rattle.slices.specs.Every.{Every, every_more, every_weaken}
use Rattle.sheet.specs.Sheet.{Rule, Onset, Grammar, Playing, Timing, bar_units, unit_in, bar_of, in_bar}
use Rattle.sheet.specs.Reading.{byte, four, all_below, bytes_from, head_refusal, head_of, division_refusal, division_of, leaf_refusal}
use Rattle.sheet.specs.Reading.{leaf_of, rule_refusal, rule_of, with_rule, playing_refusal, onset_refusal, onset_of, with_onset, Progress}
use Rattle.sheet.specs.Reading.{nothing, in_rules, in_taps, in_onsets, rules_refusal, refusal, after_head, after, demand}
use Rattle.sheet.proofs.BarLines.{units_up}
use Rattle.sheet.specs.Good.{Rising, GoodRule, GoodRules}
use Rattle.sheet.specs.SoFar.{GoodSoFar, GoodProgress}
use Rattle.sheet.specs.Laws.{length-bytes, demand_zero, cond_zero, head_passed, division_passed, leaf_passed}
use Rattle.sheet.specs.PlayingLaws.{onset_passed, tap_line_lem, onset_line}
use Rattle.sheet.proofs.GoodBars.{Small, two_small, good_start, good_tap}

-- the test that all are below q, as a property
every_below : (q : ℕ) (xs : List ℕ) → all_below q xs ≡ true → Every (λ (x : ℕ). x < q) xs
unfolding all_below
every_below q [] e = tt
every_below q (x ∷ xs) e = go (ltb x q) refl e (every_below q xs)
  where
    go : (t : Bool) → ltb x q ≡ t → (t && all_below q xs) ≡ true → (all_below q xs ≡ true → Every (λ (y : ℕ). y < q) xs)
        → (x < q) × Every (λ (y : ℕ). y < q) xs
    go true h f rest = (ltb-true x q h, rest f)
    go false h f rest = absurd (false≢true f)

good_head : (l : List ℕ) → Small l → head_refusal l ≡ 0 → GoodRules (head_of l)
unfolding head_of
good_head l h e =
    let p = head_passed l e in
    record {
      one = p.one;
      sixteen = p.sixteen;
      start = p.start;
      multiplier = two_small l 3 h;
      most = omega arith;
      rules = tt;
    }

good_with_rule : (g : Grammar) (r : Rule) → GoodRules g → GoodRule g.nonterminals r → length g.rules < 64
    → GoodRules (with_rule g r)
unfolding with_rule
good_with_rule g r h k room =
    record {
      one = h.one;
      sixteen = h.sixteen;
      start = h.start;
      multiplier = h.multiplier;
      most = rw (length-append g.rules (r ∷ [])) (omega (arith, room));
      rules = every_more (GoodRule g.nonterminals) g.rules r h.rules k;
    }

good_division : (q n : ℕ) (l : List ℕ) → Small l → division_refusal q n l ≡ 0 → GoodRule q (division_of l)
unfolding division_of
good_division q n l h e =
    let p = division_passed q n l e in
    let k = length-bytes l (byte l 4) 5 in
    record {
      head = p.head;
      weight = two_small l 2 h;
      two = rw k p.least;
      eight = rw k p.most;
      parts = every_below q (bytes_from (byte l 4) 5 l) p.parts;
    }

good_leaf : (q n : ℕ) (l : List ℕ) → Small l → leaf_refusal q n l ≡ 0 → GoodRule q (leaf_of l)
unfolding leaf_of
good_leaf q n l h e = let p = leaf_passed q n l e in record { head = p.head; weight = two_small l 2 h; kind = p.kind }

-- one onset more in the count of a bar
pub in_bar_more : (b : ℕ) (os : List Onset) (o : Onset) → in_bar b (os ++ (o ∷ [])) ≡ in_bar b os + cond (eqb (bar_of o.unit) b) 1 0
unfolding in_bar
in_bar_more b [] o = omega arith
in_bar_more b (x ∷ os) o = omega (arith, in_bar_more b os o)

rising_more : (m : ℕ) (os : List Onset) (o : Onset) → Rising m os → m ≤ o.unit → Every (λ (x : Onset). x.unit ≤ o.unit) os
    → Rising m (os ++ (o ∷ []))
rising_more m [] o r h e = (h, tt)
rising_more m (x ∷ os) o r h e = (r.0, rising_more x.unit os o r.1 e.0 e.1)

module _ (timing : Timing) (p : Playing) (last : ℕ) (l : List ℕ) (h : GoodSoFar timing p last) where
  abbrev u : ℕ
  u = unit_in timing (four l 1)

  abbrev o : Onset
  o = onset_of timing l

  few_more : (b : ℕ) → Dec (bar_of u ≡ b) → in_bar (bar_of u) p.onsets < 32 → in_bar b (p.onsets ++ (o ∷ [])) ≤ 32
  unfolding onset_of
  few_more b (yes q) k = rw (in_bar_more b p.onsets o, eq-eqb _ _ q) (omega (arith, ap (λ (x : ℕ). in_bar x p.onsets) q))
  few_more b (no q) k = rw (in_bar_more b p.onsets o, ne_eqb _ _ q) (omega (arith, h.onsets.few b))

  pub good_onset : onset_refusal timing p last l ≡ 0 → GoodSoFar timing (with_onset p o) (four l 1)
  unfolding onset_of with_onset
  good_onset e =
      let k = onset_passed timing p last l e in
      let m = k.moment in
      let up : unit_in timing last ≤ u =
      units_up p.bars timing h.time last (four l 1) h.onsets.one m.rises m.begins m.ends in
      let earlier : Every (λ (x : Onset). x.unit ≤ u) p.onsets =
      every_weaken (λ (x : Onset). x.unit ≤ unit_in timing last) (λ (x : Onset). x.unit ≤ u) (λ x m. le_trans m up) p.onsets
      h.before in
      record {
        time = h.time;
        onsets =
            record {
              one = h.onsets.one;
              sixty_four = h.onsets.sixty_four;
              most = rw (length-append p.onsets (o ∷ [])) (omega (arith, k.room));
              below =
                  every_more (λ (x : Onset). x.unit < p.bars * bar_units) p.onsets o h.onsets.below m.inside;
              pitches = every_more (λ (x : Onset). x.pitch ≤ 127) p.onsets o h.onsets.pitches k.pitch;
              rising = rising_more 0 p.onsets o h.onsets.rising (omega arith) earlier;
              few = λ b. few_more b (ℕ_discrete (bar_of u) b) k.few;
            };
        before = every_more (λ (x : Onset). x.unit ≤ u) p.onsets o earlier (omega arith);
      }

-- a line after the `47` line, by its kind
module _ (g : Grammar) (l : List ℕ) (h : Small l) (k : GoodRules g) where
  abbrev q : ℕ
  q = g.nonterminals

  abbrev n : ℕ
  n = length g.rules

  good_rule_line : rule_refusal q n l ≡ 0 → GoodRules (with_rule g (rule_of l))
  unfolding rule_refusal rule_of
  good_rule_line z = go (eqb (byte l 0) 0x44) (eqb (byte l 0) 0x4C) z
    where
      go : (a b : Bool) → cond a (division_refusal q n l) (cond b (leaf_refusal q n l) 3) ≡ 0
          → GoodRules (with_rule g (cond a (division_of l) (leaf_of l)))
      go true b z = good_with_rule g (division_of l) k (good_division q n l h z) (division_passed q n l z).room
      go false true z = good_with_rule g (leaf_of l) k (good_leaf q n l h z) (leaf_passed q n l z).room
      go false false z = let f : ⊥ = omega arith in absurd f

  good_rules_line : (c : Bool) → cond c (demand (ltb 0 n) 3 (playing_refusal l)) (rule_refusal q n l) ≡ 0
      → GoodProgress (cond c (after_head g l) (in_rules (with_rule g (rule_of l))))
  good_rules_line true z =
      let y = demand_zero (ltb 0 n) 2 (playing_refusal l) z in
      good_start g l k (ltb-true 0 n y.0) y.1
  good_rules_line false z = good_rule_line z

-- a line that is not refused keeps what has been read good
pub good_after : (r : Progress) (l : List ℕ) → Small l → GoodProgress r → refusal r l ≡ 0 → GoodProgress (after r l)
unfolding refusal rules_refusal after
good_after nothing l h g e = good_head l h (cond_zero (eqb (byte l 0) 0x47) (head_refusal l) 2 e).1
good_after (in_rules g) l h k e = good_rules_line g l h k (eqb (byte l 0) 0x45) e
good_after (in_taps g bars taps) l h k e = good_tap bars taps l h k.2 (tap_line_lem g bars taps l e).1 g k.0 k.1
good_after (in_onsets g tapped timing p last) l h k e =
    (k.0, k.1, good_onset timing p last l k.2 (onset_line g tapped timing p last l e).1)

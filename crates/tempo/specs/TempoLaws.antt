-- Laws of tempos and records: by the two durations (`equal_steady`, `larger_faster`, `smaller_slower`, `outside_steady`), by whether a bar
-- follows (`record_inside`, `record_last`), and by what the text means (`on_refused`, `on_accepted`).
use Rattle.std.specs.Prelude.{ℕ, ◌+◌, ◌≤◌, ◌<◌, ◌≡◌, refl, Bool, true, false, ◌&&◌, List, ◌⊎◌, leb, ltb, Float}
use Rattle.std.proofs.Math.Path.{ap}
use Rattle.std.proofs.Math.Bool.{cond}
use Rattle.std.proofs.lemmas.Bool.{false≢true}
use Rattle.std.proofs.Common.{inl, inr, arith, le-leb, lt-ltb, le-ltb, leb-true, ltb-true}
use Rattle.sheet.specs.Sheet.{Timing, TimedSheet, lasting}
use Rattle.sheet.specs.Outcome.{Outcome, refused, accepted, and_then}
use Rattle.sheet.specs.Reading.{read_sheet}
use Rattle.tempo.specs.declared.between.Tempo.{Tempo}
use Rattle.tempo.specs.declared.between.Tempo.TheVariants.{Steady, Faster, Slower}
use Rattle.tempo.specs.declared.between.TempoRecord.{TempoRecord}
use Rattle.tempo.specs.Tempo.{in_range, percent_of, tempo_of, no_record, record_of, record_at, record_text}

-- ---- by the two durations

-- "from 1,000 to 60,000,000"
abbrev pub InRange : (a : ℕ) → Type 0
InRange a = (1000 ≤ a) × (a ≤ 60_000_000)

pub in_range_lem : (a : ℕ) → InRange a → in_range a ≡ true
unfolding in_range
in_range_lem a h = simp (le-leb 1000 a h.0, le-leb a 60_000_000 h.1)

range_in : (a : ℕ) → in_range a ≡ true → InRange a
unfolding in_range
range_in a e = go (leb 1000 a) (leb a 60_000_000) refl refl e
  where
    go : (x y : Bool) → leb 1000 a ≡ x → leb a 60_000_000 ≡ y → (x && y) ≡ true → InRange a
    go true true p q r = (leb-true 1000 a p, leb-true a 60_000_000 q)
    go true false p q r = absurd (false≢true r)
    go false y p q r = absurd (false≢true r)

-- what holds of a steady tempo, and of the others where their tests pass, holds of the tempo that the tests pick
picked : (P : Tempo → Type 0) (i j f l : Bool) (p : Float) → P Steady
    → (i ≡ true → j ≡ true → f ≡ true → P (Faster p)) → (i ≡ true → j ≡ true → l ≡ true → P (Slower p))
    → P (cond i (cond j (cond f (Faster p) (cond l (Slower p) Steady)) Steady) Steady)
picked P false j f l p s x y = s
picked P true false f l p s x y = s
picked P true true true l p s x y = x refl refl refl
picked P true true false true p s x y = y refl refl refl
picked P true true false false p s x y = s

pub by_case : (P : Tempo → Type 0) (a1 a2 : ℕ) → P Steady → (InRange a1 → InRange a2 → a2 < a1 → P (Faster (percent_of a1 a2)))
    → (InRange a1 → InRange a2 → a1 < a2 → P (Slower (percent_of a1 a2))) → P (tempo_of a1 a2)
by_case P a1 a2 s f l =
    picked P (in_range a1) (in_range a2) (ltb a2 a1) (ltb a1 a2) (percent_of a1 a2) s
    (λ i j t. f (range_in a1 i) (range_in a2 j) (ltb-true a2 a1 t))
    (λ i j t. l (range_in a1 i) (range_in a2 j) (ltb-true a1 a2 t))

pub equal_steady : (a : ℕ) → tempo_of a a ≡ Steady
equal_steady a =
    by_case (λ (t : Tempo). t ≡ Steady) a a refl
    (λ i j t. let f : ⊥ = omega (arith, t) in absurd f)
    (λ i j t. let f : ⊥ = omega (arith, t) in absurd f)

pub outside_steady : (a1 a2 : ℕ) → ((InRange a1 → ⊥) ⊎ (InRange a2 → ⊥)) → tempo_of a1 a2 ≡ Steady
outside_steady a1 a2 (inl out) = by_case (λ (t : Tempo). t ≡ Steady) a1 a2 refl (λ i j t. absurd (out i)) (λ i j t. absurd (out i))
outside_steady a1 a2 (inr out) = by_case (λ (t : Tempo). t ≡ Steady) a1 a2 refl (λ i j t. absurd (out j)) (λ i j t. absurd (out j))

module _ (a1 a2 : ℕ) (first : InRange a1) (second : InRange a2) where
  pub larger_faster : a2 < a1 → tempo_of a1 a2 ≡ Faster (percent_of a1 a2)
  larger_faster h = simp (in_range_lem a1 first, in_range_lem a2 second, lt-ltb a2 a1 h)

  pub smaller_slower : a1 < a2 → tempo_of a1 a2 ≡ Slower (percent_of a1 a2)
  smaller_slower h = simp (in_range_lem a1 first, in_range_lem a2 second, le-ltb a2 a1 (omega (arith, h)), lt-ltb a1 a2 h)

-- ---- by whether a bar follows

module _ (bars : ℕ) (timing : Timing) (i : ℕ) where
  pub record_inside : i + 1 < bars → record_at bars timing i ≡ record_of (lasting timing i) (lasting timing (i + 1))
  unfolding record_at
  record_inside h = ap (λ t. cond t (record_of (lasting timing i) (lasting timing (i + 1))) no_record) (lt-ltb (i + 1) bars h)

  pub record_last : bars ≤ i + 1 → record_at bars timing i ≡ no_record
  unfolding record_at
  record_last h = ap (λ t. cond t (record_of (lasting timing i) (lasting timing (i + 1))) no_record) (le-ltb (i + 1) bars h)

-- ---- by what the text means

module _ (text : List ℕ) (i : ℕ) where
  abbrev then : Outcome TimedSheet → Outcome TempoRecord
  then o = and_then o (λ x. accepted (record_at x.sheet.playing.bars x.timing i))

  pub on_refused : (k n : ℕ) → read_sheet text ≡ refused k n → record_text text i ≡ refused k n
  unfolding record_text
  on_refused k n e = ap then e

  pub on_accepted : (x : TimedSheet) → read_sheet text ≡ accepted x
      → record_text text i ≡ accepted (record_at x.sheet.playing.bars x.timing i)
  unfolding record_text
  on_accepted x e = ap then e

-- Laws of reading, which proofs cite instead of the definitions' text: what a refusal 0 says of a line, and the steps of `read_lines`.
use Rattle.std.specs.Prelude.{ℕ, zero, suc, ◌+◌, ◌<◌, ◌≤◌, ◌≡◌, Bool, true, false, cond, List, [], ◌∷◌, length, eqb, leb, ltb}
use Rattle.std.proofs.Math.Path.{refl, ap}
use Rattle.std.proofs.Common.{sym, ◌∙◌, arith}
use Rattle.std.proofs.Math.Decide.{dec_le}
use borrow.Author.Tests.{eqb-true, le-leb, lt-leb, le-ltb, lt-ltb, leb-true, ltb-true}
use Rattle.hextext.specs.Text.{bad_line, lines}
use Rattle.sheet.specs.Sheet.{Grammar, Playing, Timing, TimedSheet}
use Rattle.sheet.specs.Outcome.{refused, accepted, accepted_not_refused}
use Rattle.sheet.specs.Reading.{demand, first, byte, all_below, bytes_from, head_refusal, division_refusal, leaf_refusal}
use Rattle.sheet.specs.Reading.{Progress, nothing, in_rules, in_taps, in_onsets, refusal, after, at_end}
use Rattle.sheet.specs.Reading.{read_lines, read_formed, read_sheet}

-- a demand that gives 0 is met, and what comes after it gives 0
pub demand_zero : (t : Bool) (r k : ℕ) → demand t (suc r) k ≡ 0 → (t ≡ true) × (k ≡ 0)
demand_zero true r k e = (refl, e)
demand_zero false r k e = let f : ⊥ = omega arith in absurd f

pub cond_zero : (t : Bool) (k r : ℕ) → cond t k (suc r) ≡ 0 → (t ≡ true) × (k ≡ 0)
cond_zero true k r e = (refl, e)
cond_zero false k r e = let f : ⊥ = omega arith in absurd f

-- of two refusals, one after the other: both are 0; the first is met, and the second decides; the first is not
pub first_zero : (a b : ℕ) → first a b ≡ 0 → (a ≡ 0) × (b ≡ 0)
first_zero zero b e = (refl, e)
first_zero (suc a) b e = let f : ⊥ = omega arith in absurd f

pub first_met : (a b : ℕ) → a ≡ 0 → first a b ≡ b
first_met zero b e = refl
first_met (suc a) b e = let f : ⊥ = omega arith in absurd f

pub first_failed : (a b : ℕ) → (a ≡ 0 → ⊥) → first a b ≡ a
first_failed zero b f = absurd (f refl)
first_failed (suc a) b f = refl

-- k bytes of a line are k
pub length-bytes : (l : List ℕ) (k i : ℕ) → length (bytes_from k i l) ≡ k
unfolding bytes_from
length-bytes l zero i = refl
length-bytes l (suc k) i = ap suc (length-bytes l k (i + 1))

-- what a line that is not refused has been held to
pub record HeadPassed (l : List ℕ) : Type 0 where
  pub one : 1 ≤ byte l 1
  pub sixteen : byte l 1 ≤ 16
  pub start : byte l 2 < byte l 1

pub head_passed : (l : List ℕ) → head_refusal l ≡ 0 → HeadPassed l
unfolding head_refusal
head_passed l e =
    let e₁ = (demand_zero (eqb (length l) 5) 3 _ e).1 in
    let e₂ = demand_zero (leb 1 (byte l 1)) 4 _ e₁ in
    let e₃ = demand_zero (leb (byte l 1) 16) 4 _ e₂.1 in
    let e₄ = demand_zero (ltb (byte l 2) (byte l 1)) 4 0 e₃.1 in
    record { one = leb-true _ _ e₂.0; sixteen = leb-true _ _ e₃.0; start = ltb-true _ _ e₄.0 }

pub record DivisionPassed (q before : ℕ) (l : List ℕ) : Type 0 where
  pub count : length l ≡ 5 + byte l 4
  pub least : 2 ≤ byte l 4
  pub most : byte l 4 ≤ 8
  pub head : byte l 1 < q
  pub parts : all_below q (bytes_from (byte l 4) 5 l) ≡ true
  pub room : before < 64

pub division_passed : (q before : ℕ) (l : List ℕ) → division_refusal q before l ≡ 0 → DivisionPassed q before l
unfolding division_refusal
division_passed q n l e =
    let e₁ = (demand_zero (leb 5 (length l)) 3 _ e).1 in
    let e₂ = demand_zero (leb 2 (byte l 4)) 4 _ e₁ in
    let e₃ = demand_zero (leb (byte l 4) 8) 4 _ e₂.1 in
    let e₄ = demand_zero (eqb (length l) (5 + byte l 4)) 3 _ e₃.1 in
    let e₅ = demand_zero (ltb (byte l 1) q) 4 _ e₄.1 in
    let e₆ = demand_zero (all_below q (bytes_from (byte l 4) 5 l)) 4 _ e₅.1 in
    let e₇ = demand_zero (ltb n 64) 7 0 e₆.1 in
    record {
      count = eqb-true _ _ e₄.0;
      least = leb-true _ _ e₂.0;
      most = leb-true _ _ e₃.0;
      head = ltb-true _ _ e₅.0;
      parts = e₆.0;
      room = ltb-true _ _ e₇.0;
    }

pub record LeafPassed (q before : ℕ) (l : List ℕ) : Type 0 where
  pub count : length l ≡ 5
  pub head : byte l 1 < q
  pub kind : byte l 4 ≤ 4
  pub room : before < 64

pub leaf_passed : (q before : ℕ) (l : List ℕ) → leaf_refusal q before l ≡ 0 → LeafPassed q before l
unfolding leaf_refusal
leaf_passed q n l e =
    let e₁ = demand_zero (eqb (length l) 5) 3 _ e in
    let e₂ = demand_zero (ltb (byte l 1) q) 4 _ e₁.1 in
    let e₃ = demand_zero (leb (byte l 4) 4) 4 _ e₂.1 in
    let e₄ = demand_zero (ltb n 64) 7 0 e₃.1 in
    record { count = eqb-true _ _ e₁.0; head = ltb-true _ _ e₂.0; kind = leb-true _ _ e₃.0; room = ltb-true _ _ e₄.0 }

-- a line that is not refused, and one that is
pub read_on : (r : Progress) (n : ℕ) (b : List ℕ) (ls : List (List ℕ)) → refusal r b ≡ 0
    → read_lines r n (b ∷ ls) ≡ read_lines (after r b) (n + 1) ls
unfolding read_lines
read_on r n b ls e = simp (read_lines, e)

pub read_stop : (r : Progress) (n : ℕ) (b : List ℕ) (ls : List (List ℕ)) (k : ℕ) → k ≡ refusal r b → (k ≡ 0 → ⊥)
    → read_lines r n (b ∷ ls) ≡ refused k n
unfolding read_lines
read_stop r n b ls zero e f = absurd (f refl)
read_stop r n b ls (suc k) e f = simp (read_lines, sym e)

-- the text ends among the rules, among the taps, before the first onset, after it
pub end_in_rules : (g : Grammar) (n : ℕ) → read_lines (in_rules g) n [] ≡ refused 3 n
unfolding read_lines at_end
end_in_rules g n = refl

pub end_in_taps : (g : Grammar) (bars : ℕ) (taps : List ℕ) (n : ℕ) → read_lines (in_taps g bars taps) n [] ≡ refused 17 n
unfolding read_lines at_end
end_in_taps g bars taps n = refl

module _ (g : Grammar) (tapped : Bool) (timing : Timing) (p : Playing) (last n : ℕ) where
  pub end_without : length p.onsets ≡ 0 → read_lines (in_onsets g tapped timing p last) n [] ≡ refused 3 n
  unfolding read_lines at_end
  end_without e = simp (le-ltb 0 (length p.onsets) (omega arith))

  pub end_with : (length p.onsets ≡ 0 → ⊥)
      → read_lines (in_onsets g tapped timing p last) n []
      ≡ accepted (record { sheet = record { grammar = g; playing = p }; timing = timing })
  unfolding read_lines at_end
  end_with f = simp (lt-ltb 0 (length p.onsets) (omega (arith, f)))

-- refusals 1 and 2
module _ (t : List ℕ) where
  pub too_long : 16384 < length t → read_sheet t ≡ refused 1 0
  unfolding read_sheet
  too_long h = simp (read_sheet, lt-leb (length t) 16384 h)

  formed : length t ≤ 16384 → read_sheet t ≡ read_formed (bad_line t) t
  unfolding read_sheet
  formed h = simp (read_sheet, le-leb (length t) 16384 h)

  second : (n : ℕ) → read_formed (suc n) t ≡ refused 2 (suc n)
  unfolding read_formed
  second n = refl

  pub ill_formed : length t ≤ 16384 → (k : ℕ) → k ≡ bad_line t → (k ≡ 0 → ⊥) → read_sheet t ≡ refused 2 k
  ill_formed h zero e f = absurd (f refl)
  ill_formed h (suc k) e f = formed h ∙ ap (λ (x : ℕ). read_formed x t) (sym e) ∙ second k

  pub well_formed : length t ≤ 16384 → bad_line t ≡ 0 → read_sheet t ≡ read_lines nothing 1 (lines t)
  unfolding read_formed
  well_formed h e = formed h ∙ ap (λ (x : ℕ). read_formed x t) e

-- an accepted text is not too long, has no bad line, and is read line by line
module _ (t : List ℕ) (x : TimedSheet) (e : read_sheet t ≡ accepted x) where
  accepted_fits : length t ≤ 16384
  accepted_fits = elim (dec_le (length t) 16384) [
    | yes h ↦ h
    | no h ↦ absurd (accepted_not_refused (sym e ∙ too_long t (omega arith)))
  ]

  pub accepted_formed : bad_line t ≡ 0
  accepted_formed = go (bad_line t) refl
    where
      go : (b : ℕ) → bad_line t ≡ b → b ≡ 0
      go zero q = refl
      go (suc b) q = absurd (accepted_not_refused (sym e ∙ ill_formed t accepted_fits (suc b) (sym q) (λ z. omega arith)))

  pub accepted_lines : read_lines nothing 1 (lines t) ≡ accepted x
  accepted_lines = sym (well_formed t accepted_fits accepted_formed) ∙ e

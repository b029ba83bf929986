-- Steps of reading a line of seven bytes without a loop: its bytes as one number, and the line that its digits spell. Assumes nothing.
use Prim.Native.Nat.{ℕ, ◌+◌, ◌*◌, ◌/◌, ◌<◌}
use mathlib.Core.Path.{◌≡◌, refl, sym, ◌∙◌}
use mathlib.Core.List.{List, [], ◌∷◌}
use native.Mathlib.Omega.{arith}
use lib.ListN.{length, drop, get_or}
use borrow.Author.Tests.{eq-eqb}
use Rattle.hextext.specs.Packed.{no_digit, pair_at, with_byte, tail_from, tail_of, front_of, packed, line_read}
use Rattle.hextext.specs.Laws.{pair_small}
use Rattle.hextext.proofs.DigitSteps.{both_digits}
use Rattle.hextext.proofs.PackSteps.{spelled_none, spelled_pair, spelled_end, no_pair_close, closed_line_lem, closes_at}

-- one byte more behind fewer than eight, which are x
short : (y x b : ℕ) → y ≡ x → x < 72057594037927936 → with_byte y b ≡ x * 256 + b
short y x b e h = omega (arith, e)

-- seven bytes as one number
tail_seven : (a b c d e f g : ℕ) → a < 256 → b < 256 → c < 256 → d < 256 → e < 256 → f < 256 → g < 256
    → tail_of (a ∷ b ∷ c ∷ d ∷ e ∷ f ∷ g ∷ [])
    ≡ (((a * 256 + b) * 65536 + (c * 256 + d)) * 65536 + (e * 256 + f)) * 256 + g
unfolding tail_from
tail_seven a b c d e f g ha hb hc hd he hf hg =
    let two = a * 256 + b in
    let three = two * 256 + c in
    let four = three * 256 + d in
    let five = four * 256 + e in
    let six = five * 256 + f in
    let one : with_byte 0 a ≡ a = omega arith in
    short _ six g (short _ five f (short _ four e (short _ three d (short _ two c (short _ a b one (omega arith)) (omega arith))
    (omega arith)) (omega arith)) (omega arith)) (omega arith)
    ∙ omega arith

module _ (t : List ℕ) where
  -- a pair of digits spells a byte
  pair_byte : (i : ℕ) → pair_at t i < no_digit → pair_at t i < 256
  pair_byte i h =
      let q = both_digits (get_or t i 0) (get_or t (i + 1) 0) h in
      omega (arith, q.2, pair_small (get_or t i 0) (get_or t (i + 1) 0))

  -- two pairs of which both are
  both_pairs : (i k x : ℕ) → x ≡ pair_at t i * 256 + pair_at t k → x < no_digit → (pair_at t i < no_digit) × (pair_at t k < no_digit)
  both_pairs i k x e h = (omega (arith, e), omega (arith, e))

  -- a line of seven bytes, looked up four digits at a time
  pub seven_is : (at : ℕ) → at + 14 < length t → get_or t (at + 14) 0 ≡ 10
      → (first second third last : ℕ) → first ≡ pair_at t at * 256 + pair_at t (at + 2)
      → second ≡ pair_at t (at + 4) * 256 + pair_at t (at + 4 + 2) → third ≡ pair_at t (at + 8) * 256 + pair_at t (at + 8 + 2)
      → last ≡ pair_at t (at + 12) → first < no_digit → second < no_digit → third < no_digit → last < 256
      → record {
        kind = first / 256;
        count = 7;
        front = 0;
        tail = ((first * 65536 + second) * 65536 + third) * 256 + last;
        next = at + 14 + 1;
      }
      ≡ line_read t at
  unfolding packed front_of
  seven_is at room close first second third last e₁ e₂ e₃ e₄ h₁ h₂ h₃ h₄ =
      let a = both_pairs at (at + 2) first e₁ h₁ in
      let c = both_pairs (at + 4) (at + 4 + 2) second e₂ h₂ in
      let e = both_pairs (at + 8) (at + 8 + 2) third e₃ h₃ in
      let g : pair_at t (at + 12) < no_digit = omega (arith, e₄) in
      let one = spelled_pair (spelled_none t at) (omega arith) _ refl a.0 (at + 2) (omega arith) in
      let two = spelled_pair one (omega arith) _ refl a.1 (at + 4) (omega arith) in
      let three = spelled_pair two (omega arith) _ refl c.0 (at + 4 + 2) (omega arith) in
      let four = spelled_pair three (omega arith) _ refl c.1 (at + 8) (omega arith) in
      let five = spelled_pair four (omega arith) _ refl e.0 (at + 8 + 2) (omega arith) in
      let six = spelled_pair five (omega arith) _ refl e.1 (at + 12) (omega arith) in
      let seven = spelled_pair six (omega arith) _ refl g (at + 14) (omega arith) in
      let kind : first / 256 ≡ pair_at t at = omega (arith, e₁, pair_byte (at + 2) a.1) in
      let tail =
      (λ j. ((e₁ j * 65536 + e₂ j) * 65536 + e₃ j) * 256 + e₄ j)
      ∙ sym (tail_seven _ _ _ _ _ _ _ (pair_byte at a.0) (pair_byte (at + 2) a.1) (pair_byte (at + 4) c.0)
      (pair_byte (at + 4 + 2) c.1) (pair_byte (at + 8) e.0) (pair_byte (at + 8 + 2) e.1) (pair_byte (at + 12) g)) in
      let closes = closes_at t (at + 14) room ∙ eq-eqb _ 10 close in
      (λ j. record { kind = kind j; count = 7; front = 0; tail = tail j; next = at + 14 + 1 })
      ∙ sym (closed_line_lem _ (at + 14) (drop (at + 14) t) (λ z. omega (arith, z)) closes)
      ∙ spelled_end seven (no_pair_close t (at + 14) room close)

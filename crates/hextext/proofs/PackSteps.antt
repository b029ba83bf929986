-- Steps of reading a line in one pass: what holds where some of its bytes have been packed, how a pair keeps it, and what a line comes to
-- where no pair is next. Assumes nothing.
use Prim.Native.Nat.{ℕ, ◌+◌, ◌<◌, ◌≤◌}
use mathlib.Core.Path.{◌≡◌, refl, sym, ap, ◌∙◌}
use mathlib.Core.Bool.{Bool, true, false, ◌&&◌, false≢true}
use mathlib.Core.List.{List, [], ◌∷◌, ◌++◌}
use native.Mathlib.Decide.{ℕ_discrete, dec_lt}
use native.Mathlib.Omega.{arith}
use lib.ListN.{length, drop, get_or, drop_of_length-le}
use lib.Dec.{eqb}
use borrow.Author.Tests.{eqb-true, eq-eqb, ne_eqb}
use Rattle.slices.specs.Lookup.{drop-step}
use Rattle.slices.specs.Test.{and_both}
use Rattle.hextext.specs.declared.line.Line.{Line}
use Rattle.hextext.specs.Text.{is_digit, line_bytes, line_size}
use Rattle.hextext.specs.Packed.{no_digit, pair_at, formed_from, formed, packed, no_line, or_none, line_read, has_byte, closes, closed_line}
use Rattle.hextext.specs.Laws.{bytes_closed, size_closed}
use Rattle.hextext.specs.OnePass.{form_close, form_pair, no_digit_10}
use Rattle.hextext.proofs.LineSteps.{Ahead, ahead_none, ahead_all, ahead_pair, two_steps}
use Rattle.hextext.proofs.DigitSteps.{both_digits}

-- ---- the end of a line

module _ (bs : List ℕ) (i : ℕ) (t : List ℕ) where
  -- it has no byte
  pub closed_empty : length bs ≡ 0 → closed_line bs i t ≡ no_line
  unfolding closed_line
  closed_empty e = go bs e
    where
      go : (cs : List ℕ) → length cs ≡ 0 → or_none (has_byte cs && closes t) (packed cs (i + 1)) ≡ no_line
      go [] k = refl
      go (c ∷ cs) k = let f : ⊥ = omega arith in absurd f

  -- nothing closes it
  pub closed_open : closes t ≡ false → closed_line bs i t ≡ no_line
  unfolding closed_line
  closed_open e = rw e (go (has_byte bs))
    where
      go : (x : Bool) → or_none (x && false) (packed bs (i + 1)) ≡ no_line
      go true = refl
      go false = refl

  -- byte 0A does
  pub closed_line_lem : (length bs ≡ 0 → ⊥) → closes t ≡ true → closed_line bs i t ≡ packed bs (i + 1)
  unfolding closed_line
  closed_line_lem f e = rw e (go bs f)
    where
      go : (cs : List ℕ) → (length cs ≡ 0 → ⊥) → or_none (has_byte cs && true) (packed bs (i + 1)) ≡ packed bs (i + 1)
      go [] k = absurd (k refl)
      go (c ∷ cs) k = refl

-- which byte is next in a text
pub closes_past : (t : List ℕ) (i : ℕ) → length t ≤ i → closes (drop i t) ≡ false
closes_past t i h = rw (drop_of_length-le t {i = i} h) refl

pub closes_at : (t : List ℕ) (i : ℕ) → i < length t → closes (drop i t) ≡ eqb (get_or t i 0) 10
closes_at t i h = rw (drop-step t i h) refl

-- ---- a line in the course of reading

-- of the line that starts at `at`, the bytes bs in front of place i have been read, and whether it is well formed shows in what is left
pub record Spelled (text : List ℕ) (at : ℕ) (bs : List ℕ) (i : ℕ) : Type 0 where
  pub ahead : Ahead text at bs i
  pub form : formed (drop at text) ≡ formed_from (has_byte bs) (drop i text)

-- none
pub spelled_none : (text : List ℕ) (at : ℕ) → Spelled text at [] at
spelled_none text at = record { ahead = ahead_none text at; form = refl }

byte_more : (bs : List ℕ) (b : ℕ) → has_byte (bs ++ (b ∷ [])) ≡ true
byte_more [] b = refl
byte_more (c ∷ bs) b = refl

-- no pair is next: what is left closes the line, or it is not well formed
abbrev pub NoPair : List ℕ → Type 0
NoPair u = (c : Bool) → formed_from c u ≡ (c && closes u)

none_false : (c : Bool) → false ≡ (c && false)
none_false true = refl
none_false false = refl

and_true : (c : Bool) → c ≡ (c && true)
and_true true = refl
and_true false = refl

module _ (t : List ℕ) (i : ℕ) where
  -- at the end of the text
  pub no_pair_end : length t ≤ i + 1 → NoPair (drop i t)
  unfolding formed_from
  no_pair_end h c = go (dec_lt i (length t))
    where
      go : Dec (i < length t) → formed_from c (drop i t) ≡ (c && closes (drop i t))
      go (yes l) =
          let here : drop i t ≡ get_or t i 0 ∷ [] = rw (drop-step t i l, drop_of_length-le t {i = i + 1} (omega arith)) in
          rw here refl
      go (no l) = rw (drop_of_length-le t {i = i} (omega arith)) (none_false c)

  -- at byte 0A
  pub no_pair_close : i < length t → get_or t i 0 ≡ 10 → NoPair (drop i t)
  no_pair_close h e c = rw (drop-step t i h) (form_close c (get_or t i 0) _ e ∙ rw (eq-eqb (get_or t i 0) 10 e) (and_true c))

  -- at two bytes that are not both digits
  pub no_pair_two : i + 1 < length t → (is_digit (get_or t i 0) && is_digit (get_or t (i + 1) 0)) ≡ false → NoPair (drop i t)
  no_pair_two h e c = go (ℕ_discrete (get_or t i 0) 10)
    where
      go : Dec (get_or t i 0 ≡ 10) → formed_from c (drop i t) ≡ (c && closes (drop i t))
      go (yes k) = no_pair_close (omega arith) k c
      go (no f) =
          rw (two_steps t i h)
          (form_pair c (get_or t i 0) (get_or t (i + 1) 0) _ f ∙ rw (e, ne_eqb (get_or t i 0) 10 f) (none_false c))

-- a line that what is left closes
closing : (u : List ℕ) → closes u ≡ true → (line_bytes u ≡ []) × (line_size u ≡ 1)
closing [] e = absurd (false≢true e)
closing (h ∷ t) e = let k = eqb-true h 10 e in (bytes_closed h k t, size_closed h k t)

module _ {text : List ℕ} {at : ℕ} {bs : List ℕ} {i : ℕ} (p : Spelled text at bs i) where
  -- the line ends
  pub spelled_end : NoPair (drop i text) → closed_line bs i (drop i text) ≡ line_read text at
  unfolding closed_line line_read
  spelled_end none = go (has_byte bs && closes (drop i text)) refl (p.form ∙ none (has_byte bs))
    where
      go : (x : Bool) → (has_byte bs && closes (drop i text)) ≡ x → formed (drop at text) ≡ (has_byte bs && closes (drop i text))
          → or_none (has_byte bs && closes (drop i text)) (packed bs (i + 1))
          ≡ or_none (formed (drop at text)) (packed (line_bytes (drop at text)) (at + line_size (drop at text)))
      go true z f =
          let c = closing (drop i text) (and_both (has_byte bs) (closes (drop i text)) z).1 in
          let b = ahead_all p.ahead c.0 in
          let s : i + 1 ≡ at + line_size (drop at text) = omega (arith, c.1, p.ahead.size) in
          rw (f, z) (λ j. packed (sym b j) (s j))
      go false z f = rw (f, z) refl

  -- a pair is next
  pub spelled_pair : i + 1 < length text → (b : ℕ) → pair_at text i ≡ b → b < no_digit → (k : ℕ) → k ≡ i + 1 + 1
      → Spelled text at (bs ++ (b ∷ [])) k
  spelled_pair h b e small k ek =
      let q = both_digits (get_or text i 0) (get_or text (i + 1) 0) (omega arith) in
      let f = no_digit_10 (get_or text i 0) q.0 in
      let rest = drop (i + 1 + 1) text in
      rw ek (record {
        ahead = ahead_pair p.ahead h f b (sym e ∙ q.2);
        form =
            p.form ∙ ap (formed_from (has_byte bs)) (two_steps text i h)
            ∙ form_pair (has_byte bs) (get_or text i 0) (get_or text (i + 1) 0) rest f
            ∙ rw (q.0, q.1, byte_more bs b) refl;
      })

-- these bytes are packed in l
pub record Packs (text : List ℕ) (at : ℕ) (l : Line) (i : ℕ) : Type 0 where
  pub bs : List ℕ
  pub is : l ≡ packed bs 0
  pub spelled : Spelled text at bs i

-- none
pub packs_none : (text : List ℕ) (at : ℕ) → Packs text at no_line at
unfolding packed
packs_none text at = record { bs = []; is = refl; spelled = spelled_none text at }

module _ {text : List ℕ} {at : ℕ} {l : Line} {i : ℕ} (p : Packs text at l i) where
  -- as many bytes as pairs of the text
  pub packs_count : l.count ≤ i
  unfolding packed
  packs_count = omega (arith, ap (λ (x : Line). x.count) p.is, p.spelled.ahead.place)

  -- a pair is next
  pub packs_pair : i + 1 < length text → (b : ℕ) → pair_at text i ≡ b → b < no_digit → (m : Line) → m ≡ packed (p.bs ++ (b ∷ [])) 0
      → (k : ℕ) → k ≡ i + 1 + 1 → Packs text at m k
  packs_pair h b e small m is k ek =
      record { bs = p.bs ++ (b ∷ []); is = is; spelled = spelled_pair p.spelled h b e small k ek }

-- Reading a text line by line, in one pass, where its first bad line goes before everything else: the law is stated over any reader of
-- lines. Assumes nothing.
use Prim.Native.Nat.{ℕ, zero, suc, ◌+◌, ◌<◌}
use Rattle.std.specs.Prelude.{◌≡◌, Bool, ◌&&◌, length, drop}
use Rattle.std.proofs.Math.Path.{refl, ap}
use Rattle.std.proofs.Common.{sym, ◌∙◌, drop-drop, eq-eqb, ne_eqb}
use Rattle.std.proofs.Math.Bool.{true, false}
use Rattle.std.proofs.lemmas.Bool.{false≢true}
use mathlib.Core.List.{List, [], ◌∷◌}
use Rattle.std.proofs.Math.Decide.{ℕ_discrete}
use native.Mathlib.Omega.{arith}
use Rattle.slices.specs.Test.{and_both}
use Rattle.hextext.specs.Text.{is_digit, Place, first, odd, even, bad_from, line_bytes, line_size, lines}
use Rattle.hextext.specs.Packed.{formed_from, formed}
use Rattle.hextext.specs.Laws.{choice, size_closed, size_pair, lines_first, no_digit_low}
use Rattle.hextext.specs.Formed.{by_step, at_digit, place, after_place}

-- ---- the form of a line, byte by byte

module _ (c : Bool) (h : ℕ) where
  -- byte 0A closes a line that has a pair
  pub form_close : (t : List ℕ) → h ≡ 10 → formed_from c (h ∷ t) ≡ c
  unfolding formed_from
  form_close [] e = rw (eq-eqb h 10 e) (go c)
    where
      go : (x : Bool) → (x && true) ≡ x
      go true = refl
      go false = refl
  form_close (l ∷ t) e = ap (choice c ((is_digit h && is_digit l) && formed_from true t)) (eq-eqb h 10 e)

  -- no other last byte does
  form_last : (h ≡ 10 → ⊥) → formed_from c (h ∷ []) ≡ false
  unfolding formed_from
  form_last f = rw (ne_eqb h 10 f) (go c)
    where
      go : (x : Bool) → (x && false) ≡ false
      go true = refl
      go false = refl

  -- and any other byte is the first of a pair
  pub form_pair : (l : ℕ) (t : List ℕ) → (h ≡ 10 → ⊥)
      → formed_from c (h ∷ l ∷ t) ≡ ((is_digit h && is_digit l) && formed_from true t)
  unfolding formed_from
  form_pair l t f = ap (choice c ((is_digit h && is_digit l) && formed_from true t)) (ne_eqb h 10 f)

-- byte 0A is no digit
pub no_digit_10 : (h : ℕ) → is_digit h ≡ true → h ≡ 10 → ⊥
no_digit_10 h d e = false≢true (sym (no_digit_low h (omega arith)) ∙ d)

-- ---- the search for a bad line

-- byte 0A: it closes a line that has a pair, and is a fault elsewhere
bad_close : (n : ℕ) (c : Bool) (h : ℕ) (t : List ℕ) → h ≡ 10
    → ((c ≡ true → bad_from n (place c) (h ∷ t) ≡ bad_from (n + 1) first t)
    × (c ≡ false → bad_from n (place c) (h ∷ t) ≡ n))
bad_close n true h t e = (λ k. by_step n even h t ∙ rw (eq-eqb h 10 e) refl, λ k. absurd (false≢true (sym k)))
bad_close n false h t e = (λ k. absurd (false≢true k), λ k. by_step n first h t ∙ rw (eq-eqb h 10 e) refl)

-- a byte that is neither a digit nor 0A is a fault
bad_foreign : (n : ℕ) (p : Place) (h : ℕ) (t : List ℕ) → (h ≡ 10 → ⊥) → is_digit h ≡ false → bad_from n p (h ∷ t) ≡ n
bad_foreign n p h t f d = by_step n p h t ∙ rw (ne_eqb h 10 f, d) refl

-- so is a byte 0A after an odd number of digits, and the end of the text
bad_odd : (n h : ℕ) (t : List ℕ) → is_digit h ≡ false → bad_from n odd (h ∷ t) ≡ n
bad_odd n h t d = go (ℕ_discrete h 10)
  where
    go : Dec (h ≡ 10) → bad_from n odd (h ∷ t) ≡ n
    go (yes e) = by_step n odd h t ∙ rw (eq-eqb h 10 e) refl
    go (no f) = bad_foreign n odd h t f d

-- a digit is the first of a pair
bad_first : (n : ℕ) (c : Bool) (h : ℕ) (t : List ℕ) → is_digit h ≡ true → bad_from n (place c) (h ∷ t) ≡ bad_from n odd t
bad_first n c h t d = at_digit n (place c) h t (no_digit_10 h d) d ∙ ap (λ (p : Place). bad_from n p t) (after_place c)

bad_second : (n l : ℕ) (t : List ℕ) → is_digit l ≡ true → bad_from n odd (l ∷ t) ≡ bad_from n even t
bad_second n l t d = at_digit n odd l t (no_digit_10 l d) d

-- a line that is well formed moves the search behind it
pub bad_on : (n : ℕ) (c : Bool) (u : List ℕ) → formed_from c u ≡ true
    → bad_from n (place c) u ≡ bad_from (n + 1) first (drop (line_size u) u)
unfolding formed_from line_size
bad_on n c [] e = absurd (false≢true e)
bad_on n c (h ∷ []) e = go (ℕ_discrete h 10)
  where
    go : Dec (h ≡ 10) → bad_from n (place c) (h ∷ []) ≡ bad_from (n + 1) first []
    go (yes k) = (bad_close n c h [] k).0 (sym (form_close c h [] k) ∙ e)
    go (no f) = absurd (false≢true (sym (form_last c h f) ∙ e))
bad_on n c (h ∷ l ∷ t) e = go (ℕ_discrete h 10) (bad_on n true t)
  where
    go : Dec (h ≡ 10) → (formed_from true t ≡ true → bad_from n even t ≡ bad_from (n + 1) first (drop (line_size t) t))
        → bad_from n (place c) (h ∷ l ∷ t) ≡ bad_from (n + 1) first (drop (line_size (h ∷ l ∷ t)) (h ∷ l ∷ t))
    go (yes k) behind = rw (size_closed h k (l ∷ t)) ((bad_close n c h (l ∷ t) k).0 (sym (form_close c h (l ∷ t) k) ∙ e))
    go (no f) behind =
        let both = and_both (is_digit h && is_digit l) (formed_from true t) (sym (form_pair c h l t f) ∙ e) in
        let digits = and_both (is_digit h) (is_digit l) both.0 in
        rw (size_pair h l t f, ← drop-drop (line_size t) 2 (h ∷ l ∷ t))
        (bad_first n c h (l ∷ t) digits.0 ∙ bad_second n l t digits.1 ∙ behind both.1)

-- and any other ends it
pub bad_here : (n : ℕ) (c : Bool) (u : List ℕ) → (c ≡ false → 0 < length u) → formed_from c u ≡ false
    → bad_from n (place c) u ≡ n
unfolding formed_from bad_from
bad_here n false [] some e = let f : ⊥ = omega (arith, some refl) in absurd f
bad_here n true [] some e = refl
bad_here n c (h ∷ []) some e = go (ℕ_discrete h 10) (is_digit h) refl
  where
    go : Dec (h ≡ 10) → (d : Bool) → is_digit h ≡ d → bad_from n (place c) (h ∷ []) ≡ n
    go (yes k) d z = (bad_close n c h [] k).1 (sym (form_close c h [] k) ∙ e)
    go (no f) true z = bad_first n c h [] z
    go (no f) false z = bad_foreign n (place c) h [] f z
bad_here n c (h ∷ l ∷ t) some e = go (ℕ_discrete h 10) (is_digit h) refl (is_digit l) refl (bad_here n true t)
  where
    go : Dec (h ≡ 10) → (d : Bool) → is_digit h ≡ d → (d' : Bool) → is_digit l ≡ d'
        → ((true ≡ false → 0 < length t) → formed_from true t ≡ false → bad_from n even t ≡ n)
        → bad_from n (place c) (h ∷ l ∷ t) ≡ n
    go (yes k) d z d' z' behind = (bad_close n c h (l ∷ t) k).1 (sym (form_close c h (l ∷ t) k) ∙ e)
    go (no f) false z d' z' behind = bad_foreign n (place c) h (l ∷ t) f z
    go (no f) true z false z' behind = bad_first n c h (l ∷ t) z ∙ bad_odd n l t z'
    go (no f) true z true z' behind =
        bad_first n c h (l ∷ t) z ∙ bad_second n l t z'
        ∙ behind (λ g. absurd (false≢true (sym g))) (sym (form_pair c h l t f ∙ rw (z, z') refl) ∙ e)

-- ---- any reader of lines

-- what is made of a text whose first bad line is k, 0 for none: `bad k`, and else x
abbrev pub unless_bad : {A : Type 0} → (bad : ℕ → A) → (k : ℕ) → A → A
unless_bad bad zero x = x
unless_bad bad (suc k) x = bad (suc k)

-- what a reader makes of a text whose first line is line n: its first bad line goes before all that the reader finds in the lines
unfoldable pub read_text : {A : Type 0} → (bad : ℕ → A) → (n : ℕ) → (read : List (List ℕ) → A) → List ℕ → A
read_text bad n read t = unless_bad bad (bad_from n first t) (read (lines t))

module _ {A : Type 0} (bad : ℕ → A) (n : ℕ) (read : List (List ℕ) → A) where
  -- no line is left
  pub text_end : read_text bad n read [] ≡ read []
  unfolding read_text bad_from lines
  text_end = refl

  module _ (t : List ℕ) (some : 0 < length t) where
    -- the first line is bad
    pub text_bad : 0 < n → formed t ≡ false → read_text bad n read t ≡ bad n
    unfolding read_text
    text_bad pos e = ap (λ (k : ℕ). unless_bad bad k (read (lines t))) (bad_here n false t (λ z. some) e) ∙ go n pos
      where
        go : (k : ℕ) → 0 < k → unless_bad bad k (read (lines t)) ≡ bad k
        go zero h = let f : ⊥ = omega arith in absurd f
        go (suc k) h = refl

    -- the first line is well formed, and the reader goes on behind it
    pub text_on : (read' : List (List ℕ) → A) → formed t ≡ true
        → ((ls : List (List ℕ)) → read (line_bytes t ∷ ls) ≡ read' ls)
        → read_text bad n read t ≡ read_text bad (n + 1) read' (drop (line_size t) t)
    unfolding read_text
    text_on read' e f =
        λ i. unless_bad bad (bad_on n false t e i) ((ap read (lines_first t some) ∙ f (lines (drop (line_size t) t))) i)

    -- the reader stops at the first line, whatever stands behind it: a bad line there still goes before
    pub text_stop : (x : A) → ((ls : List (List ℕ)) → read (line_bytes t ∷ ls) ≡ x)
        → read_text bad n read t ≡ read_text bad n (λ _. x) t
    unfolding read_text
    text_stop x f =
        ap (unless_bad bad (bad_from n first t)) (ap read (lines_first t some) ∙ f (lines (drop (line_size t) t)))

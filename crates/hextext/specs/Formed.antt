-- The first line of a text without a bad line is its bytes written as a line (`first_line`), and a line that is written moves the search
-- for a bad line behind it (`line_formed`). Assumes nothing.
use Rattle.std.specs.Prelude.{ℕ, ◌+◌, ◌*◌, ◌-◌, ◌/◌, ◌%◌, ◌<◌, ◌≡◌, Bool, true, false, ◌&&◌, ◌||◌, List, [], ◌∷◌, ◌++◌, length, drop, eqb, leb}
use Rattle.std.proofs.Math.Path.{refl}
use Rattle.std.proofs.Common.{sym, ap, subst, ◌∙◌, mod-lt, div-add-mod', arith, drop-drop, eq-eqb, ne_eqb, leb-true, le-leb}
use Rattle.std.proofs.lemmas.Bool.{false≢true, lt-leb}
use Rattle.std.proofs.Math.Decide.{ℕ_discrete, dec_lt}
use Rattle.slices.specs.Every.{Every}
use Rattle.slices.specs.Test.{and_both}
use Rattle.hextext.specs.Text.{is_digit, value, pair, Place, first, odd, even, after_digit, may_close, bad_from, bad_line, line_bytes}
use Rattle.hextext.specs.Text.{line_size}
use Rattle.hextext.specs.Written.{digit_of, pairs_of, line_text}
use Rattle.hextext.specs.Laws.{value_numeral, value_letter, value_small, bytes_closed, size_closed, bytes_pair, size_pair}
use Rattle.hextext.specs.WrittenLaws.{digit_of_num, digit_of_letter, digit_no_close}

-- ---- digits

by_or : {P : Type 0} (x y : Bool) → (x || y) ≡ true → (x ≡ true → P) → (y ≡ true → P) → P
by_or true y e f g = f refl
by_or false y e f g = g e

-- a digit that is read is written as it was
pub digit_same : (b : ℕ) → is_digit b ≡ true → digit_of (value b) ≡ b
unfolding is_digit
digit_same b e =
    by_or (leb 48 b && leb b 57) (leb 65 b && leb b 70) e
    (λ h. let k = and_both (leb 48 b) (leb b 57) h in
    let l = leb-true 48 b k.0 in
    let m = leb-true b 57 k.1 in
    rw (value_numeral b l m, digit_of_num (b - 48) (omega arith)) (omega arith))
    (λ h. let k = and_both (leb 65 b) (leb b 70) h in
    let l = leb-true 65 b k.0 in
    let m = leb-true b 70 k.1 in
    rw (value_letter b l m, digit_of_letter (b - 55) (omega arith)) (omega arith))

-- a digit that is written is a digit
pub written_digit : (n : ℕ) → n < 16 → is_digit (digit_of n) ≡ true
unfolding is_digit
written_digit n h = go (dec_lt n 10)
  where
    go : Dec (n < 10) → is_digit (digit_of n) ≡ true
    go (yes l) = rw (digit_of_num n l) (simp (le-leb 48 (n + 48) (omega arith), le-leb (n + 48) 57 (omega arith)))
    go (no l) =
        rw (digit_of_letter n (omega arith))
        (simp (
          le-leb 48 (n + 55) (omega arith),
          lt-leb (n + 55) 57 (omega arith),
          le-leb 65 (n + 55) (omega arith),
          le-leb (n + 55) 70 (omega arith),
        ))

-- the digits of a pair
pair_digits : (a b : ℕ) → (pair a b / 16 ≡ value a) × (pair a b % 16 ≡ value b)
unfolding pair
pair_digits a b =
    let n = value a * 16 + value b in
    let low = value_small b in
    let whole = div-add-mod' n 16 in
    let rest = mod-lt n {m = 16} (omega arith) in
    (omega (arith, low, whole, rest), omega (arith, low, whole, rest))

-- ---- one byte in the search for a bad line

-- the choice that `bad_from` makes at a byte
abbrev pub step : (x y z : Bool) (n closed more : ℕ) → ℕ
step x y z n c d = elim x [ true ↦ elim y [ true ↦ c | false ↦ n ] | false ↦ elim z [ true ↦ d | false ↦ n ] ]

module _ (n : ℕ) (p : Place) (a : ℕ) (t : List ℕ) where
  pub by_step : bad_from n p (a ∷ t) ≡ step (eqb a 10) (may_close p) (is_digit a) n (bad_from (n + 1) first t) (bad_from n (after_digit p) t)
  unfolding bad_from
  by_step = refl

  -- a digit goes on in the line
  pub at_digit : (a ≡ 10 → ⊥) → is_digit a ≡ true → bad_from n p (a ∷ t) ≡ bad_from n (after_digit p) t
  at_digit f d = by_step ∙ rw (ne_eqb a 10 f, d) refl

  -- where no line is bad, a byte that closes none is a digit
  is_digit_lem : 0 < n → (a ≡ 10 → ⊥) → bad_from n p (a ∷ t) ≡ 0 → is_digit a ≡ true
  is_digit_lem h f e = go (eqb a 10) (may_close p) (is_digit a) (ne_eqb a 10 f) (sym by_step ∙ e)
    where
      go : (x y z : Bool) → x ≡ false → step x y z n (bad_from (n + 1) first t) (bad_from n (after_digit p) t) ≡ 0 → z ≡ true
      go true y z g k = absurd (false≢true (sym g))
      go false y true g k = refl
      go false y false g k = let f : ⊥ = omega arith in absurd f

-- after an odd number of digits no line closes, and no text ends
odd_no_close : (n a : ℕ) (t : List ℕ) → 0 < n → bad_from n odd (a ∷ t) ≡ 0 → a ≡ 10 → ⊥
odd_no_close n a t h e f = go (eqb a 10) (is_digit a) (eq-eqb a 10 f) (sym (by_step n odd a t) ∙ e)
  where
    go : (x z : Bool) → x ≡ true → step x false z n (bad_from (n + 1) first t) (bad_from n even t) ≡ 0 → ⊥
    go true z g k = omega arith
    go false z g k = false≢true g

odd_no_end : (n : ℕ) → 0 < n → bad_from n odd [] ≡ 0 → ⊥
unfolding bad_from
odd_no_end n h e = omega arith

-- ---- the first line

-- a place behind whole pairs, by whether the line has one
abbrev pub place : Bool → Place
place true = even
place false = first

pub after_place : (c : Bool) → after_digit (place c) ≡ odd
after_place true = refl
after_place false = refl

-- a text is its first line, written, and what stands behind it
abbrev FirstLine : List ℕ → Type 0
FirstLine t = t ≡ line_text (line_bytes t) ++ drop (line_size t) t

first_from : (n : ℕ) (c : Bool) (t : List ℕ) → 0 < n → (c ≡ false → 0 < length t) → bad_from n (place c) t ≡ 0
    → FirstLine t
unfolding bad_from line_bytes line_size line_text pairs_of
first_from n false [] h some e = let f : ⊥ = omega (arith, some refl) in absurd f
first_from n true [] h some e = let f : ⊥ = omega arith in absurd f
first_from n c (a ∷ []) h some e = go (ℕ_discrete a 10)
  where
    go : Dec (a ≡ 10) → FirstLine (a ∷ [])
    go (yes f) = ap (λ (x : ℕ). x ∷ []) f
    go (no f) =
        let d = is_digit_lem n (place c) a [] h f e in
        let o = sym (at_digit n (place c) a [] f d) ∙ e in
        absurd (odd_no_end n h (subst (λ (p : Place). bad_from n p [] ≡ 0) (after_place c) o))
first_from n c (a ∷ b ∷ t) h some e = go (ℕ_discrete a 10) (λ f. first_from n true t h (λ g. absurd (false≢true (sym g))) f)
  where
    go : Dec (a ≡ 10) → (bad_from n even t ≡ 0 → FirstLine t) → FirstLine (a ∷ b ∷ t)
    go (yes f) behind = rw (bytes_closed a f (b ∷ t), size_closed a f (b ∷ t)) (ap (λ (x : ℕ). x ∷ b ∷ t) f)
    go (no f) behind =
        let d = is_digit_lem n (place c) a (b ∷ t) h f e in
        let o : bad_from n odd (b ∷ t) ≡ 0 =
        subst (λ (p : Place). bad_from n p (b ∷ t) ≡ 0) (after_place c) (sym (at_digit n (place c) a (b ∷ t) f d) ∙ e) in
        let g = odd_no_close n b t h o in
        let k = is_digit_lem n odd b t h g o in
        let r = behind (sym (at_digit n odd b t g k) ∙ o) in
        rw (bytes_pair a b t f, size_pair a b t f, ← drop-drop (line_size t) 2 (a ∷ b ∷ t))
        (λ j.
        (sym (digit_same a d) ∙ ap digit_of (sym (pair_digits a b).0)) j
        ∷ (sym (digit_same b k) ∙ ap digit_of (sym (pair_digits a b).1)) j ∷ r j)

-- of a text without a bad line
pub first_line : (t : List ℕ) → bad_line t ≡ 0 → t ≡ line_text (line_bytes t) ++ drop (line_size t) t
unfolding bad_line
first_line [] e = let f : ⊥ = omega arith in absurd f
first_line (b ∷ t) e = first_from 1 false (b ∷ t) (omega arith) (λ g. omega arith) e

-- ---- a line that is written

written_on : (n : ℕ) (p : Place) (d : ℕ) (t : List ℕ) → d < 16 → bad_from n p (digit_of d ∷ t) ≡ bad_from n (after_digit p) t
written_on n p d t h = at_digit n p (digit_of d) t (digit_no_close d) (written_digit d h)

-- a pair goes on in the line
pair_on : (n : ℕ) (c : Bool) (b : ℕ) (t : List ℕ) → b < 256
    → bad_from n (place c) (digit_of (b / 16) ∷ digit_of (b % 16) ∷ t) ≡ bad_from n even t
pair_on n c b t h =
    let low : b % 16 < 16 = mod-lt b (omega arith) in
    written_on n (place c) (b / 16) (digit_of (b % 16) ∷ t) (omega (arith, div-add-mod' b 16, low))
    ∙ ap (λ (p : Place). bad_from n p (digit_of (b % 16) ∷ t)) (after_place c)
    ∙ written_on n odd (b % 16) t low

formed_from_lem : (n : ℕ) (c : Bool) (bs t : List ℕ) → (c ≡ false → 0 < length bs) → Every (λ (x : ℕ). x < 256) bs
    → bad_from n (place c) (line_text bs ++ t) ≡ bad_from (n + 1) first t
unfolding line_text pairs_of
formed_from_lem n false [] t some h = let f : ⊥ = omega (arith, some refl) in absurd f
formed_from_lem n true [] t some h = by_step n even 10 t
formed_from_lem n c (b ∷ bs) t some h =
    pair_on n c b (line_text bs ++ t) h.0 ∙ formed_from_lem n true bs t (λ g. absurd (false≢true (sym g))) h.1

-- a line of one byte or more: the search goes on behind it
pub line_formed : (n : ℕ) (bs t : List ℕ) → 0 < length bs → Every (λ (x : ℕ). x < 256) bs
    → bad_from n first (line_text bs ++ t) ≡ bad_from (n + 1) first t
line_formed n bs t some h = formed_from_lem n false bs t (λ g. some) h

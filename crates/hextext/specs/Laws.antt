-- Laws of texts that are read: the values of digits, the line that starts at a place of a text, its first bad line. Assumes nothing.
use Rattle.std.specs.Prelude.{ℕ, zero, suc, ◌+◌, ◌-◌, ◌%◌, ◌<◌, ◌≤◌, ◌≡◌, Bool, true, false, cond, length, drop, get_or, eqb, leb}
use Rattle.std.proofs.Math.Path.{refl, ap}
use Rattle.std.proofs.Common.{sym, subst, mod-lt, arith, length-drop, drop-drop, eq-eqb, ne_eqb, le-leb}
use mathlib.Core.List.{List, [], ◌∷◌}
use Rattle.std.proofs.Math.Decide.{ℕ_discrete}
use Rattle.std.proofs.lemmas.Bool.{lt-leb}
use Rattle.slices.specs.Every.{Every}
use Rattle.hextext.specs.Text.{is_digit, value, pair, Place, first, after_digit, may_close, may_end, bad_from, bad_line, line_bytes}
use Rattle.hextext.specs.Text.{line_size, lines, on_first}

-- the value of a digit 0-9 and of a digit A-F
pub value_numeral : (b : ℕ) → 48 ≤ b → b ≤ 57 → value b ≡ b - 48
unfolding value
value_numeral b h k = simp (le-leb b 57 k) (omega arith)

pub value_letter : (b : ℕ) → 65 ≤ b → b ≤ 70 → value b ≡ b - 55
unfolding value
value_letter b h k = simp (lt-leb b 57 (omega arith)) (omega arith)

-- every value is below 16
pub value_small : (b : ℕ) → value b < 16
unfolding value
value_small b = go (leb b 57)
  where
    go : (t : Bool) → cond t (b % 16) ((b % 16 + 9) % 16) < 16
    go true = mod-lt b (omega arith)
    go false = mod-lt (b % 16 + 9) (omega arith)

-- a byte below 48 is no digit
pub no_digit_low : (b : ℕ) → b < 48 → is_digit b ≡ false
unfolding is_digit
no_digit_low b h = simp (lt-leb 48 b h, lt-leb 65 b (omega arith))

-- a pair spells a byte
pub pair_small : (h l : ℕ) → pair h l < 256
unfolding pair
pair_small h l = omega (arith, value_small h, value_small l)

-- the choice that `line_bytes`, `line_size` and `lines` make by whether the first byte is 0A
abbrev pub choice : {A : Type 0} → A → A → Bool → A
choice a b x = elim x [ true ↦ a | false ↦ b ]

-- a first byte 0A closes a line: it has no bytes, takes one of the text, and the lines behind it start at the next
module _ (a : ℕ) (e : a ≡ 10) where
  pub bytes_closed : (t : List ℕ) → line_bytes (a ∷ t) ≡ []
  unfolding line_bytes
  bytes_closed [] = refl
  bytes_closed (b ∷ t) = ap (choice [] (pair a b ∷ line_bytes t)) (eq-eqb a 10 e)

  pub size_closed : (t : List ℕ) → line_size (a ∷ t) ≡ 1
  unfolding line_size
  size_closed [] = refl
  size_closed (b ∷ t) = ap (choice 1 (2 + line_size t)) (eq-eqb a 10 e)

  pub lines_closed : (t : List ℕ) → lines (a ∷ t) ≡ [] ∷ lines t
  unfolding lines
  lines_closed [] = refl
  lines_closed (b ∷ t) = ap (choice ([] ∷ lines (b ∷ t)) (on_first (pair a b) (lines t))) (eq-eqb a 10 e)

-- any other is the first of a pair: the line has its byte and takes two more of the text
module _ (a b : ℕ) (t : List ℕ) (e : a ≡ 10 → ⊥) where
  pub bytes_pair : line_bytes (a ∷ b ∷ t) ≡ pair a b ∷ line_bytes t
  unfolding line_bytes
  bytes_pair = ap (choice [] (pair a b ∷ line_bytes t)) (ne_eqb a 10 e)

  pub size_pair : line_size (a ∷ b ∷ t) ≡ 2 + line_size t
  unfolding line_size
  size_pair = ap (choice 1 (2 + line_size t)) (ne_eqb a 10 e)

  pub lines_pair : lines (a ∷ b ∷ t) ≡ on_first (pair a b) (lines t)
  unfolding lines
  lines_pair = ap (choice ([] ∷ lines (b ∷ t)) (on_first (pair a b) (lines t))) (ne_eqb a 10 e)

-- one byte in front of the first line
on_first_lem : (p : ℕ) (t : List ℕ) → (0 < length t → lines t ≡ line_bytes t ∷ lines (drop (line_size t) t))
    → on_first p (lines t) ≡ (p ∷ line_bytes t) ∷ lines (drop (line_size t) t)
unfolding lines line_bytes line_size
on_first_lem p [] f = refl
on_first_lem p (b ∷ t) f = ap (on_first p) (f (omega arith))

-- a fact of a text by whether its first byte is 0A
by_first : {P : Type 0} (a : ℕ) → (a ≡ 10 → P) → ((a ≡ 10 → ⊥) → P) → P
by_first {P} a f g = go (ℕ_discrete a 10)
  where
    go : Dec (a ≡ 10) → P
    go (yes e) = f e
    go (no e) = g e

-- the lines of a text are its first line and those behind it
pub lines_first : (t : List ℕ) → 0 < length t → lines t ≡ line_bytes t ∷ lines (drop (line_size t) t)
unfolding lines line_bytes line_size
lines_first [] h = let f : ⊥ = omega arith in absurd f
lines_first (a ∷ []) h = refl
lines_first (a ∷ b ∷ t) h =
    by_first a
    (λ e. rw (lines_closed a e (b ∷ t), bytes_closed a e (b ∷ t), size_closed a e (b ∷ t)))
    (λ e. rw (lines_pair a b t e, bytes_pair a b t e, size_pair a b t e, ← drop-drop (line_size t) 2 (a ∷ b ∷ t))
    (on_first_lem (pair a b) t (lines_first t)))

-- the first line takes one byte of the text or more
size_pos : (t : List ℕ) → 0 < length t → 0 < line_size t
unfolding line_size
size_pos [] h = h
size_pos (a ∷ []) h = h
size_pos (a ∷ b ∷ t) h =
    by_first a (λ e. rw (size_closed a e (b ∷ t)) (omega arith)) (λ e. rw (size_pair a b t e) (omega arith))

-- and no more than the text has
size_within : (t : List ℕ) → line_size t ≤ length t
unfolding line_size
size_within [] = omega arith
size_within (a ∷ []) = omega arith
size_within (a ∷ b ∷ t) =
    by_first a (λ e. rw (size_closed a e (b ∷ t)) (omega arith)) (λ e. rw (size_pair a b t e) (omega (arith, size_within t)))

-- a line's bytes are below 256
pub byte_small : (t : List ℕ) (i : ℕ) → get_or (line_bytes t) i 0 < 256
unfolding line_bytes
byte_small [] i = omega arith
byte_small (a ∷ []) i = omega arith
byte_small (a ∷ b ∷ t) zero =
    by_first a (λ e. rw (bytes_closed a e (b ∷ t)) (omega arith)) (λ e. rw (bytes_pair a b t e) (pair_small a b))
byte_small (a ∷ b ∷ t) (suc i) =
    by_first a (λ e. rw (bytes_closed a e (b ∷ t)) (omega arith)) (λ e. rw (bytes_pair a b t e) (byte_small t i))

-- the line that starts at a place of a text
module _ (t : List ℕ) (i : ℕ) where
  some_left : i < length t → 0 < length (drop i t)
  some_left h = simp length-drop (omega arith)

  -- it takes one byte or more
  pub line_size_pos : i < length t → 0 < line_size (drop i t)
  line_size_pos h = size_pos (drop i t) (some_left h)

  -- it ends within the text
  pub line_within : i ≤ length t → i + line_size (drop i t) ≤ length t
  line_within h = omega (arith, size_within (drop i t), length-drop i t)

  -- so what is left of the text is less behind it
  pub line_falls : i < length t → (next : ℕ) → next ≡ i + line_size (drop i t) → length t - next < length t - i
  line_falls h next e = omega (arith, line_size_pos h)

-- a property of a line's bytes, of every line
abbrev SmallLines : List (List ℕ) → Type 0
SmallLines ls = Every (Every (λ (x : ℕ). x < 256)) ls

small_first : (b : ℕ) (ls : List (List ℕ)) → b < 256 → SmallLines ls → SmallLines (on_first b ls)
small_first b [] h e = ((h, tt), tt)
small_first b (l ∷ ls) h e = ((h, e.0), e.1)

-- every byte of every line is below 256
pub lines_small : (t : List ℕ) → SmallLines (lines t)
unfolding lines
lines_small [] = tt
lines_small (a ∷ []) = (tt, tt)
lines_small (a ∷ b ∷ t) =
    by_first a
    (λ e. subst SmallLines (sym (lines_closed a e (b ∷ t))) (tt, lines_small (b ∷ t)))
    (λ e. subst SmallLines (sym (lines_pair a b t e)) (small_first (pair a b) (lines t) (pair_small a b) (lines_small t)))

first_most : (b : ℕ) (ls : List (List ℕ)) → length (on_first b ls) ≤ 1 + length ls
first_most b [] = omega arith
first_most b (l ∷ ls) = omega arith

-- a bad line is one of the text's first lines, at most as many as it has bytes
bad_from_most : (n : ℕ) (p : Place) (t : List ℕ) → bad_from n p t ≤ n + length t
unfolding bad_from
bad_from_most n p [] = go (may_end p)
  where
    go : (b : Bool) → cond b 0 n ≤ n + 0
    go true = omega arith
    go false = omega arith
bad_from_most n p (b ∷ t) =
    go (eqb b 10) (may_close p) (is_digit b) (bad_from_most (n + 1) first t) (bad_from_most n (after_digit p) t)
  where
    go : (x y z : Bool) → bad_from (n + 1) first t ≤ n + 1 + length t → bad_from n (after_digit p) t ≤ n + length t
        → elim x [
          | true ↦ elim y [ true ↦ bad_from (n + 1) first t | false ↦ n ]
          | false ↦ elim z [
            | true ↦ bad_from n
                (after_digit p) t
            | false ↦ n
          ]
        ]
        ≤ n + suc (length t)
    go true true z h k = omega arith
    go true false z h k = omega arith
    go false y true h k = omega arith
    go false y false h k = omega arith

pub bad_line_most : (t : List ℕ) → bad_line t ≤ 1 + length t
unfolding bad_line
bad_line_most [] = omega arith
bad_line_most (b ∷ t) = bad_from_most 1 first (b ∷ t)

-- a text has at most as many lines as bytes
pub lines_most : (t : List ℕ) → length (lines t) ≤ length t
unfolding lines
lines_most [] = omega arith
lines_most (a ∷ []) = omega arith
lines_most (a ∷ b ∷ t) =
    by_first a
    (λ e. rw (lines_closed a e (b ∷ t)) (let m = lines_most (b ∷ t) in omega arith))
    (λ e. rw (lines_pair a b t e) (let m = lines_most t in let k = first_most (pair a b) (lines t) in omega arith))

-- Digits by the table: what a pair comes to, and how the table is made, digit after digit. Assumes nothing.
use Prim.Native.Nat.{ℕ, ◌+◌, ◌*◌, ◌<◌, ◌≤◌}
use mathlib.Core.Path.{◌≡◌, refl, sym, ap, subst, ◌∙◌}
use mathlib.Core.Bool.{Bool, true, false, cond, ◌&&◌}
use mathlib.Core.List.{List}
use native.Mathlib.Decide.{ℕ_discrete, dec_lt}
use native.Mathlib.Nat.{zero-add}
use native.Mathlib.Omega.{arith}
use lib.ListN.{length, get_or, set, replicate, get_or-replicate}
use lib.Seq.{get_or-set_same, get_or-set_other}
use lib.Dec.{ltb}
use borrow.Author.Tests.{lt-ltb, le-ltb}
use Rattle.hextext.specs.Text.{is_digit, value, pair}
use Rattle.hextext.specs.Written.{digit_of}
use Rattle.hextext.specs.Packed.{no_digit, digit_at, DigitTable}
use Rattle.hextext.specs.Laws.{value_small}
use Rattle.hextext.specs.WrittenLaws.{digit_back}
use Rattle.hextext.specs.Formed.{digit_same, written_digit}

-- ---- a pair

-- a digit's value in the table, and what stands for any other byte
digit_is : (k b : ℕ) → is_digit b ≡ true → digit_at k b ≡ value b * k
unfolding digit_at
digit_is k b e = rw e refl

digit_none : (k b : ℕ) → is_digit b ≡ false → digit_at k b ≡ no_digit
unfolding digit_at
digit_none k b e = rw e refl

-- what each byte comes to, by whether it is a digit
by_digit : {P : Type 0} (b : ℕ) → (is_digit b ≡ true → P) → (is_digit b ≡ false → P) → P
by_digit {P} b f g = go (is_digit b) refl
  where
    go : (d : Bool) → is_digit b ≡ d → P
    go true e = f e
    go false e = g e

-- a number below `no_digit` says that both bytes of a pair are digits, and is the byte that they spell
pub both_digits : (h l : ℕ) → digit_at 16 h + digit_at 1 l < no_digit
    → (is_digit h ≡ true) × (is_digit l ≡ true) × (digit_at 16 h + digit_at 1 l ≡ pair h l)
unfolding pair
both_digits h l k =
    by_digit h
    (λ d. by_digit l
    (λ e. (d, e, omega (arith, digit_is 16 h d, digit_is 1 l e)))
    (λ e. let f : ⊥ = omega (arith, digit_none 1 l e) in absurd f))
    (λ d. let f : ⊥ = omega (arith, digit_none 16 h d) in absurd f)

-- a larger one says that one is not
pub pair_other : (h l : ℕ) → 255 < digit_at 16 h + digit_at 1 l → (is_digit h && is_digit l) ≡ false
pair_other h l k =
    by_digit h
    (λ d. by_digit l
    (λ e.
    let v = value_small h in
    let w = value_small l in
    let f : ⊥ = omega (arith, digit_is 16 h d, digit_is 1 l e) in absurd f)
    (λ e. rw (d, e) refl))
    (λ d. rw d refl)

-- a digit is a byte
pub digit_of_most : (n : ℕ) → n < 16 → digit_of n < 256
unfolding digit_of
digit_of_most n h = go (ltb n 10)
  where
    go : (t : Bool) → cond t (48 + n) (55 + n) < 256
    go true = omega arith
    go false = omega arith

-- ---- the table of digits

-- the cell of byte b in a table of k times the digits, where those of the numbers below n have been set
abbrev cell : (k n b : ℕ) → ℕ
cell k n b = cond (is_digit b && ltb (value b) n) (value b * k) no_digit

-- these cells stand in a table, from place p on
pub Half : (k p n : ℕ) → List ℕ → Type 0
Half k p n digits = (b : ℕ) → b < 256 → get_or digits (p + b) 0 ≡ cell k n b

-- none yet
pub half_none : (k p : ℕ) → p ≤ 256 → Half k p 0 (replicate 512 no_digit)
unfolding Half
half_none k p w b h = get_or-replicate {A = ℕ} 512 (p + b) no_digit 0 (omega arith) ∙ go (is_digit b)
  where
    go : (d : Bool) → no_digit ≡ cond (d && ltb (value b) 0) (value b * k) no_digit
    go true = rw (le-ltb (value b) 0 (omega arith)) refl
    go false = refl

-- a cell of another half
pub half_other : (k p n : ℕ) (digits : List ℕ) (i x : ℕ) → ((b : ℕ) → b < 256 → p + b ≡ i → ⊥) → Half k p n digits
    → Half k p n (set digits i x)
unfolding Half
half_other k p n digits i x apart m b l = get_or-set_other digits i (p + b) x 0 (apart b l) ∙ m b l

-- one digit more
pub half_more : (k p n : ℕ) (digits : List ℕ) (i : ℕ) → i ≡ p + digit_of n → n < 16 → i < length digits → Half k p n digits
    → Half k p (n + 1) (set digits i (n * k))
unfolding Half
half_more k p n digits i ei h room m b l = go (ℕ_discrete b (digit_of n))
  where
    go : Dec (b ≡ digit_of n) → get_or (set digits i (n * k)) (p + b) 0 ≡ cell k (n + 1) b
    go (yes e) =
        subst (λ (x : ℕ). get_or (set digits i (n * k)) (p + x) 0 ≡ cell k (n + 1) x) (sym e)
        (ap (λ (x : ℕ). get_or (set digits i (n * k)) x 0) (sym ei) ∙ get_or-set_same digits i (n * k) 0 room
        ∙ rw (written_digit n h, digit_back n h, lt-ltb n (n + 1) (omega arith)) refl)
    go (no f) =
        get_or-set_other digits i (p + b) (n * k) 0 (λ e. f (omega (arith, ei)))
        ∙ m b l ∙ by_digit b (λ d. same d (dec_lt (value b) n)) (λ d. rw d refl)
      where
        same : is_digit b ≡ true → Dec (value b < n) → cell k n b ≡ cell k (n + 1) b
        same d (yes i) = rw (d, lt-ltb (value b) n i, lt-ltb (value b) (n + 1) (omega arith)) refl
        same d (no i) =
            let g : value b ≡ n → ⊥ = λ e. f (sym (digit_same b d) ∙ ap digit_of e) in
            rw (d, le-ltb (value b) n (omega arith), le-ltb (value b) (n + 1) (omega (arith, g))) refl

-- all of them: the rule of the table
half_all : (k p : ℕ) (digits : List ℕ) → Half k p 16 digits → (b : ℕ) → b < 256 → get_or digits (p + b) 0 ≡ digit_at k b
unfolding digit_at Half
half_all k p digits m b h = m b h ∙ by_digit b (λ d. rw (d, lt-ltb (value b) 16 (value_small b)) refl) (λ d. rw d refl)

pub made_all : (digits : List ℕ) → Half 16 0 16 digits → Half 1 256 16 digits → DigitTable digits
made_all digits first second b h =
    (ap (λ (i : ℕ). get_or digits i 0) (sym (zero-add b)) ∙ half_all 16 0 digits first b h, half_all 1 256 digits second b h)

-- Laws of lines that are written: the digits of a number, the length of a line, and that a line written is read as the same bytes. Assumes
-- nothing.
use Rattle.std.specs.Prelude.{ℕ, suc, ◌+◌, ◌*◌, ◌/◌, ◌%◌, ◌<◌, ◌≤◌, ◌≡◌, refl, List, [], ◌∷◌, ◌++◌, length, get_or}
use Rattle.std.proofs.Common.{ap, ◌∙◌, mod-lt, div-add-mod', arith, length-append, lt-ltb, le-ltb}
use Rattle.std.proofs.Math.Decide.{dec_lt}
use Rattle.hextext.specs.Text.{value, pair, lines, on_first}
use Rattle.hextext.specs.Written.{digit_of, pairs_of, line_text}
use Rattle.hextext.specs.Laws.{value_numeral, value_letter, lines_closed, lines_pair}

-- the digit of a number, by whether it is a figure or a letter
module _ (n : ℕ) where
  pub digit_of_num : n < 10 → digit_of n ≡ n + 48
  unfolding digit_of
  digit_of_num h = simp (lt-ltb n 10 h) (omega arith)

  pub digit_of_letter : 10 ≤ n → digit_of n ≡ n + 55
  unfolding digit_of
  digit_of_letter h = simp (le-ltb n 10 h) (omega arith)

-- a digit written is read as the number
pub digit_back : (n : ℕ) → n < 16 → value (digit_of n) ≡ n
digit_back n h = go (dec_lt n 10)
  where
    go : Dec (n < 10) → value (digit_of n) ≡ n
    go (yes l) = rw (digit_of_num n l) (value_numeral (n + 48) (omega arith) (omega arith) ∙ omega arith)
    go (no l) = rw (digit_of_letter n (omega arith)) (value_letter (n + 55) (omega arith) (omega arith) ∙ omega arith)

-- a pair written is read as the byte
pair_back : (b : ℕ) → b < 256 → pair (digit_of (b / 16)) (digit_of (b % 16)) ≡ b
unfolding pair
pair_back b h =
    let l : b % 16 < 16 = mod-lt b (omega arith) in
    let k : b / 16 < 16 = omega (arith, div-add-mod' b 16) in
    simp (digit_back (b / 16) k, digit_back (b % 16) l) (div-add-mod' b 16)

-- no digit is 0A
pub digit_no_close : (n : ℕ) → digit_of n ≡ 10 → ⊥
digit_no_close n e = go (dec_lt n 10)
  where
    go : Dec (n < 10) → ⊥
    go (yes l) = omega (arith, digit_of_num n l)
    go (no l) = omega (arith, digit_of_letter n (omega arith))

-- the pairs of bytes in two parts
pub pairs_append : (bs cs : List ℕ) → pairs_of (bs ++ cs) ≡ pairs_of bs ++ pairs_of cs
unfolding pairs_of
pairs_append [] cs = refl
pairs_append (b ∷ bs) cs = ap (λ (l : List ℕ). digit_of (b / 16) ∷ digit_of (b % 16) ∷ l) (pairs_append bs cs)

-- two digits a byte
pub length_pairs : (bs : List ℕ) → length (pairs_of bs) ≡ 2 * length bs
unfolding pairs_of
length_pairs [] = refl
length_pairs (b ∷ bs) = omega (arith, length_pairs bs)

-- a line has two digits a byte and its 0A
pub length-line : (bs : List ℕ) → length (line_text bs) ≡ 2 * length bs + 1
unfolding line_text
length-line bs = simp (length-append, length_pairs)

-- a line written in front of a text is read as the same bytes, and the text's lines behind it
pub read_back : (bs t : List ℕ) → ((i : ℕ) → i < length bs → get_or bs i 0 < 256) → lines (line_text bs ++ t) ≡ bs ∷ lines t
unfolding line_text pairs_of
read_back [] t small = lines_closed 10 refl t
read_back (b ∷ bs) t small =
    lines_pair (digit_of (b / 16)) (digit_of (b % 16)) (line_text bs ++ t) (digit_no_close (b / 16))
    ∙ rw (pair_back b (small 0 (omega arith))) (ap (on_first b) (read_back bs t (λ i h. small (suc i) (omega arith))))

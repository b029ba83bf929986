-- A line read in one pass: whether it is well formed, its count, and its bytes packed into numbers.
use Rattle.std.specs.Prelude.{ℕ, ◌+◌, ◌*◌, ◌%◌, ◌<◌, Bool, true, false, cond, ◌&&◌, Option, Some, None, List, [], ◌∷◌, ◌≡◌, length, drop}
use Rattle.std.specs.Prelude.{take, get_or, eqb, ltb}
use Rattle.hextext.specs.declared.line.Line.{Line}
use Rattle.hextext.specs.Text.{is_digit, value, line_bytes, line_size}

-- what stands for a byte that is no digit: the largest number of four digits
abbrev pub no_digit : ℕ
no_digit = 65535

-- k times the value of a byte as a digit
unfoldable pub digit_at : (k b : ℕ) → ℕ
unfolding is_digit value
digit_at k b = cond (is_digit b) (value b * k) no_digit

-- two bytes of a text, from place i on, as a pair of digits
abbrev pub pair_at : (t : List ℕ) (i : ℕ) → ℕ
pair_at t i = digit_at 16 (get_or t i 0) + digit_at 1 (get_or t (i + 1) 0)

-- the rule of the table of digits: each byte as the first digit of a pair, and behind these as the second
abbrev pub DigitTable : List ℕ → Type 0
DigitTable digits = (b : ℕ) → b < 256 → (get_or digits b 0 ≡ digit_at 16 b) × (get_or digits (256 + b) 0 ≡ digit_at 1 b)

-- whether the first line of a text is well formed: pairs of digits, one or more, closed by 0A. `begun` says that it has one already
unfoldable pub formed_from : (begun : Bool) → List ℕ → Bool
unfolding is_digit
formed_from begun [] = false
formed_from begun (h ∷ []) = begun && eqb h 10
formed_from begun (h ∷ l ∷ t) = elim (eqb h 10) [ true ↦ begun | false ↦ (is_digit h && is_digit l) && formed_from true t ]

-- the same from its first byte on
abbrev pub formed : List ℕ → Bool
formed t = formed_from false t

-- a number of eight bytes with one byte more behind them: what passes eight bytes is dropped
abbrev pub with_byte : (x b : ℕ) → ℕ
with_byte x b = x % 72057594037927936 * 256 + b

-- the last eight bytes of a line as one number, big-endian, where x is the number of those before
unfoldable pub tail_from : (x : ℕ) → List ℕ → ℕ
tail_from x [] = x
tail_from x (b ∷ bs) = tail_from (with_byte x b) bs

-- the same of a whole line, all of it where it has fewer
abbrev pub tail_of : List ℕ → ℕ
tail_of bs = tail_from 0 bs

-- the first eight bytes of a line that has more, as one number; 0 for any other
unfoldable pub front_of : List ℕ → ℕ
unfolding tail_from
front_of bs = cond (ltb 8 (length bs)) (tail_of (take 8 bs)) 0

-- a line of these bytes, behind which the text goes on at `next`
unfoldable pub packed : List ℕ → (next : ℕ) → Line
unfolding front_of tail_from
packed bs next = record { kind = get_or bs 0 0; count = length bs; front = front_of bs; tail = tail_of bs; next = next }

-- what stands for a line that is not well formed
abbrev pub no_line : Line
no_line = record { kind = 0; count = 0; front = 0; tail = 0; next = 0 }

-- a line if a test says so, and else none
abbrev pub or_none : Bool → Line → Line
or_none true l = l
or_none false l = no_line

-- the line that starts at place `at` of a text
unfoldable pub line_read : (text : List ℕ) (at : ℕ) → Line
unfolding formed_from packed line_bytes line_size
line_read text at = or_none (formed (drop at text)) (packed (line_bytes (drop at text)) (at + line_size (drop at text)))

-- a line has a byte
abbrev pub has_byte : List ℕ → Bool
has_byte [] = false
has_byte (b ∷ bs) = true

-- byte 0A is next in a text
abbrev pub closes : List ℕ → Bool
closes [] = false
closes (b ∷ t) = eqb b 10

-- a line of the bytes bs, whose pairs end at place i, where the text goes on with t
unfoldable pub closed_line : (bs : List ℕ) (i : ℕ) (t : List ℕ) → Line
unfolding packed
closed_line bs i t = or_none (has_byte bs && closes t) (packed bs (i + 1))

-- a line as it is answered: none where it has no byte, as `no_line` has none, and no line that is well formed
unfoldable pub line_if : Line → Option Line
line_if l = cond (eqb l.count 0) None (Some l)

-- the number that is answered; 0: none
abbrev pub number_in : Option ℕ → ℕ
number_in None = 0
number_in (Some n) = n

-- Texts of hexadecimal lines (document 01, "The sheet"): each line is pairs of 0-9 A-F closed by byte 0A (10), and means the list of
-- bytes that its pairs spell, of any length. `bad_line` is refusal 2; `lines` are the lines of a text that has no bad line.
use Rattle.std.specs.Prelude.{ℕ, ◌+◌, ◌*◌, ◌%◌, Bool, true, false, cond, ◌&&◌, ◌||◌, List, [], ◌∷◌, ◌≡◌, length, drop, leb, eqb}
use Rattle.slices.specs.Over.{over}
use Rattle.hextext.specs.declared.Next.{Next}

-- the digits: 0-9 are the bytes 48 to 57, A-F the bytes 65 to 70
unfoldable pub is_digit : ℕ → Bool
is_digit b = (leb 48 b && leb b 57) || (leb 65 b && leb b 70)

-- the value of a digit: its low four bits, for A-F with 9 added (`Laws.value_numeral`, `Laws.value_letter`). `bad_line` refuses every other
-- byte, for which the same rule stands
unfoldable pub value : ℕ → ℕ
value b = cond (leb b 57) (b % 16) ((b % 16 + 9) % 16)

-- the byte that a pair of digits spells
unfoldable pub pair : ℕ → ℕ → ℕ
unfolding value
pair h l = value h * 16 + value l

-- where a byte stands in its line: first, after an odd number of digits, after one pair or more
pub data Place : Type 0 where
  first odd even : Place

-- the place of the byte after a digit
abbrev pub after_digit : Place → Place
after_digit first = odd
after_digit odd = even
after_digit even = odd

-- a 0A may stand only after one pair or more: a line is neither empty nor of odd digits
abbrev pub may_close : Place → Bool
may_close first = false
may_close odd = false
may_close even = true

-- the text may end only where its last line is closed
abbrev pub may_end : Place → Bool
may_end first = true
may_end odd = false
may_end even = false

-- the first bad line of what is left of a text, whose next byte is at a place of line n; 0: there is none
unfoldable pub bad_from : ℕ → Place → List ℕ → ℕ
unfolding is_digit
bad_from n p [] = cond (may_end p) 0 n
bad_from n p (b ∷ t) =
    elim (eqb b 10) [
      | true ↦ elim (may_close p) [ true ↦ bad_from (n + 1) first t | false ↦ n ]
      | false ↦ elim (is_digit b) [ true ↦ bad_from n (after_digit p) t | false ↦ n ]
    ]

-- refusal 2: the first bad line of a text, from 1; 0: there is none. An empty text is bad at line 1
unfoldable pub bad_line : List ℕ → ℕ
unfolding bad_from
bad_line [] = 1
bad_line (b ∷ t) = bad_from 1 first (b ∷ t)

-- the bytes of a text's first line
unfoldable pub line_bytes : List ℕ → List ℕ
unfolding pair
line_bytes [] = []
line_bytes (h ∷ []) = []
line_bytes (h ∷ l ∷ t) = elim (eqb h 10) [ true ↦ [] | false ↦ pair h l ∷ line_bytes t ]

-- how many bytes of a text its first line takes, its 0A among them
unfoldable pub line_size : List ℕ → ℕ
line_size [] = 0
line_size (h ∷ []) = 1
line_size (h ∷ l ∷ t) = elim (eqb h 10) [ true ↦ 1 | false ↦ 2 + line_size t ]

-- one more byte in front of the first of some lines
abbrev pub on_first : ℕ → List (List ℕ) → List (List ℕ)
on_first b [] = (b ∷ []) ∷ []
on_first b (l ∷ ls) = (b ∷ l) ∷ ls

-- the lines of a text with no bad line, each as its bytes
unfoldable pub lines : List ℕ → List (List ℕ)
unfolding pair
lines [] = []
lines (h ∷ []) = [] ∷ []
lines (h ∷ l ∷ t) = elim (eqb h 10) [ true ↦ [] ∷ lines (l ∷ t) | false ↦ on_first (pair h l) (lines t) ]

-- what `next_line` gives of the line that starts at `at`: its count, the place behind it, and its bytes over the front of a slice
pub record NextLine (text : List ℕ) (at : ℕ) (line₀ line₁ : List ℕ) (r : Next) : Type 0 where
  pub count : r.count ≡ length (line_bytes (drop at text))
  pub next : r.next ≡ at + line_size (drop at text)
  pub bytes : line₁ ≡ over (line_bytes (drop at text)) line₀

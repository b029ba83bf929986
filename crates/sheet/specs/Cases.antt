-- Examples by computation: the sheet S of document 01, its refusal table's rows for 1 to 8, and the order of refusals. One list of texts
-- with their outcomes, and one theorem.
use Rattle.std.specs.Prelude.{ℕ, ◌≡◌, refl, List, [], ◌∷◌, ◌++◌, map, replicate, drop, get_or}
use Prim.Native.String.{String}
use Rattle.std.proofs.Common.{ap, arith}
use Rattle.hextext.specs.Text.{lines}
use Rattle.sheet.specs.Literal.{text_of, times}
use Rattle.sheet.specs.Sheet.{division, leaf, Sheet}
use Rattle.sheet.specs.Outcome.{refused, accepted}
use Rattle.sheet.specs.Reading.{read_sheet}
use Rattle.sheet.specs.Multiplier.{AlikeTexts, slid}

-- S in three parts: the grammar (lines 1 to 5), the `45` line (6) and two onsets (7 and 8)
abbrev pub grammar_s : List ℕ
grammar_s = text_of "470200000A\n4C00000101\n44000006020101\n4C01000200\n4C01000101\n"

abbrev pub head_s : List ℕ
head_s = text_of "4501001E8480\n"

abbrev pub S : List ℕ
S = grammar_s ++ head_s ++ text_of "4E000000003C40\n4E0010C8E03E40\n"

-- the sheet that S means, and that it does
abbrev pub sheet_s : Sheet
sheet_s =
    record {
      grammar = record {
        nonterminals = 2;
        start = 0;
        multiplier = 10;
        rules = leaf 0 1 1 ∷ division 0 6 (1 ∷ 1 ∷ []) ∷ leaf 1 2 0 ∷ leaf 1 1 1 ∷ [];
      };
      playing = record {
        bars = 1;
        onsets = record { unit = 0; pitch = 60 } ∷ record { unit = 11088; pitch = 62 } ∷ [];
      };
    }

pub S_means : read_sheet S ≡ accepted (record { sheet = sheet_s; timing = record { bar_lines = 0 ∷ 2_000_000 ∷ [] } })
unfolding read_sheet
S_means = refl

-- S with the multiplier 150: its digits `000A` are `0096`, and nothing else changes
pub S_slid : slid 150 S ≡ text_of "4702000096\n" ++ drop 11 S
unfolding slid
S_slid = refl

-- S with another first and second line
abbrev with_lines : (first second : String) → List ℕ
with_lines first second = text_of first ++ text_of second ++ drop 22 S

-- with another a its lines are those of S but for a's field; with another start nonterminal, or another weight, they are not
pub S_alike : AlikeTexts S (with_lines "4702000096\n" "4C00000101\n")
unfolding lines
S_alike = refl

pub S_unlike : (AlikeTexts S (with_lines "470201000A\n" "4C00000101\n") → ⊥)
    × (AlikeTexts S (with_lines "4702000096\n" "4C00000201\n") → ⊥)
unfolding lines
S_unlike = (λ e. differ 2 0 e (omega arith), λ e. differ 3 1 e (omega arith))
  where
    -- two lists of lines whose byte i of line n differs
    differ : (i n : ℕ) {ls ms : List (List ℕ)} → ls ≡ ms → (get_or (get_or ls n []) i 0 ≡ get_or (get_or ms n []) i 0 → ⊥) → ⊥
    differ i n e f = f (ap (λ (xs : List (List ℕ)). get_or (get_or xs n []) i 0) e)

-- a text and the refusal that it meets
pub record Case : Type 0 where
  pub text : List ℕ
  pub number : ℕ
  pub line : ℕ

abbrev case : List ℕ → ℕ → ℕ → Case
case t k n = record { text = t; number = k; line = n }

-- refusal 1 over 16,384 bytes, and 2 at no more
abbrev long : List Case
long = case (replicate 16385 52) 1 0 ∷ case (replicate 16384 52) 2 1 ∷ []

-- refusal 2: empty text, `4G`, empty line, odd digits, lower case, last line not closed; and a late 2 before an early 3
abbrev ill_formed : List Case
ill_formed =
    case [] 2 1
    ∷ case (text_of "4G\n") 2 1
    ∷ case (text_of "470200000A\n\n") 2 2
    ∷ case (text_of "470200000A\n4C0\n") 2 2
    ∷ case (text_of "470200000A\n4c00000101\n") 2 2
    ∷ case (text_of "470200000A\n4C00") 2 2
    ∷ case (text_of "5800\n4G\n") 2 2
    ∷ []

-- refusal 3: an unknown kind first, a rule first, a second `47`, a `45` before a rule, a `4E` before the `45`, a rule after it;
-- and the text ends after the `47`, after the rules, after the `45`
abbrev out_of_order : List Case
out_of_order =
    case (text_of "5800\n") 3 1
    ∷ case (text_of "4C00000101\n") 3 1
    ∷ case (text_of "470200000A\n470200000A\n") 3 2
    ∷ case (text_of "470200000A\n4501001E8480\n") 3 2
    ∷ case (grammar_s ++ text_of "4E000000003C40\n") 3 6
    ∷ case (grammar_s ++ head_s ++ text_of "4C00000101\n") 3 7
    ∷ case (text_of "470200000A\n") 3 2
    ∷ case grammar_s 3 6
    ∷ case (grammar_s ++ head_s) 3 7
    ∷ []

-- refusals 4 and 5: the table's rows; a `44` with fewer than 5 bytes, then k, then the exact count, then the other fields; the count before
-- the fields of a `4E`
abbrev count_and_range : List Case
count_and_range =
    case (grammar_s ++ text_of "45011E8480\n") 4 6
    ∷ case (grammar_s ++ text_of "4501000003E7\n") 5 6
    ∷ case (text_of "470200000A\n44020009\n") 4 2
    ∷ case (text_of "470200000A\n4402000609\n") 5 2
    ∷ case (text_of "470200000A\n440200060101\n") 5 2
    ∷ case (text_of "470200000A\n440200060201\n") 4 2
    ∷ case (text_of "470200000A\n44000006020101AA\n") 4 2
    ∷ case (text_of "470200000A\n44020006020101\n") 5 2
    ∷ case (text_of "470200000A\n44000006020102\n") 5 2
    ∷ case (text_of "470200000A\n4C00000105\n") 5 2
    ∷ case (text_of "471100000A\n") 5 1
    ∷ case (text_of "470202000A\n") 5 1
    ∷ case (grammar_s ++ head_s ++ text_of "4E0000000080\n") 4 7
    ∷ case (grammar_s ++ head_s ++ text_of "4E000000008040\n") 5 7
    ∷ case (grammar_s ++ head_s ++ text_of "4E000000003C00\n") 5 7
    ∷ []

-- refusals 6 and 7: onsets at 5 and then 0; an onset at the end of the last bar, and one that is rounded up to it; the range of a field
-- before the fall of a time
abbrev times_fall_or_pass : List Case
times_fall_or_pass =
    case (grammar_s ++ head_s ++ text_of "4E000000053C40\n4E000000003C40\n") 6 8
    ∷ case (S ++ text_of "4E001E84803C40\n") 7 9
    ∷ case (grammar_s ++ head_s ++ text_of "4E001E847F3C40\n") 7 7
    ∷ case (grammar_s ++ head_s ++ text_of "4E000000053C40\n4E000000008040\n") 5 8
    ∷ []

-- 64 rules, and 32 onsets in one bar
abbrev rules64 : List ℕ
rules64 = text_of "470200000A\n" ++ times 64 (text_of "4C00000101\n")

abbrev onsets32 : List ℕ
onsets32 = grammar_s ++ head_s ++ times 32 (text_of "4E000000053C40\n")

-- 512 onsets, 32 in each of 16 bars of 65,536 microseconds, with a bar more
abbrev onsets512 : List ℕ
onsets512 =
    grammar_s ++ text_of "451100010000\n"
    ++ times 32 (text_of "4E000000003C40\n")
    ++ times 32 (text_of "4E000100003C40\n")
    ++ times 32 (text_of "4E000200003C40\n")
    ++ times 32 (text_of "4E000300003C40\n")
    ++ times 32 (text_of "4E000400003C40\n")
    ++ times 32 (text_of "4E000500003C40\n")
    ++ times 32 (text_of "4E000600003C40\n")
    ++ times 32 (text_of "4E000700003C40\n")
    ++ times 32 (text_of "4E000800003C40\n")
    ++ times 32 (text_of "4E000900003C40\n")
    ++ times 32 (text_of "4E000A00003C40\n")
    ++ times 32 (text_of "4E000B00003C40\n")
    ++ times 32 (text_of "4E000C00003C40\n")
    ++ times 32 (text_of "4E000D00003C40\n")
    ++ times 32 (text_of "4E000E00003C40\n")
    ++ times 32 (text_of "4E000F00003C40\n")

-- an onset a microsecond before the bar line, which is rounded up to it, and 32 on it
abbrev pub onsets33 : List ℕ
onsets33 = grammar_s ++ text_of "4502001E8480\n4E001E847F3C40\n" ++ times 32 (text_of "4E001E84803C40\n")

-- refusal 8: rule 65, onset 33 of a bar, also by rounding alone, and onset 513, each after that line's own 3 to 7, of which the last is a
-- unit at the end
abbrev too_many : List Case
too_many =
    case (rules64 ++ text_of "4C00000101\n") 8 66
    ∷ case (rules64 ++ text_of "44000006020101\n") 8 66
    ∷ case (rules64 ++ text_of "4E000000003C40\n") 3 66
    ∷ case (rules64 ++ text_of "4C000001\n") 4 66
    ∷ case (rules64 ++ text_of "4C02000101\n") 5 66
    ∷ case (onsets32 ++ text_of "4E000000063C40\n") 8 39
    ∷ case (onsets32 ++ text_of "4E0000000640\n") 4 39
    ∷ case (onsets32 ++ text_of "4E000000063C80\n") 5 39
    ∷ case (onsets32 ++ text_of "4E000000043C40\n") 6 39
    ∷ case (onsets32 ++ text_of "4E001E84803C40\n") 7 39
    ∷ case onsets33 8 39
    ∷ case (onsets512 ++ text_of "4E001000003C40\n") 8 519
    ∷ case (onsets512 ++ text_of "4E0010FFFF3C40\n") 7 519
    ∷ []

abbrev pub refusals : List Case
refusals = long ++ ill_formed ++ out_of_order ++ count_and_range ++ times_fall_or_pass ++ too_many

-- every text of the list meets its refusal
pub all_refused : map (λ (c : Case). read_sheet c.text) refusals ≡ map (λ (c : Case). refused c.number c.line) refusals
unfolding read_sheet
all_refused = refl

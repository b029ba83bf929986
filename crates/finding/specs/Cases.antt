-- The seven cases of document 01 ("The sheet S and its neighbours") that finding answers, as document 02 leaves them, with two of rests,
-- one of an onset rounded up to a bar line, three of two least trees each and two sheets at several multipliers, and what is computed of
-- them: the required lengths, the price of the bytes, that no tree totals less, and that none that totals as much comes before them.
-- `FindingCases.all_answered` and `equals_answered` and `SlidingCases.slid_answered` say what this means of finding.
use Rattle.std.specs.Prelude.{ℕ, ◌≡◌, refl, Bool, true, false, cond, ◌&&◌, List, [], ◌∷◌, ◌++◌, map, eqb, ltb, length, replicate}
use Rattle.std.proofs.Math.Option.{Option-elim}
use Rattle.sheet.specs.Literal.{text_of}
use Rattle.sheet.specs.Sheet.{Sheet, TimedSheet, in_bar}
use Rattle.sheet.specs.Outcome.{Outcome, refused, accepted}
use Rattle.sheet.specs.Reading.{read_sheet, on_sheet}
use Rattle.sheet.specs.Cases.{grammar_s, head_s, S}
use Rattle.sheet.specs.Multiplier.{slid}
use Rattle.sizes.specs.Sizes.{tree_bytes, work_cells, length_count, most_in_bar, largest}
use Rattle.derivations.specs.Derivation.{Price, onto}
use Rattle.trees.specs.ValidTrees.{whose, bars, distance_to, total_of}
use Rattle.trees.specs.Instance.{instance_of}
use Rattle.pricing.specs.Pricing.{Figures, priced, price_sheet, price_text}
use Rattle.finding.specs.EveryReading.{every_reading}

-- a text, the required lengths of its work slice and its tree slice, what is given, and the tree's bytes
pub record Case : Type 0 where
  pub text : List ℕ
  pub cells : ℕ
  pub room : ℕ
  pub gives : Outcome Figures
  pub bytes : List ℕ

abbrev pub case : (text : List ℕ) → (cells room : ℕ) → Outcome Figures → (bytes : List ℕ) → Case
case t cells room o bs = record { text = t; cells = cells; room = room; gives = o; bytes = bs }

-- S with the first onset dropped and the other at the time given
abbrev later : List ℕ → List ℕ
later t = grammar_s ++ head_s ++ text_of "4E" ++ t ++ text_of "3E40\n"

-- with a rest of the halves as rule 4, and an onset at 1,000,000
abbrev rested : List ℕ
rested = grammar_s ++ text_of "4C01000204\n" ++ head_s ++ text_of "4E000F42403E40\n"

-- document 02, (iii): S with the multiplier 0 and a rest of the halves as rule 4. `00` and `010403` both total 5,040.
abbrev pub bar_or_halves : List ℕ
bar_or_halves =
    text_of "4702000000\n4C00000101\n44000006020101\n4C01000200\n4C01000101\n4C01000204\n" ++ head_s ++ text_of "4E0007A1203E40\n"

-- the first is the longer: `000203` before `01`, which also weighs 3
abbrev pub longer : List ℕ
longer = text_of "470200000A\n44000001020101\n4C00000301\n4C01000101\n4C01000100\n" ++ head_s ++ text_of "4E000000003C40\n"

-- The first carries an onset over the bar line, for as much as it costs not to: `0000` before `02030301`, both 6,160. A search that passes
-- over a carry where it saves nothing loses the first.
abbrev over_bar_line : List ℕ
over_bar_line =
    text_of "470200000A\n4C00000001\n4C00000000\n440000E0020101\n4C01000001\n4C01000000\n"
    ++ text_of "4502001E8480\n4E000000003C40\n4E001531593E40\n"

-- what is given, the first of the two; `equal_totals` has the other
abbrev pub equals : List Case
equals =
    case bar_or_halves 240 81 (priced 1 1 5040 5040) (0 ∷ [])
    ∷ case longer 240 81 (priced 3 3 0 30) (0 ∷ 2 ∷ 3 ∷ [])
    ∷ case over_bar_line 480 162 (priced 2 0 6160 6160) (0 ∷ 0 ∷ [])
    ∷ []

pub equal_totals : price_text bar_or_halves (1 ∷ 4 ∷ 3 ∷ []) ∷ price_text longer (1 ∷ [])
    ∷ price_text over_bar_line (2 ∷ 3 ∷ 3 ∷ 1 ∷ []) ∷ []
    ≡ priced 3 9 5040 5040 ∷ priced 1 3 0 30 ∷ priced 4 224 3920 6160 ∷ []
unfolding price_text on_sheet read_sheet price_sheet onto whose distance_to Option-elim
equal_totals = refl

-- document 02, (xiv): S with a rest of the halves and one onset 10 ms before the middle of the bar. In halves, `010403`, R is 9 and D 101;
-- as a whole-bar note, `00`, R is 1 and D 9,979: the least tree changes between a = 1,234 and a = 1,235.
abbrev pub near_middle : List ℕ
near_middle = grammar_s ++ text_of "4C01000204\n" ++ head_s ++ text_of "4E000F1B303E40\n"

-- a whole-bar note, `01`, which weighs 1, or a half and its continuation, `000203`, which weigh 3, at the same distance
abbrev pub bar_or_tie : List ℕ
bar_or_tie = text_of "470200000A\n44000001020101\n4C00000101\n4C01000101\n4C01000100\n" ++ head_s ++ text_of "4E000000003C40\n"

-- with a = 0 R does not count, and the first in dictionary order is the heavier; with a = 1 it does
abbrev pub slid_cases : List Case
slid_cases =
    case near_middle 240 81 (priced 3 9 101 191) (1 ∷ 4 ∷ 3 ∷ [])
    ∷ case (slid 1234 near_middle) 240 81 (priced 3 9 101 11207) (1 ∷ 4 ∷ 3 ∷ [])
    ∷ case (slid 1235 near_middle) 240 81 (priced 1 1 9979 11214) (0 ∷ [])
    ∷ case (slid 65535 near_middle) 240 81 (priced 1 1 9979 75514) (0 ∷ [])
    ∷ case (slid 0 bar_or_tie) 240 81 (priced 3 3 0 0) (0 ∷ 2 ∷ 3 ∷ [])
    ∷ case (slid 1 bar_or_tie) 240 81 (priced 1 1 0 1) (1 ∷ [])
    ∷ []

-- Document 02, (v): onsets a microsecond before the bar line and on it, with leaves of a rest and of two onsets. Both are in bar 2, so E is
-- 2, and both are placed at its start.
abbrev both_in_bar_2 : List ℕ
both_in_bar_2 = grammar_s ++ text_of "4C00000704\n4C00000502\n4502001E8480\n4E001E847F3C40\n4E001E84803E40\n"

-- nodes, R, D and total, and the tree; or refusal 11 with line 0. The last three open with a rest: half a bar, and a bar twice
abbrev pub cases : List Case
cases =
    case S 464 161 (priced 3 8 1008 1088) (1 ∷ 3 ∷ 3 ∷ [])
    ∷ case (later (text_of "0007A11F")) 240 81 (priced 1 1 5040 5050) (0 ∷ [])
    ∷ case (later (text_of "0007A120")) 240 81 (priced 1 1 5040 5050) (0 ∷ [])
    ∷ case (later (text_of "000F423F")) 240 81 (refused 11 0) []
    ∷ case (later (text_of "000F4240")) 240 81 (refused 11 0) []
    ∷ case (grammar_s ++ text_of "4502001E8480\n4E000000003C40\n4E001E847F3E40\n") 256 162 (priced 2 2 0 20) (0 ∷ 0 ∷ [])
    ∷ case (grammar_s ++ head_s ++ text_of "4E000000003C40\n4E000000003E40\n") 464 161 (refused 11 0) []
    ∷ case rested 240 81 (priced 3 9 0 90) (1 ∷ 4 ∷ 3 ∷ [])
    ∷ case (grammar_s ++ text_of "4C00000704\n4502001E8480\n4E001E84803C40\n") 256 82 (priced 2 8 0 80) (4 ∷ 0 ∷ [])
    ∷ case both_in_bar_2 480 162 (priced 2 12 0 120) (4 ∷ 5 ∷ [])
    ∷ []

-- ---- the test of a case

unfoldable pub alike : Outcome Figures → Outcome Figures → Bool
alike (accepted x) (accepted y) =
    eqb x.nodes y.nodes && (eqb x.weight y.weight && (eqb x.distance y.distance && eqb x.total y.total))
alike (accepted x) (refused k l) = false
alike (refused k l) (accepted x) = false
alike (refused k l) (refused k' l') = eqb k k' && eqb l l'

-- x is less than y, or they are equal and b
unfoldable pub then_by : (x y : ℕ) → Bool → Bool
then_by x y b = cond (ltb x y) true (eqb x y && b)

-- in dictionary order
unfoldable pub in_order : List ℕ → List ℕ → Bool
unfolding then_by
in_order [] ys = true
in_order (x ∷ xs) [] = false
in_order (x ∷ xs) (y ∷ ys) = then_by x y (in_order xs ys)

-- a list that carries nothing out totals more than these bytes, or as much and does not come before them
unfoldable pub none_before : Sheet → (bytes : List ℕ) → (total : ℕ) → List ℕ → Price → Bool
unfolding then_by in_order
none_before s bytes total bs p =
    cond (eqb p.carry 0) (then_by total (total_of s p.weight p.distance) (in_order bytes bs)) true

-- a list carries something out
unfoldable pub carries_out : List ℕ → Price → Bool
carries_out bs p = cond (eqb p.carry 0) false true

-- of all lists that are read against the bars; no list of these sheets has more than eight rules, or this is false
unfoldable pub every_list : Sheet → (List ℕ → Price → Bool) → Bool
unfolding every_reading instance_of bars
every_list s test = every_reading (instance_of s) 8 (bars s) 0 test

unfoldable pub judged_tree : Sheet → Outcome Figures → (bytes : List ℕ) → Bool
unfolding price_sheet every_list alike none_before carries_out
judged_tree s (accepted x) bs = alike (price_sheet s bs) (accepted x) && every_list s (none_before s bs x.total)
judged_tree s (refused k n) [] = alike (refused k n) (refused 11 0) && every_list s carries_out
judged_tree s (refused k n) (b ∷ bs) = false

unfoldable pub judged : Outcome TimedSheet → Case → Bool
unfolding judged_tree work_cells tree_bytes length_count most_in_bar largest in_bar
judged (refused k n) c = false
judged (accepted x) c =
    eqb (work_cells x.sheet) c.cells && (eqb (tree_bytes x.sheet) c.room && judged_tree x.sheet c.gives c.bytes)

unfoldable pub holds : Case → Bool
unfolding judged read_sheet
holds c = judged (read_sheet c.text) c

-- the computed answers agree with every case
pub all_computed : map holds cases ≡ replicate (length cases) true
unfolding holds onto whose distance_to Option-elim
all_computed = refl

pub slid_computed : map holds slid_cases ≡ replicate (length slid_cases) true
unfolding holds onto whose distance_to Option-elim slid
slid_computed = refl

pub equals_computed : map holds equals ≡ replicate (length equals) true
unfolding holds onto whose distance_to Option-elim
equals_computed = refl

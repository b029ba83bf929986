-- The eight cases of document 01 ("The sheet S and its neighbours") as document 02 leaves them, for each of the five traps a text on which
-- the trap would answer differently, and one or more for each other point of "Valid trees" and of rests. Each text is read by `read_sheet`.
-- Here the answers are computed; `CasesHold.all_hold` says what they mean.
use Rattle.std.specs.Prelude.{ℕ, ◌+◌, ◌≡◌, refl, Bool, true, false, not, ◌&&◌, List, [], ◌∷◌, ◌++◌, map, eqb, length, replicate}
use Rattle.std.proofs.Math.Option.{none, some, Option-elim}
use Rattle.sheet.specs.Literal.{text_of, times}
use Rattle.sheet.specs.Sheet.{Sheet, TimedSheet}
use Rattle.sheet.specs.Outcome.{Outcome, refused, accepted}
use Rattle.sheet.specs.Reading.{read_sheet}
use Rattle.sheet.specs.Cases.{grammar_s, head_s, S}
use Rattle.derivations.specs.Derivation.{derive, onto}
use Rattle.derivations.specs.Minima.{lowest}
use Rattle.derivations.specs.Folds.{via, forward}
use Rattle.trees.specs.ValidTrees.{whose, bars, distance_to, total_of}
use Rattle.trees.specs.Instance.{instance_of}
use Rattle.trees.specs.LeastTotal.{NONE, least_total}

-- what is said of a text: these bytes are a least tree with R, D and total; there is no tree; these bytes are a tree with R and D; these
-- bytes are no tree
pub data Verdict : Type 0 where
  least : (bytes : List ℕ) (R D total : ℕ) → Verdict
  no_tree_lem : Verdict
  priced : (bytes : List ℕ) (R D : ℕ) → Verdict
  no_valid : (bytes : List ℕ) → Verdict

pub record Case : Type 0 where
  pub text : List ℕ
  pub verdict : Verdict

-- ---- the test of a case

unfoldable pub priced_as : Sheet → List ℕ → (R D : ℕ) → Bool
unfolding derive instance_of bars onto
priced_as s bs R D = elim (derive (instance_of s) bs (bars s) 0) [
  | none ↦ false
  | some p ↦ eqb p.carry 0 && (eqb p.weight R && eqb p.distance D)
]

unfoldable pub is_tree : Sheet → List ℕ → Bool
unfolding derive instance_of bars onto
is_tree s bs = elim (derive (instance_of s) bs (bars s) 0) [ none ↦ false | some p ↦ eqb p.carry 0 ]

unfoldable pub judged : Sheet → Verdict → Bool
unfolding priced_as is_tree least_total
judged s (least bs R D t) = priced_as s bs R D && (eqb (total_of s R D) t && eqb (least_total s) t)
judged s no_tree_lem = eqb (least_total s) NONE
judged s (priced bs R D) = priced_as s bs R D
judged s (no_valid bs) = not (is_tree s bs)

unfoldable pub judged_of : Outcome TimedSheet → Verdict → Bool
unfolding judged
judged_of (refused k n) v = false
judged_of (accepted x) v = judged x.sheet v

unfoldable pub holds : Case → Bool
unfolding judged_of read_sheet
holds c = judged_of (read_sheet c.text) c.verdict

-- ---- the eight

abbrev case : List ℕ → Verdict → Case
case t v = record { text = t; verdict = v }

-- S with the first onset dropped and the other at the time given; and with a rest of the halves as rule 4
abbrev later : List ℕ → List ℕ
later t = grammar_s ++ head_s ++ text_of "4E" ++ t ++ text_of "3E40\n"

abbrev rested : List ℕ → List ℕ
rested t = grammar_s ++ text_of "4C01000204\n" ++ head_s ++ text_of "4E" ++ t ++ text_of "3E40\n"

abbrev pub paper : List Case
paper =
    case S (least (1 ∷ 3 ∷ 3 ∷ []) 8 1008 1088)
    ∷ case (later (text_of "0007A11F")) (least (0 ∷ []) 1 5040 5050)
    ∷ case (later (text_of "0007A120")) (least (0 ∷ []) 1 5040 5050)
    ∷ case (later (text_of "000F423F")) no_tree_lem
    ∷ case (later (text_of "000F4240")) no_tree_lem
    ∷ case (grammar_s ++ text_of "4502001E8480\n4E000000003C40\n4E001E847F3E40\n") (least (0 ∷ 0 ∷ []) 2 0 20)
    ∷ case (grammar_s ++ head_s ++ text_of "4E000000003C40\n4E000000003E40\n") no_tree_lem
    ∷ case S (no_valid (0 ∷ []))
    ∷ []

-- ---- the traps

-- 1: an onset exactly at the middle of the first half is late
abbrev middle : List Case
middle =
    case (rested (text_of "0007A120")) (priced (1 ∷ 4 ∷ 3 ∷ []) 9 5040)
    ∷ case (rested (text_of "0007A120")) (no_valid (1 ∷ 3 ∷ 2 ∷ []))
    ∷ []

-- 2: n = 3 is "three or more", here four; and 4 is a rest, not four
abbrev four_at_once : List ℕ → List ℕ
four_at_once n = text_of "4701000001\n4C000005" ++ n ++ text_of "\n4501001E8480\n" ++ times 4 (text_of "4E000000003C40\n")

abbrev four_placed : List Case
four_placed = case (four_at_once (text_of "03")) (least (0 ∷ []) 5 0 5) ∷ case (four_at_once (text_of "04")) no_tree_lem ∷ []

-- 3: An onset at unit 6,000, in the first half. That half alone is best divided: distance 960 and nothing carried out. But then the second
-- half, with nothing placed, weighs 5,000; least is to carry the onset there, at distance 4,080.
abbrev two_ways : List ℕ
two_ways =
    text_of "4705000001\n44000000020102\n4C01000004\n44010000020304\n4C03000004\n4C04000001\n4C02000001\n4C02138800\n"
    ++ text_of "4501001E8480\n4E000915273C40\n"

abbrev second_best : List Case
second_best = case two_ways (least (0 ∷ 1 ∷ 5 ∷ []) 0 4080 4080) ∷ case two_ways (priced (0 ∷ 2 ∷ 3 ∷ 4 ∷ 6 ∷ []) 5000 960) ∷ []

-- 4: Two bars and an onset at unit 15,200, in the first. That bar alone has a tree, of weight 6,000 and distance 80; least is to carry the
-- onset over the bar line, at distance 4,960.
abbrev two_bars : List ℕ
two_bars =
    text_of "4703000001\n4C00000000\n4C00000001\n44001770020101\n4C01000004\n4C01000001\n44010000020202\n4C02000004\n4C02000001\n"
    ++ text_of "4C00000004\n4502001E8480\n4E001702603C40\n"

abbrev over_bar_line : List Case
over_bar_line =
    case two_bars (least (8 ∷ 1 ∷ []) 0 4960 4960) ∷ case two_bars (priced (2 ∷ 3 ∷ 5 ∷ 6 ∷ 7 ∷ 0 ∷ []) 6000 80) ∷ []

-- 5: The second half only receives a carry. Divided, it would weigh nothing; as a leaf it weighs 7.
abbrev receiving : List ℕ
receiving =
    text_of "4705000001\n44000000020102\n4C01000004\n44020000020304\n4C03000001\n4C04000000\n4C02000701\n4501001E8480\n4E000915273C40\n"

abbrev only_receives : List Case
only_receives = case receiving (least (0 ∷ 1 ∷ 5 ∷ []) 7 4080 4087) ∷ case receiving (no_valid (0 ∷ 1 ∷ 2 ∷ 3 ∷ 4 ∷ [])) ∷ []

-- ---- the other points of the section

-- "each rule before its parts [..] complete and with nothing after it": no byte, a byte short, a byte long, parts first; a rule past the
-- last; a rule with another head, at the root and at a part
abbrev writings : List Case
writings =
    map (λ (bs : List ℕ). case S (no_valid bs)) (
    []
    ∷ (1 ∷ 3 ∷ [])
    ∷ (1 ∷ 3 ∷ 3 ∷ 3 ∷ [])
    ∷ (3 ∷ 3 ∷ 1 ∷ [])
    ∷ (4 ∷ [])
    ∷ (2 ∷ [])
    ∷ (1 ∷ 0 ∷ 3 ∷ [])
    ∷ [])

-- "Late ones, at most three": three onsets in the second half of the first part, and four
abbrev late_ones : ℕ → List ℕ
late_ones n = text_of "4703000001\n44000000020102\n4C01000004\n4C02000003\n4501001E8480\n" ++ times n (text_of "4E000915273C40\n")

abbrev three_late : List Case
three_late = case (late_ones 3) (priced (0 ∷ 1 ∷ 2 ∷ []) 0 12240) ∷ case (late_ones 4) (no_valid (0 ∷ 1 ∷ 2 ∷ [])) ∷ []

-- "n = m for m up to 2": two at once; "k equal parts": an onset on the second third, which a machine makes at 666,666
abbrev two_placed : List Case
two_placed =
    case (text_of "4701000001\n4C00000202\n4501001E8480\n" ++ times 2 (text_of "4E000000003C40\n")) (least (0 ∷ []) 2 0 2) ∷ []

abbrev in_thirds : List ℕ → List ℕ
in_thirds t =
    text_of "4702000001\n4400000003010101\n4C01000000\n4C01000001\n4C01000004\n4501001E8480\n4E" ++ t ++ text_of "3C40\n"

abbrev thirds : List Case
thirds = case (in_thirds (text_of "000A2C2A")) (least (0 ∷ 3 ∷ 2 ∷ 1 ∷ []) 0 0 0) ∷ []

-- "only if k divides the length": an eighth of an eighth has 315 units, which 3 divides and 2 does not
abbrev eighths : List ℕ
eighths =
    text_of "4701000001\n44000000080000000000000000\n44000000020000\n4400000003000000\n4C00000000\n4C00000001\n"
    ++ text_of "4501001E8480\n4E000000003C40\n"

abbrev uneven : List Case
uneven =
    case eighths (priced (0 ∷ 0 ∷ 2 ∷ 4 ∷ 3 ∷ 3 ∷ replicate 14 3) 0 0)
    ∷ case eighths (no_valid (0 ∷ 0 ∷ 1 ∷ 4 ∷ 3 ∷ replicate 14 3))
    ∷ []

-- ---- rests

-- bars of a leaf each, with n = 1 as rule 0 and the n given as rule 1, the second rule's weight 7; so many bars and one onset
abbrev in_bars : (n bars t : List ℕ) → List ℕ
in_bars n bars t = text_of "4701000001\n4C00000001\n4C000007" ++ n ++ text_of "\n45" ++ bars ++ text_of "001E8480\n4E" ++ t ++ text_of "3C40\n"

-- "no onset before its left bound" is of the piece: with an onset at 0 bar 2 is a continuation, and a rest does not fit it
abbrev sounded : List Case
sounded =
    case (in_bars (text_of "00") (text_of "02") (text_of "00000000")) (least (0 ∷ 1 ∷ []) 7 0 7)
    ∷ case (in_bars (text_of "04") (text_of "02") (text_of "00000000")) no_tree_lem
    ∷ []

-- a silent bar before the first onset: "It needs a leaf rule with n = 4, and n = 0 no longer fits it"
abbrev silent : List Case
silent =
    case (in_bars (text_of "04") (text_of "02") (text_of "001E8480")) (least (1 ∷ 0 ∷ []) 7 0 7)
    ∷ case (in_bars (text_of "00") (text_of "02") (text_of "001E8480")) no_tree_lem
    ∷ []

-- a late onset inside does not end the silence: it is placed behind the leaf; and S with a rest
abbrev late_inside : List Case
late_inside =
    case (rested (text_of "0007A120")) (no_valid (1 ∷ 2 ∷ 3 ∷ []))
    ∷ case (rested (text_of "000F4240")) (least (1 ∷ 4 ∷ 3 ∷ []) 9 0 90)
    ∷ []

-- in the middle of a division's parts: the second third is a rest, without an onset and with one that is late. The third third is document
-- 02's, "at 1,333,333 microseconds": "perfect playing" costs nothing
abbrev rest_between : List Case
rest_between =
    case (in_thirds (text_of "00145855")) (least (0 ∷ 3 ∷ 3 ∷ 2 ∷ []) 0 0 0)
    ∷ case (in_thirds (text_of "00122A50")) (priced (0 ∷ 3 ∷ 3 ∷ 2 ∷ []) 0 1440)
    ∷ case (in_thirds (text_of "00145855")) (no_valid (0 ∷ 3 ∷ 1 ∷ 2 ∷ []))
    ∷ []

abbrev pub cases : List Case
cases =
    paper ++ middle ++ four_placed ++ second_best ++ over_bar_line ++ only_receives
    ++ writings ++ three_late ++ two_placed ++ thirds ++ uneven ++ sounded ++ silent ++ late_inside ++ rest_between

-- the computed answers agree with every case
pub all_computed : map holds cases ≡ replicate (length cases) true
unfolding holds whose distance_to Option-elim lowest via forward
all_computed = refl

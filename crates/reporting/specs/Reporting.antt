-- The entry behind the program, in the words of document 01: it "prints the score lines, or one line `52`, the refusal (1) and the line
-- (2). Score lines and this one are pairs of 0-9 A-F closed by byte 0A, as in a sheet."
use Rattle.std.specs.Prelude.{ℕ, ◌≡◌, List, ◌∷◌, length, take}
use Rattle.slices.specs.Over.{over}
use Rattle.hextext.specs.Written.{line_text}
use Rattle.sheet.specs.Sheet.{Sheet}
use Rattle.sheet.specs.Outcome.{Outcome, refused, accepted}
use Rattle.trees.specs.ValidTrees.{total_of}
use Rattle.trees.specs.LeastTrees.{FirstTree}
use Rattle.hextext.specs.Fields.{big_endian}
use Rattle.score.specs.Score.{tree_text}
use Rattle.score.specs.Writing as writing
use Rattle.score.specs.Writing.{text_within}
use Rattle.reporting.specs.declared.Shown.{Shown}
use Rattle.reporting.specs.declared.Shown.TheVariants.{Score, Line}
use Rattle.finding.specs.Finding.{Search, no_tree, found, find_text, cleared}

-- "one line `52`, the refusal (1) and the line (2)"
unfoldable pub refusal_line : (number line : ℕ) → List ℕ
refusal_line number line = line_text (0x52 ∷ number ∷ big_endian 2 line)

-- What is printed is the outcome of writing: score lines, or the line of a refusal. These are the bytes to print.
abbrev pub page_text : Outcome (List ℕ) → List ℕ
page_text (refused k n) = refusal_line k n
page_text (accepted text) = text

-- where they stand: at the front of the score slice, or in the line slice
abbrev pub shown_of : Outcome (List ℕ) → Shown
shown_of (refused k n) = Line
shown_of (accepted text) = Score (length text)

-- the line slice, of 9 bytes: a refusal's line fills it, and score lines leave it
abbrev pub line_with : Outcome (List ℕ) → List ℕ → List ℕ
line_with (refused k n) line = refusal_line k n
line_with (accepted text) line = line

-- the tree slice: finding "writes the tree from the front; later bytes are kept"; a refusal keeps it, 13 too
abbrev pub tree_with : Outcome (List ℕ) → (bytes tree : List ℕ) → List ℕ
tree_with (refused k n) bytes tree = tree
tree_with (accepted text) bytes tree = over bytes tree

-- so the program prints, by the answer
abbrev pub printed : Shown → (score line : List ℕ) → List ℕ
printed (Score n) score line = take n score
printed Line score line = line

-- the score lines of a tree, as far as the score slice has room
abbrev pub page_of : (s : Sheet) → (bytes : List ℕ) → (weight distance room : ℕ) → Outcome (List ℕ)
page_of s bytes weight distance room = text_within room (tree_text s bytes weight distance (total_of s weight distance))

-- the answer, the score slice and the line slice of a page, and the bytes to print
pub record Prints (page : Outcome (List ℕ)) (score score_after line lineAfter : List ℕ) (answer : Shown) : Type 0 where
  pub text : printed answer score_after lineAfter ≡ page_text page
  pub shown : answer ≡ shown_of page
  pub score_is : score_after ≡ writing.score_after page score
  pub line_is : lineAfter ≡ line_with page line

-- the first least tree of the sheet, its score lines as far as the score slice has room, and with them the tree at the front of the tree
-- slice
pub record PrintsTree (s : Sheet) (tree treeAfter score score_after line lineAfter : List ℕ) (answer : Shown) : Type 0 where
  pub bytes : List ℕ
  pub weight : ℕ
  pub distance : ℕ
  pub first : FirstTree s bytes weight distance
  pub tree_is : treeAfter ≡ tree_with (page_of s bytes weight distance (length score)) bytes tree
  pub page : Prints (page_of s bytes weight distance (length score)) score score_after line lineAfter answer

-- Every slice and the answer, by what finding comes to. Document 01 has "every slice keeps its bytes, except work after 11"; here the
-- required work cells are 0 after 13 too, because a tree was found first: for the program, whose cells are 0 before, that is the same.
abbrev pub Printed : Outcome Search → (tree treeAfter work workAfter score score_after line lineAfter : List ℕ) → Shown → Type 0
Printed (refused k n) tree treeAfter work workAfter score score_after line lineAfter answer =
    Prints (refused k n) score score_after line lineAfter answer × (treeAfter ≡ tree) × (workAfter ≡ work)
Printed (accepted (no_tree s)) tree treeAfter work workAfter score score_after line lineAfter answer =
    Prints (refused 11 0) score score_after line lineAfter answer × (treeAfter ≡ tree) × (workAfter ≡ cleared s work)
Printed (accepted (found s)) tree treeAfter work workAfter score score_after line lineAfter answer =
    PrintsTree s tree treeAfter score score_after line lineAfter answer × (workAfter ≡ cleared s work)

-- what the entry gives of a text and four slices, for every text and every length and content of the slices
pub record Reports (text tree treeAfter work workAfter score score_after line lineAfter : List ℕ) (answer : Shown) : Type 0 where
  pub is :
      Printed (find_text text (length tree) (length work)) tree treeAfter work workAfter score score_after line lineAfter answer

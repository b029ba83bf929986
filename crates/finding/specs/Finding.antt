-- Finding, in the words of document 01's sections "Pricing, score lines, finding" and "When it says no" and of document 02, (iii). Number
-- and line are one definition of the text and of the two slices' lengths; then the answer and both slices by cases. Nothing is left open:
-- two answers to one call are the same (`one_answer` in `OneAnswer`).
use Rattle.std.specs.Prelude.{ℕ, ◌≡◌, Bool, cond, List, ltb, length, replicate}
use Rattle.slices.specs.Over.{over}
use Rattle.sheet.specs.Sheet.{Sheet}
use Rattle.sheet.specs.Outcome.{Outcome, refused, accepted, number_in, line_in, and_then}
use Rattle.sheet.specs.Reading.{on_sheet}
use Rattle.sizes.specs.Sizes.{tree_bytes, work_cells}
use Rattle.trees.specs.ValidTrees.{total_of}
use Rattle.trees.specs.LeastTotal.{NONE, least_total}
use Rattle.trees.specs.LeastTrees.{FirstTree}
use Rattle.pricing.specs.declared.Priced.{Priced}
use Rattle.pricing.specs.Pricing.{priced, priced_of, Answer}
use Rattle.sheet.specs.Refusal.{outcome_of, answer_number, answer_line}

-- Whether some list of bytes, of any length, is a valid tree, by computing. `FindingLaws` shows that it is so: `has_tree_lem`, `some_tree`,
-- `has_none`.
unfoldable pub has_tree : Sheet → Bool
has_tree s = ltb (least_total s) NONE

-- what the search of a sheet comes to
pub data Search : Type 0 where
  no_tree : Sheet → Search
  found : Sheet → Search

-- "Then finding: 9, 10, 11": "work slice short", "tree slice short"; else the sheet is searched. The numbers are the slices' lengths.
unfoldable pub find_sheet : Sheet → (tree work : ℕ) → Outcome Search
find_sheet s tree work =
    cond (ltb work (work_cells s)) (refused 9 0)
    (cond (ltb tree (tree_bytes s)) (refused 10 0)
    (accepted (cond (has_tree s) (found s) (no_tree s))))

unfoldable pub find_text : (text : List ℕ) → (tree work : ℕ) → Outcome Search
unfolding on_sheet
find_text text tree work = on_sheet text (λ s. find_sheet s tree work)

-- "11 no valid tree", with line 0
abbrev pub tree_of : Search → Outcome Sheet
tree_of (no_tree s) = refused 11 0
tree_of (found s) = accepted s

-- the number and the line: a refusal's, 11, or those of an accepted call
abbrev pub number_of : Outcome Search → ℕ
number_of o = number_in (and_then o tree_of)

abbrev pub line_of : Outcome Search → ℕ
line_of o = line_in (and_then o tree_of)

-- "After a tree or after refusal 11 the required work cells are 0 and later cells kept"
abbrev pub cleared : Sheet → (work : List ℕ) → List ℕ
cleared s work = over (replicate (work_cells s) 0) work

-- "A refusal gives its number, the line [..] and zeros elsewhere; every slice keeps its bytes, except work after 11"
pub record Refused (number line : ℕ) (tree treeAfter : List ℕ) (answer : Answer) : Type 0 where
  pub is : outcome_of answer ≡ refused number line
  pub tree_kept : treeAfter ≡ tree

-- "It gives what pricing its tree gives, and writes the tree from the front; later bytes are kept [..] it is valid and has the least
-- total"; "among all least trees, the one whose byte list is smallest in dictionary order"
pub record FoundTree (s : Sheet) (tree treeAfter : List ℕ) (answer : Answer) : Type 0 where
  pub bytes : List ℕ
  pub weight : ℕ
  pub distance : ℕ
  pub first : FirstTree s bytes weight distance
  pub figures : outcome_of answer ≡ priced_of (priced (length bytes) weight distance (total_of s weight distance))
  pub tree_written : treeAfter ≡ over bytes tree

-- the answer and the slices, by what finding comes to
abbrev pub Result : Outcome Search → (tree treeAfter work workAfter : List ℕ) → (answer : Answer) → Type 0
Result (refused k n) tree treeAfter work workAfter answer = Refused k n tree treeAfter answer × (workAfter ≡ work)
Result (accepted (no_tree s)) tree treeAfter work workAfter answer = Refused 11 0 tree treeAfter answer × (workAfter ≡ cleared s work)
Result (accepted (found s)) tree treeAfter work workAfter answer = FoundTree s tree treeAfter answer × (workAfter ≡ cleared s work)

-- the number and the line are the outcome's, and so is the result
pub record Gives (o : Outcome Search) (tree treeAfter work workAfter : List ℕ) (answer : Answer) : Type 0 where
  pub number : answer_number answer ≡ number_of o
  pub line : answer_line answer ≡ line_of o
  pub result : Result o tree treeAfter work workAfter answer

-- what finding gives of a text and two slices, for every text and every length and content of the slices
abbrev pub Finds : (text tree treeAfter work workAfter : List ℕ) → (answer : Answer) → Type 0
Finds text tree treeAfter work workAfter answer =
    Gives (find_text text (length tree) (length work)) tree treeAfter work workAfter answer

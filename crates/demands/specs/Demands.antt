-- The three demands, clause by clause, as theorems about the entries: whatever meets an entry's contract has what the clause asks. Requests
-- (i) and (iii) of document 02 stand with the clauses that they change; what others add is in `Requests` beside this page. A reader needs
-- this page and the definitions of `read_sheet` (sheet/specs/Reading), `ValidTree`, `KindFits`, `Priced`, `total_of`
-- (trees/specs/ValidTrees), `RestFits` (trees/specs/Kinds), `InDictionaryOrder`, `LeastTree`, `FirstTree` (trees/specs/LeastTrees),
-- `tree_bytes`, `work_cells` (sizes/specs/Sizes), `score_text` (score/specs/Score). x' is x after the call.
-- Contracts: `Reads` (sheet/specs/Held), `Prices` (pricing/specs/Pricing), `Writes` (score/specs/Writing), `Finds` (finding/specs/Finding),
-- `Reports` (reporting/specs/Reporting). Names:
--   Refuses text k n, Accepts text s   `read_sheet text` is a refusal with number k and line n, or the sheet s
--   ReadingNumber k                    k is 1 to 8, or 17 to 19 (sheet/specs/Numbers)
--   outcome_of r, answer_number r      what the answer r comes to: a refusal with number and line, or accepted with number 0 and line 0
--   figures_in r                       its figures; zeros in a refusal
--   refused_as k n                     the refusal with number k and line n
--   priced_as s nodes R D, written_as  accepted, with these figures and the total `total_of s R D`, or with so many bytes
--   score_of s p                       the `score_text` of the valid tree p: of its own leaves, R, D and total
--   Short, Fitting s list room         list is a valid tree, and `room` bytes are too few, or enough, for its `score_of`
--   FoundAs s tree tree' r             r has the figures of the first least tree, and its bytes lie over the front of tree
--   cleared s work                     work with its first `work_cells s` cells 0
--   LineOnly k n ..                    the line of the refusal is printed; the tree slice and the score slice are kept
--   Scored s ..                        the first least tree lies over the front of the tree slice, its `score_of` over that of the score
--                                      slice, and this is printed; or, where the score slice is short of it, LineOnly 13 0
use Rattle.std.specs.Prelude.{ℕ, ◌≤◌, ◌<◌, ◌≡◌, List, ◌++◌, ◌⊎◌, ◌↔◌, length, take, drop, Result}
use Rattle.std.proofs.Math.Path.{ap}
use Rattle.std.proofs.Common.{◌∙◌}
use Rattle.slices.specs.Every.{Every}
use Rattle.sheet.specs.declared.table.Reading.{Reading}
use Rattle.sheet.specs.Sheet.{Sheet}
use Rattle.sheet.specs.declared.refusal.Refused.{Refused}
use Rattle.sheet.specs.Outcome.{refused, number_in, line_in, value_in}
use Rattle.sheet.specs.Refusal.{outcome_of, answer_number, answer_line, answer_value}
use Rattle.sheet.specs.Held.{grammar_table, playing_table, no_sheet, tables, reading_of, Reads}
use Rattle.sheet.specs.Numbers.{ReadingNumber, reading_number}
use Rattle.sheet.specs.Accepted.{Refuses, Accepts}
use Rattle.sizes.specs.Sizes.{tree_bytes, work_cells}
use Rattle.trees.specs.ValidTrees.{ValidTree, Priced, total_of, entries, KindFits}
use Rattle.trees.specs.Kinds.{RestFits}
use Rattle.trees.proofs.KindLaws.{rests_fit}
use Rattle.trees.specs.LeastTrees.{InDictionaryOrder}
use Rattle.pricing.specs.Pricing.{Answer, figures_in, Prices}
use Rattle.pricing.specs.PriceLaws as price
use Rattle.pricing.specs.PriceLaws.{refused_as, priced_as}
use Rattle.score.specs.Writing.{Writes}
use Rattle.score.specs.WritingLaws as write
use Rattle.score.specs.WritingLaws.{score_of, written_as, Short, Fitting}
use Rattle.reporting.specs.declared.Shown.{Shown}
use Rattle.finding.specs.Finding.{Finds, cleared}
use Rattle.finding.specs.FindLaws as find
use Rattle.finding.specs.OneAnswer as finding
use Rattle.reporting.specs.Reporting.{Reports}
use Rattle.reporting.specs.ReportLaws as report
use Rattle.reporting.specs.ReportLaws.{LineOnly, Scored}
use Rattle.reporting.specs.OneAnswer as reporting

-- ==== Demand 1. "Every text and every lent slice is taken, and it finishes": no entry has a `requires`, so the prover shows of each that
-- it is safe and ends for all arguments.

-- "A faulty sheet [..] is refused with the paper's number, no result besides, tree and score slices untouched"
module _ (text : List ℕ) (k n : ℕ) (faulty : Refuses text k n) where
  pub read_refused : (r : Result Reading Refused) → Reads text r → (outcome_of r ≡ refused k n) × ReadingNumber k
  read_refused r h = (h ∙ ap reading_of faulty, reading_number text k n faulty)

  pub price_refused : (list : List ℕ) (r : Answer) → Prices text list r → outcome_of r ≡ refused_as k n
  price_refused list r h = price.text_refused text list r h k n faulty

  pub write_refused : (list score score' : List ℕ) (r : Result ℕ Refused) → Writes text list score score' r
      → (outcome_of r ≡ write.refused_as k n) × (score' ≡ score)
  write_refused list score score' r h = write.text_refused text list score r h.0 h.1 k n faulty

  pub find_refused : (tree tree' work work' : List ℕ) (r : Answer) → Finds text tree tree' work work' r
      → (outcome_of r ≡ refused_as k n) × (tree' ≡ tree) × (work' ≡ work)
  find_refused tree tree' work work' r h = find.text_refused text h k n faulty

  pub report_refused : (tree tree' work work' score score' line line' : List ℕ) (r : Shown)
      → Reports text tree tree' work work' score score' line line' r
      → LineOnly k n tree tree' score score' line' r × (work' ≡ work)
  report_refused tree tree' work work' score score' line line' r h = report.text_refused text h k n faulty

-- "a short slice or a list that is no tree is refused with the paper's number, no result besides, tree and score slices untouched. Apart
-- from these and a sheet that has no tree, nothing is refused": of an accepted text, each answer under its condition
module _ (text : List ℕ) (s : Sheet) (a : Accepts text s) where
  pub read_answers : (r : Result Reading Refused) → Reads text r
      → (answer_number r ≡ 0) × (answer_line r ≡ 0) × ((answer_value (tables no_sheet) r).grammar ≡ grammar_table s.grammar)
      × ((answer_value (tables no_sheet) r).playing ≡ playing_table s.playing)
  unfolding tables
  read_answers r h = let e = h ∙ ap reading_of a.1 in (
    ap number_in e,
    ap line_in e,
    ap (λ o. (value_in (tables no_sheet) o).grammar) e,
    ap (λ o. (value_in (tables no_sheet) o).playing) e,
  )

  pub price_answers : (list : List ℕ) (r : Answer) → Prices text list r
      → ((ValidTree s list → ⊥) × (outcome_of r ≡ refused_as 12 0)) ⊎ (ValidTree s list × (answer_number r ≡ 0))
  price_answers list r h = price.price_answers text list r h s a

  pub write_answers : (list score score' : List ℕ) (r : Result ℕ Refused) → Writes text list score score' r
      → ((ValidTree s list → ⊥) × (outcome_of r ≡ write.refused_as 12 0) × (score' ≡ score))
      ⊎ (Short s list (length score) × (outcome_of r ≡ write.refused_as 13 0) × (score' ≡ score))
      ⊎ (Fitting s list (length score) × (answer_number r ≡ 0))
  write_answers list score score' r h = write.write_answers text list score r h.0 h.1 s a

  pub find_answers : (tree tree' work work' : List ℕ) (r : Answer) → Finds text tree tree' work work' r
      → ((length work < work_cells s) × (outcome_of r ≡ refused_as 9 0) × (tree' ≡ tree) × (work' ≡ work))
      ⊎ ((work_cells s ≤ length work) × (length tree < tree_bytes s)
      × (outcome_of r ≡ refused_as 10 0) × (tree' ≡ tree) × (work' ≡ work))
      ⊎ ((work_cells s ≤ length work) × (tree_bytes s ≤ length tree) × ((bs : List ℕ) → ValidTree s bs → ⊥)
      × (outcome_of r ≡ refused_as 11 0) × (tree' ≡ tree) × (work' ≡ cleared s work))
      ⊎ ((work_cells s ≤ length work) × (tree_bytes s ≤ length tree) × find.FoundAs s tree tree' r × (work' ≡ cleared s work))
  find_answers tree tree' work work' r h = find.find_answers text h s a

  pub report_answers : (tree tree' work work' score score' line line' : List ℕ) (r : Shown)
      → Reports text tree tree' work work' score score' line line' r
      → ((length work < work_cells s) × LineOnly 9 0 tree tree' score score' line' r × (work' ≡ work))
      ⊎ ((work_cells s ≤ length work) × (length tree < tree_bytes s)
      × LineOnly 10 0 tree tree' score score' line' r × (work' ≡ work))
      ⊎ ((work_cells s ≤ length work) × (tree_bytes s ≤ length tree) × ((bs : List ℕ) → ValidTree s bs → ⊥)
      × LineOnly 11 0 tree tree' score score' line' r × (work' ≡ cleared s work))
      ⊎ ((work_cells s ≤ length work) × (tree_bytes s ≤ length tree)
      × Scored s tree tree' score score' line' r × (work' ≡ cleared s work))
  report_answers tree tree' work work' score score' line line' r h = report.report_answers text h s a

  -- ==== Demand 2. "Rule weight, distance, token kinds and score lines are those of the published definitions as document 01 fixes them"
  pub price_sound : (list : List ℕ) (r : Answer) → Prices text list r → answer_number r ≡ 0
      → Priced s list (figures_in r).weight (figures_in r).distance
      × (outcome_of r ≡ priced_as s (length list) (figures_in r).weight (figures_in r).distance)
  price_sound list r h = price.zero_then_own text list r h s a

  pub write_sound : (list score score' : List ℕ) (r : Result ℕ Refused) → Writes text list score score' r → answer_number r ≡ 0
      → (R : ℕ) × (D : ℕ) × (p : Priced s list R D) × Every (KindFits s) (entries s p.valid.leaves)
      × (outcome_of r ≡ written_as (length (score_of s p))) × (score' ≡ score_of s p ++ drop (length (score_of s p)) score)
  write_sound list score score' r h z =
      let (R, D, p, e, f) = write.zero_then_own text list score r h.0 h.1 s a z in (R, D, p, p.valid.kinds_fit, e, f)

  -- Document 02, (i). "A leaf with nothing placed and no onset before its left bound is a rest. It needs a leaf rule with n = 4, and n = 0
  -- no longer fits it": at each leaf of a list that is priced, written or handed back
  pub rests_exactly : (list : List ℕ) (v : ValidTree s list) → Every (RestFits s) (entries s v.leaves)
  rests_exactly list v = rests_fit s list v

  -- "An offered list is priced exactly when it is a valid tree for that sheet"
  pub price_exact : (list : List ℕ) (r : Answer) → Prices text list r → (answer_number r ≡ 0) ↔ ValidTree s list
  price_exact list r h = price.zero_exactly text list r h s a

  -- ==== Demand 3. "For any accepted sheet, whatever the slices hold:"
  module _ (tree tree' work work' : List ℕ) (r : Answer) (h : Finds text tree tree' work work' r) where
    -- "a tree handed back is valid, its figures are its own,"
    pub find_sound : answer_number r ≡ 0
        → (bytes : List ℕ) × (R : ℕ) × (D : ℕ) × Priced s bytes R D × (outcome_of r ≡ priced_as s (length bytes) R D)
        × (tree' ≡ bytes ++ drop (length bytes) tree)
    find_sound z = let (bytes, R, D, t, e, f) = find.zero_then_found text h s a z in (bytes, R, D, t.tree.valid, e, f)

    -- "every other valid tree totals no less."
    pub find_least : answer_number r ≡ 0 → (bs : List ℕ) (R D : ℕ) → Priced s bs R D → (figures_in r).total ≤ total_of s R D
    find_least = find.zero_then_least text h s a

    -- Document 02, (iii). "Handed back from now on is, among all least trees, the one whose byte list is smallest in dictionary order": the
    -- least trees are the valid trees with the total given, by `find_least`
    pub find_first : answer_number r ≡ 0 → (bs : List ℕ) (R D : ℕ) → Priced s bs R D → total_of s R D ≡ (figures_in r).total
        → InDictionaryOrder (take (figures_in r).nodes tree') bs
    find_first = find.zero_then_first text h s a

    -- "With slices of the required lengths a tree is handed back exactly when some list of bytes is one,"
    pub find_complete : work_cells s ≤ length work → tree_bytes s ≤ length tree
        → (answer_number r ≡ 0) ↔ ((bs : List ℕ) × ValidTree s bs × Every (λ (b : ℕ). b < 256) bs)
    find_complete = find.zero_exactly text h s a

    -- "and 11 comes exactly when no list of any length is."
    pub find_none : work_cells s ≤ length work → tree_bytes s ≤ length tree
        → (answer_number r ≡ 11) ↔ ((bs : List ℕ) → ValidTree s bs → ⊥)
    find_none = find.eleven_exactly text h s a

-- "With a shorter slice, or a text that is no accepted sheet, neither answer"
pub find_neither : (text tree tree' work work' : List ℕ) (r : Answer) → Finds text tree tree' work work' r
    → ((s : Sheet) × Accepts text s × ((length work < work_cells s) ⊎ (length tree < tree_bytes s)))
    ⊎ ((s : Sheet) → Accepts text s → ⊥)
    → (answer_number r ≡ 0 → ⊥) × (answer_number r ≡ 11 → ⊥)
find_neither text tree tree' work work' r h = find.neither text h

-- Document 02, (iii). "Two builds could print one take as two pages with one total": two answers to one call are the same, and so is what
-- they leave in every slice, of every text and all slices. t₁, w₁, c₁, l₁ are the tree, work, score and line slice after the one,
-- and t₂, w₂, c₂, l₂ after the other.
pub find_one_answer : (text tree t₁ t₂ work w₁ w₂ : List ℕ) (r₁ r₂ : Answer) → Finds text tree t₁ work w₁ r₁
    → Finds text tree t₂ work w₂ r₂ → (r₁ ≡ r₂) × (t₁ ≡ t₂) × (w₁ ≡ w₂)
find_one_answer text tree t₁ t₂ work w₁ w₂ r₁ r₂ = finding.one_answer text tree work

pub report_one_answer : (text tree t₁ t₂ work w₁ w₂ score c₁ c₂ line l₁ l₂ : List ℕ) (r₁ r₂ : Shown)
    → Reports text tree t₁ work w₁ score c₁ line l₁ r₁ → Reports text tree t₂ work w₂ score c₂ line l₂ r₂
    → (r₁ ≡ r₂) × (t₁ ≡ t₂) × (w₁ ≡ w₂) × (c₁ ≡ c₂) × (l₁ ≡ l₂)
report_one_answer text tree t₁ t₂ work w₁ w₂ score c₁ c₂ line l₁ l₂ r₁ r₂ =
    reporting.one_answer text tree work score line

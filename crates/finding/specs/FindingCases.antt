-- The cases as a theorem about the contract itself: whatever meets `Finds` on the text, with slices of the required lengths or longer
-- and of any content, gives the papers' values, in the answer and in both slices.
--
-- What document 01's reviewer will try, and the theorem that refutes it:
-- 1. a finder that always says 11: `Refuted.find_always_eleven`; for any sheet `FindingLaws.some_then_zero`;
-- 2. the whole-bar leaf everywhere: `S_found` (the bytes are `010303`); for any sheet `FindingLaws.handed_back` (a valid tree, and least);
-- 3. no bytes written and none reported: `S_found` (the node count is 3); for any sheet `FindingLaws.handed_back` with `no_bytes`;
-- 4. an invented total: `FindingLaws.handed_back` (R, D and total are those of the bytes at the front of the tree slice);
-- 5. "no tree" before looking: `Refuted.find_eleven_for_nine`; for any sheet `FindingLaws.eleven_then_none`;
-- 6. a pricer that says 12 to everything: `says_12_to_everything` in pricing's `Cases`;
-- 7. a result or a slice unspoken for: `OneAnswer.one_answer` (two answers to one call are the same, in the answer and in both slices).
-- And by document 02, (iii), a finder that gives another least tree than the first: `Refuted.find_last_of_equals`,
-- `Refuted.find_shortest_of_equals`; for any sheet `FindLaws.zero_then_first`.
use Rattle.std.specs.Prelude.{ℕ, ◌≤◌, ◌≡◌, refl, true, eqb, length, take, replicate}
use Rattle.std.proofs.Common.{ap, subst, ◌∙◌, arith, eqb-true}
use Rattle.std.proofs.lemmas.Bool.{false≢true}
use mathlib.Core.List.{List, [], ◌∷◌, map, head-eq_of_cons-eq, tail-eq_of_cons-eq}
use Rattle.slices.specs.Every.{Every}
use Rattle.slices.specs.Test.{and_both}
use Rattle.slices.specs.Over.{over, take-over}
use Rattle.sheet.specs.Sheet.{Sheet, TimedSheet}
use Rattle.sheet.specs.Outcome.{Outcome, refused, accepted}
use Rattle.sheet.specs.Reading.{read_sheet}
use Rattle.sheet.specs.Good.{Good}
use Rattle.sheet.specs.Accepted.{Accepts}
use Rattle.sheet.proofs.AcceptedLaws.{accepted_good}
use Rattle.sheet.specs.Cases.{S, sheet_s, S_means}
use Rattle.sizes.specs.Sizes.{tree_bytes, work_cells}
use Rattle.sizes.specs.Cases.{S_tree, S_work}
use Rattle.trees.specs.ValidTrees as trees
use Rattle.trees.specs.ValidTrees.{total_of}
use Rattle.trees.specs.LeastTrees.{one_first_tree}
use Rattle.pricing.specs.declared.Priced.{Priced}
use Rattle.pricing.specs.Pricing.{Figures, priced, price_sheet, priced_of, Answer}
use Rattle.pricing.specs.PricingLaws.{price_own}
use Rattle.finding.specs.Finding.{Search, found, no_tree, find_sheet, find_text, cleared, FoundTree, Result, Gives, Finds}
use Rattle.finding.specs.Outcomes.{work_short, tree_short, one_found, none_found}
use Rattle.finding.specs.FindingLaws.{has_tree_lem, has_none, sheet_found}
use Rattle.finding.specs.CaseLaws.{alike_eq, first_computed, no_tree_lem}
use Rattle.finding.specs.Cases.{Case, cases, alike, none_before, carries_out, every_list, judged_tree, judged, holds}
use Rattle.finding.specs.Cases.{bar_or_halves, equals, all_computed, equals_computed}
use Rattle.sheet.specs.Refusal.{outcome_of}

-- what is given of a case, and how the slices are left
pub record Answered (c : Case) (tree treeAfter work workAfter : List ℕ) (answer : Answer) : Type 0 where
  pub answer_is : outcome_of answer ≡ priced_of c.gives
  pub tree_is : treeAfter ≡ over c.bytes tree
  pub work_is : workAfter ≡ over (replicate c.cells 0) work

-- by whatever meets the contract
abbrev pub Answers : Case → Type 0
Answers c =
    (tree treeAfter work workAfter : List ℕ) (answer : Answer) → c.cells ≤ length work → c.room ≤ length tree
    → Finds c.text tree treeAfter work workAfter answer → Answered c tree treeAfter work workAfter answer

-- ---- what finding gives of them

-- the answer and the slices of a sheet
pub record AnsweredSheet (s : Sheet) (o : Outcome Figures) (bs tree treeAfter work workAfter : List ℕ) (answer : Answer) : Type 0 where
  pub answer_so : outcome_of answer ≡ priced_of o
  pub tree_so : treeAfter ≡ over bs tree
  pub work_so : workAfter ≡ cleared s work

-- the first tree is the tree found
is_found : (s : Sheet) (bs : List ℕ) (n R D t : ℕ) → every_list s (none_before s bs t) ≡ true → price_sheet s bs ≡ priced n R D t
    → {tree treeAfter work workAfter : List ℕ} {answer : Answer} → FoundTree s tree treeAfter answer → workAfter ≡ cleared s work
    → AnsweredSheet s (priced n R D t) bs tree treeAfter work workAfter answer
is_found s bs n R D t all e {tree} {treeAfter} {work} {workAfter} {answer} g c =
    go (one_first_tree s g.bytes bs g.weight g.distance R D g.first (first_computed s bs n R D t all e))
    (price_own s bs n R D t e)
  where
    go : (g.bytes ≡ bs) × (g.weight ≡ R) × (g.distance ≡ D)
        → trees.Priced s bs R D × (n ≡ length bs) × (t ≡ total_of s R D)
        → AnsweredSheet s (priced n R D t) bs tree treeAfter work workAfter answer
    go (eb, er, ed) (p, en, et) =
        let same : priced (length g.bytes) g.weight g.distance (total_of s g.weight g.distance) ≡ priced n R D t =
        rw (eb, er, ed, en, et) refl in
        record {
          answer_so = g.figures ∙ ap priced_of same;
          tree_so = g.tree_written ∙ ap (λ (xs : List ℕ). over xs tree) eb;
          work_so = c;
        }

module _ (text : List ℕ) (s : Sheet) (a : Accepts text s) {tree treeAfter work workAfter : List ℕ} {answer : Answer}
    (w : work_cells s ≤ length work) (room : tree_bytes s ≤ length tree) (f : Finds text tree treeAfter work workAfter answer) where
  ok : Good s
  ok = accepted_good text s a

  -- the result, by what finding comes to
  result_at : (o : Outcome Search) → find_sheet s (length tree) (length work) ≡ o → Result o tree treeAfter work workAfter answer
  result_at o e = (subst (λ o. Gives o tree treeAfter work workAfter answer) (sheet_found text _ _ s a ∙ e) f).result

  -- there is a first tree
  tree_answered : (bs : List ℕ) (n R D t : ℕ) → price_sheet s bs ≡ priced n R D t → every_list s (none_before s bs t) ≡ true
      → AnsweredSheet s (priced n R D t) bs tree treeAfter work workAfter answer
  tree_answered bs n R D t e all =
      let r = result_at (accepted (found s)) (one_found s _ _ w room (has_tree_lem s ok bs (price_own s bs n R D t e).0.valid)) in
      is_found s bs n R D t all e r.0 r.1

  -- there is none
  none_answered : every_list s carries_out ≡ true → AnsweredSheet s (refused 11 0) [] tree treeAfter work workAfter answer
  unfolding over
  none_answered all =
      let r = result_at (accepted (no_tree s)) (none_found s _ _ w room (has_none s ok (no_tree_lem s all))) in
      record { answer_so = r.0.is; tree_so = r.0.tree_kept; work_so = r.1 }

  sheet_answered : (o : Outcome Figures) (bs : List ℕ) → judged_tree s o bs ≡ true
      → AnsweredSheet s o bs tree treeAfter work workAfter answer
  unfolding judged_tree
  sheet_answered (accepted p) bs e =
      let (a, b) = and_both (alike (price_sheet s bs) (accepted p)) _ e in
      tree_answered bs p.nodes p.weight p.distance p.total (alike_eq _ _ a) b
  sheet_answered (refused k n) [] e =
      let (a, b) = and_both (alike (refused k n) (refused 11 0)) _ e in rw (alike_eq (refused k n) (refused 11 0) a) (none_answered b)
  sheet_answered (refused k n) (b ∷ bs) e = absurd (false≢true e)

case_answered : (c : Case) → holds c ≡ true → Answers c
unfolding holds judged
case_answered c e tree treeAfter work workAfter answer w t f = go (read_sheet c.text) refl e
  where
    go : (o : Outcome TimedSheet) → read_sheet c.text ≡ o → judged o c ≡ true → Answered c tree treeAfter work workAfter answer
    go (refused k n) r h = absurd (false≢true h)
    go (accepted x) r h =
        let (a, v) = and_both (eqb (work_cells x.sheet) c.cells) _ h in
        let (b, y) = and_both (eqb (tree_bytes x.sheet) c.room) _ v in
        let cells = eqb-true (work_cells x.sheet) c.cells a in
        let bytes = eqb-true (tree_bytes x.sheet) c.room b in
        let g = sheet_answered c.text x.sheet (x.timing, r) (omega (arith, cells)) (omega (arith, bytes)) f c.gives c.bytes
        y in
        record {
          answer_is = g.answer_so;
          tree_is = g.tree_so;
          work_is = g.work_so ∙ ap (λ (n : ℕ). over (replicate n 0) work) cells;
        }

pub each : (cs : List Case) → map holds cs ≡ replicate (length cs) true → Every Answers cs
each [] e = tt
each (c ∷ cs) e = (case_answered c (head-eq_of_cons-eq e), each cs (tail-eq_of_cons-eq e))

-- all of them
pub all_answered : Every Answers cases
all_answered = each cases all_computed

-- of two least trees the first
pub equals_answered : Every Answers equals
equals_answered = each equals equals_computed

-- S: number 0, line 0, three nodes, R 8, D 1,008, total 1,088, and `010303` at the front of the tree slice
pub S_found : (tree treeAfter work workAfter : List ℕ) (answer : Answer) → 464 ≤ length work → 161 ≤ length tree
    → Finds S tree treeAfter work workAfter answer
    → (outcome_of answer ≡ accepted (record { nodes = 3; weight = 8; distance = 1008; total = 1088 }))
    × (take 3 treeAfter ≡ 1 ∷ 3 ∷ 3 ∷ [])
S_found tree treeAfter work workAfter answer w t f =
    let g = all_answered.0 tree treeAfter work workAfter answer w t f in
    (g.answer_is, ap (take 3) g.tree_is ∙ take-over (1 ∷ 3 ∷ 3 ∷ []) tree (omega arith))

-- document 02, (iii): "`00` and `010403` both total 5,040, and `00` is given"
pub bar_or_halves_found : (tree treeAfter work workAfter : List ℕ) (answer : Answer) → 240 ≤ length work → 81 ≤ length tree
    → Finds bar_or_halves tree treeAfter work workAfter answer
    → (outcome_of answer ≡ accepted (record { nodes = 1; weight = 1; distance = 5040; total = 5040 }))
    × (take 1 treeAfter ≡ 0 ∷ [])
bar_or_halves_found tree treeAfter work workAfter answer w t f =
    let g = equals_answered.0 tree treeAfter work workAfter answer w t f in
    (g.answer_is, ap (take 1) g.tree_is ∙ take-over (0 ∷ []) tree (omega arith))

-- "9: S with 463 cells", whatever the tree slice; "10: S with 160 bytes", with enough cells
pub S_nine : (tree : ℕ) → find_text S tree 463 ≡ refused 9 0
S_nine tree = sheet_found S tree 463 sheet_s (_, S_means) ∙ work_short sheet_s tree 463 (omega (arith, S_work))

pub S_ten : (work : ℕ) → 464 ≤ work → find_text S 160 work ≡ refused 10 0
S_ten work h =
    sheet_found S 160 work sheet_s (_, S_means) ∙ tree_short sheet_s 160 work (omega (arith, S_work)) (omega (arith, S_tree))

-- What `report` prints of a text that is refused or means a sheet, from `Reports` alone: the line of the refusal, with the tree and score
-- slices kept; or the score text of the first least tree, which then stands in the tree slice.
use Rattle.std.specs.Prelude.{ℕ, ◌≤◌, ◌<◌, ◌≡◌, List, ◌++◌, ◌⊎◌, length, drop}
use Rattle.std.proofs.Common.{ap, subst, ◌∙◌}
use Rattle.std.proofs.Math.Logic.{inl, inr}
use Rattle.std.proofs.Math.Decide.{dec_le}
use native.Mathlib.Omega.{arith}
use Rattle.slices.specs.Over.{over, over-drop}
use Rattle.sheet.specs.Sheet.{Sheet}
use Rattle.sizes.specs.Sizes.{tree_bytes, work_cells}
use Rattle.trees.specs.ValidTrees.{ValidTree}
use Rattle.trees.specs.LeastTrees.{FirstTree}
use Rattle.sheet.specs.Outcome.{Outcome, refused, accepted}
use Rattle.sheet.specs.Accepted.{Refuses, Accepts}
use Rattle.score.specs.WritingLaws.{score_of, own_text}
use Rattle.reporting.specs.declared.Shown.{Shown}
use Rattle.finding.specs.Finding.{Search, no_tree, found, find_text, cleared}
use Rattle.finding.specs.FindingLaws.{refused_found}
use Rattle.finding.specs.FindLaws.{outcome_nine, outcome_ten, outcome_eleven, outcome_found, by_slices}
use Rattle.score.specs.Writing.{text_within, score_after}
use Rattle.reporting.specs.Reporting.{refusal_line, page_text, printed, tree_with, PrintsTree, Printed, Reports}
use Rattle.reporting.specs.ReportingLaws.{within_lines, within_short}

-- the line of a refusal is printed, and the tree and score slices are kept
abbrev pub LineOnly : (k n : ℕ) → (tree tree' score score' line' : List ℕ) → Shown → Type 0
LineOnly k n tree tree' score score' line' r = (printed r score' line' ≡ refusal_line k n) × (tree' ≡ tree) × (score' ≡ score)

-- a tree's score text is printed from the front of the score slice, and the tree stands at the front of the tree slice
abbrev pub ScoreShown : (text bytes tree tree' score score' line' : List ℕ) → Shown → Type 0
ScoreShown text bytes tree tree' score score' line' r =
    (printed r score' line' ≡ text) × (tree' ≡ over bytes tree) × (score' ≡ text ++ drop (length text) score)

-- this of the first least tree of the sheet; or the line of refusal 13, where the score slice is short of its text
abbrev pub Scored : Sheet → (tree tree' score score' line' : List ℕ) → Shown → Type 0
Scored s tree tree' score score' line' r =
    (bytes : List ℕ) × (R : ℕ) × (D : ℕ) × (t : FirstTree s bytes R D)
    × (((length score < length (score_of s t.tree.valid)) × LineOnly 13 0 tree tree' score score' line' r)
    ⊎ ((length (score_of s t.tree.valid) ≤ length score)
    × ScoreShown (score_of s t.tree.valid) bytes tree tree' score score' line' r))

module _ (s : Sheet) {tree tree' score score' line line' : List ℕ} {r : Shown} (p : PrintsTree s tree tree' score score' line line' r) where
  abbrev lines : List ℕ
  lines = score_of s p.first.tree.valid

  of_page : (g : Outcome (List ℕ)) → text_within (length score) lines ≡ g
      → (printed r score' line' ≡ page_text g) × (tree' ≡ tree_with g p.bytes tree) × (score' ≡ score_after g score)
  of_page g q =
      let e = ap (text_within (length score)) (own_text s p.first.tree.valid) ∙ q in (
        p.page.text ∙ ap page_text e,
        p.tree_is ∙ ap (λ (g : Outcome (List ℕ)). tree_with g p.bytes tree) e,
        p.page.score_is ∙ ap (λ (g : Outcome (List ℕ)). score_after g score) e,
      )

  scored : Scored s tree tree' score score' line' r
  unfolding score_after
  scored = (
    p.bytes,
    p.weight,
    p.distance,
    p.first,
    elim (dec_le (length lines) (length score)) [
      | yes h ↦ let g = of_page (accepted lines) (within_lines (length score) lines h) in
          inr (h, (g.0, g.1, g.2 ∙ over-drop lines score h))
      | no h ↦ inl (omega arith, of_page (refused 13 0) (within_short (length score) lines (omega arith)))
    ],
  )

module _ (text : List ℕ) {tree tree' work work' score score' line line' : List ℕ} {r : Shown}
    (h : Reports text tree tree' work work' score score' line line' r) where
  given : (o : Outcome Search) → find_text text (length tree) (length work) ≡ o → Printed o tree tree' work work' score score' line line' r
  given o q = subst (λ (o : Outcome Search). Printed o tree tree' work work' score score' line line' r) q h.is

  given_refused : (k n : ℕ) → find_text text (length tree) (length work) ≡ refused k n
      → LineOnly k n tree tree' score score' line' r × (work' ≡ work)
  unfolding score_after
  given_refused k n q = let (p, t, w) = given (refused k n) q in ((p.text, t, p.score_is), w)

  pub text_refused : (k n : ℕ) → Refuses text k n → LineOnly k n tree tree' score score' line' r × (work' ≡ work)
  text_refused k n e = given_refused k n (refused_found text _ _ k n e)

  module _ (s : Sheet) (a : Accepts text s) where
    pub work_short_then_nine : length work < work_cells s → LineOnly 9 0 tree tree' score score' line' r × (work' ≡ work)
    work_short_then_nine w = given_refused 9 0 (outcome_nine text _ _ s a w)

    module _ (w : work_cells s ≤ length work) where
      pub tree_short_then_ten : length tree < tree_bytes s → LineOnly 10 0 tree tree' score score' line' r × (work' ≡ work)
      tree_short_then_ten t = given_refused 10 0 (outcome_ten text _ _ s a w t)

      module _ (t : tree_bytes s ≤ length tree) where
        pub no_tree_then_eleven : ((bs : List ℕ) → ValidTree s bs → ⊥)
            → LineOnly 11 0 tree tree' score score' line' r × (work' ≡ cleared s work)
        unfolding score_after
        no_tree_then_eleven n =
            let (p, t, w) = given (accepted (no_tree s)) (outcome_eleven text _ _ s a w t n) in ((p.text, t, p.score_is), w)

        -- the first least tree: its score text, or 13 where the score slice is short of it
        pub some_then_score : (bs : List ℕ) → ValidTree s bs → Scored s tree tree' score score' line' r × (work' ≡ cleared s work)
        some_then_score bs v =
            let (p, c) = given (accepted (found s)) (outcome_found text _ _ s a w t bs v) in (scored s p, c)

    -- there is no other way: each answer under its condition
    pub report_answers : ((length work < work_cells s) × LineOnly 9 0 tree tree' score score' line' r × (work' ≡ work))
        ⊎ ((work_cells s ≤ length work) × (length tree < tree_bytes s) × LineOnly 10 0 tree tree' score score' line' r × (work' ≡ work))
        ⊎ ((work_cells s ≤ length work) × (tree_bytes s ≤ length tree) × ((bs : List ℕ) → ValidTree s bs → ⊥)
        × LineOnly 11 0 tree tree' score score' line' r × (work' ≡ cleared s work))
        ⊎ ((work_cells s ≤ length work) × (tree_bytes s ≤ length tree) × Scored s tree tree' score score' line' r × (work' ≡ cleared s work))
    report_answers = elim (by_slices text (length tree) (length work) s a) [
      | inl h ↦ let g = work_short_then_nine h in inl (h, g.0, g.1)
      | inr x ↦ elim x [
        | inl (w, h) ↦ let g = tree_short_then_ten w h in inr (inl (w, h, g.0, g.1))
        | inr y ↦ elim y [
          | inl (w, t, h) ↦ let g = no_tree_then_eleven w t h in inr (inr (inl (w, t, h, g.0, g.1)))
          | inr (w, t, v) ↦ let g = some_then_score w t v.0 v.1 in inr (inr (inr (w, t, g.0, g.1)))
        ]
      ]
    ]

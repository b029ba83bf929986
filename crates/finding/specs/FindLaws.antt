-- What `find` gives of a text that is refused or means a sheet, whole, from `Finds` alone: each number under its condition, the tree slice
-- kept by every refusal, and with number 0 the tree, its figures and the bytes behind it. `FindingLaws` has demand 3 by the number.
use Rattle.std.specs.Prelude.{ℕ, ◌≤◌, ◌<◌, ◌≡◌, List, ◌++◌, ◌⊎◌, ◌↔◌, take, drop}
use Rattle.std.proofs.Common.{ap, subst, ◌∙◌, inl, inr, arith}
use Rattle.std.proofs.Math.Decide.{dec_lt}
use Rattle.std.proofs.Math.ListN.{length}
use Rattle.slices.specs.Every.{Every}
use Rattle.slices.specs.Over.{over-drop}
use Rattle.sheet.specs.Sheet.{Sheet}
use Rattle.sheet.specs.Outcome.{Outcome, refused, accepted, number_in, line_in}
use Rattle.sheet.specs.Good.{Good}
use Rattle.sheet.specs.Accepted.{Refuses, Accepts}
use Rattle.sheet.proofs.AcceptedLaws.{accepted_good, refuses_or_accepts}
use Rattle.sizes.specs.Sizes.{tree_bytes, work_cells}
use Rattle.trees.specs.ValidTrees as trees
use Rattle.trees.specs.ValidTrees.{ValidTree, total_of}
use Rattle.trees.specs.LeastTrees.{InDictionaryOrder, FirstTree}
use Rattle.trees.proofs.Theorems.{none_or_first}
use Rattle.pricing.specs.declared.Priced.{Priced}
use Rattle.pricing.specs.Pricing.{priced_of, Answer, figures_of, figures_in}
use Rattle.pricing.specs.PriceLaws.{refused_as, priced_as}
use Rattle.finding.specs.Finding.{Search, no_tree, found, find_sheet, find_text, cleared, Gives, Finds}
use Rattle.finding.specs.Outcomes.{work_short, tree_short, none_found, one_found}
use Rattle.finding.specs.FindingLaws.{tree_fits, has_tree_lem, has_none, some_then_zero, zero_then_some, none_then_eleven}
use Rattle.finding.specs.FindingLaws.{eleven_then_none, short_neither, refused_neither, refused_found, sheet_found}
use Rattle.finding.specs.FindingLaws.{TreeHandedBack, tree_handed_back}
use Rattle.sheet.specs.Refusal.{outcome_of, answer_number}

-- ---- what finding comes to, by the lengths of the slices and by whether there is a tree

module _ (text : List ℕ) (tree work : ℕ) (s : Sheet) (a : Accepts text s) where
  ok : Good s
  ok = accepted_good text s a

  of_sheet : (o : Outcome Search) → find_sheet s tree work ≡ o → find_text text tree work ≡ o
  of_sheet o q = sheet_found text tree work s a ∙ q

  pub outcome_nine : work < work_cells s → find_text text tree work ≡ refused 9 0
  outcome_nine h = of_sheet _ (work_short s tree work h)

  pub outcome_ten : work_cells s ≤ work → tree < tree_bytes s → find_text text tree work ≡ refused 10 0
  outcome_ten w h = of_sheet _ (tree_short s tree work w h)

  pub outcome_eleven : work_cells s ≤ work → tree_bytes s ≤ tree → ((bs : List ℕ) → ValidTree s bs → ⊥)
      → find_text text tree work ≡ accepted (no_tree s)
  outcome_eleven w t h = of_sheet _ (none_found s tree work w t (has_none s ok h))

  pub outcome_found : work_cells s ≤ work → tree_bytes s ≤ tree → (bs : List ℕ) → ValidTree s bs
      → find_text text tree work ≡ accepted (found s)
  outcome_found w t bs v = of_sheet _ (one_found s tree work w t (has_tree_lem s ok bs v))

  -- there is no other way
  pub by_slices : (work < work_cells s)
      ⊎ ((work_cells s ≤ work) × (tree < tree_bytes s))
      ⊎ ((work_cells s ≤ work) × (tree_bytes s ≤ tree) × ((bs : List ℕ) → ValidTree s bs → ⊥))
      ⊎ ((work_cells s ≤ work) × (tree_bytes s ≤ tree) × ((bs : List ℕ) × ValidTree s bs))
  by_slices = elim (dec_lt work (work_cells s)) [
    | yes h ↦ inl h
    | no h ↦ elim (dec_lt tree (tree_bytes s)) [
      | yes k ↦ inr (inl (omega arith, k))
      | no k ↦ elim (none_or_first s ok) [
        | inl n ↦ inr (inr (inl (omega arith, omega arith, n)))
        | inr x ↦ inr (inr (inr (omega arith, omega arith, (x.0, x.3.tree.valid.valid))))
      ]
    ]
  ]

-- ---- what is given

-- the first least tree over the front of the tree slice, whose later bytes are kept, and its figures
abbrev pub FoundAs : Sheet → (tree tree' : List ℕ) → Answer → Type 0
FoundAs s tree tree' r =
    (bytes : List ℕ) × (R : ℕ) × (D : ℕ) × FirstTree s bytes R D × (outcome_of r ≡ priced_as s (length bytes) R D)
    × (tree' ≡ bytes ++ drop (length bytes) tree)

module _ (text : List ℕ) {tree tree' work work' : List ℕ} {r : Answer} (f : Finds text tree tree' work work' r) where
  given : (o : Outcome Search) → find_text text (length tree) (length work) ≡ o → Gives o tree tree' work work' r
  given o q = subst (λ (o : Outcome Search). Gives o tree tree' work work' r) q f

  -- a refusal gives its number, its line and zeros, and keeps both slices
  given_refused : (k n : ℕ) → find_text text (length tree) (length work) ≡ refused k n
      → (outcome_of r ≡ refused_as k n) × (tree' ≡ tree) × (work' ≡ work)
  given_refused k n q = let g = given (refused k n) q in (g.result.0.is, g.result.0.tree_kept, g.result.1)

  pub text_refused : (k n : ℕ) → Refuses text k n → (outcome_of r ≡ refused_as k n) × (tree' ≡ tree) × (work' ≡ work)
  text_refused k n e = given_refused k n (refused_found text _ _ k n e)

  -- "With a shorter slice, or a text that is no accepted sheet, neither answer"
  pub neither : ((s : Sheet) × Accepts text s × ((length work < work_cells s) ⊎ (length tree < tree_bytes s)))
      ⊎ ((s : Sheet) → Accepts text s → ⊥) → (answer_number r ≡ 0 → ⊥) × (answer_number r ≡ 11 → ⊥)
  neither (inl (s, a, short)) = short_neither text f s a short
  neither (inr no-sheet) = elim (refuses_or_accepts text) [
    | inl (k, n, e) ↦ refused_neither text f k n e
    | inr (s, a) ↦ absurd (no-sheet s a)
  ]

  module _ (s : Sheet) (a : Accepts text s) where
    pub work_short_then_nine : length work < work_cells s → (outcome_of r ≡ refused_as 9 0) × (tree' ≡ tree) × (work' ≡ work)
    work_short_then_nine h = given_refused 9 0 (outcome_nine text _ _ s a h)

    pub tree_short_then_ten : work_cells s ≤ length work → length tree < tree_bytes s
        → (outcome_of r ≡ refused_as 10 0) × (tree' ≡ tree) × (work' ≡ work)
    tree_short_then_ten w h = given_refused 10 0 (outcome_ten text _ _ s a w h)

    -- after 11 the required work cells are 0
    pub no_tree_then_eleven : work_cells s ≤ length work → tree_bytes s ≤ length tree → ((bs : List ℕ) → ValidTree s bs → ⊥)
        → (outcome_of r ≡ refused_as 11 0) × (tree' ≡ tree) × (work' ≡ cleared s work)
    no_tree_then_eleven w t h =
        let g = given (accepted (no_tree s)) (outcome_eleven text _ _ s a w t h) in
        (g.result.0.is, g.result.0.tree_kept, g.result.1)

    -- and so they are after a tree: it lies over the front of the tree slice, and the answer has its figures
    pub tree_then_found : work_cells s ≤ length work → tree_bytes s ≤ length tree → (bs : List ℕ) → ValidTree s bs
        → FoundAs s tree tree' r × (work' ≡ cleared s work)
    tree_then_found w t bs v =
        let g = given (accepted (found s)) (outcome_found text _ _ s a w t bs v) in
        let x = g.result.0 in
        let fits : length x.bytes ≤ length tree =
        omega (arith, tree_fits s (accepted_good text s a) x.bytes x.first.tree.valid.valid) in
        ((x.bytes, x.weight, x.distance, x.first, x.figures, x.tree_written ∙ over-drop x.bytes tree fits), g.result.1)

    -- "Apart from these and a sheet that has no tree, nothing is refused": each answer under its condition
    pub find_answers : ((length work < work_cells s) × (outcome_of r ≡ refused_as 9 0) × (tree' ≡ tree) × (work' ≡ work))
        ⊎ ((work_cells s ≤ length work) × (length tree < tree_bytes s)
        × (outcome_of r ≡ refused_as 10 0) × (tree' ≡ tree) × (work' ≡ work))
        ⊎ ((work_cells s ≤ length work) × (tree_bytes s ≤ length tree) × ((bs : List ℕ) → ValidTree s bs → ⊥)
        × (outcome_of r ≡ refused_as 11 0) × (tree' ≡ tree) × (work' ≡ cleared s work))
        ⊎ ((work_cells s ≤ length work) × (tree_bytes s ≤ length tree) × FoundAs s tree tree' r × (work' ≡ cleared s work))
    find_answers = elim (by_slices text (length tree) (length work) s a) [
      | inl h ↦ let g = work_short_then_nine h in inl (h, g.0, g.1, g.2)
      | inr x ↦ elim x [
        | inl (w, h) ↦ let g = tree_short_then_ten w h in inr (inl (w, h, g.0, g.1, g.2))
        | inr y ↦ elim y [
          | inl (w, t, h) ↦ let g = no_tree_then_eleven w t h in inr (inr (inl (w, t, h, g.0, g.1, g.2)))
          | inr (w, t, v) ↦ let g = tree_then_found w t v.0 v.1 in inr (inr (inr (w, t, g.0, g.1)))
        ]
      ]
    ]

    -- number 0: "a tree handed back is valid, its figures are its own"
    pub zero_then_found : answer_number r ≡ 0 → FoundAs s tree tree' r
    zero_then_found z = elim find_answers [
      | inl x ↦ let q = ap number_in x.1 in let f : ⊥ = omega arith in absurd f
      | inr y ↦ elim y [
        | inl x ↦ let q = ap number_in x.2 in let f : ⊥ = omega arith in absurd f
        | inr y ↦ elim y [ inl x ↦ let q = ap number_in x.3 in let f : ⊥ = omega arith in absurd f | inr x ↦ x.2 ]
      ]
    ]

    -- and the bytes at the front of the tree slice are that tree
    pub zero_then_back : answer_number r ≡ 0 → TreeHandedBack s tree tree' work work' r
    zero_then_back =
        let at-sheet = subst (λ o. Gives o tree tree' work work' r) (sheet_found text _ _ s a) f in
        tree_handed_back s (accepted_good text s a) at-sheet

    -- "every other valid tree totals no less"
    pub zero_then_least : answer_number r ≡ 0 → (bs : List ℕ) (R D : ℕ) → trees.Priced s bs R D → (figures_in r).total ≤ total_of s R D
    zero_then_least z bs R D p =
        let (xs, R₀, D₀, f, e, g) = zero_then_found z in
        omega (arith, f.tree.least bs R D p, ap (λ (x : Outcome Priced). (figures_of x).total) e)

    -- document 02, (iii), "among all least trees, the one whose byte list is smallest in dictionary order": of the valid trees with that
    -- total none comes before the bytes handed back
    pub zero_then_first : answer_number r ≡ 0 → (bs : List ℕ) (R D : ℕ) → trees.Priced s bs R D → total_of s R D ≡ (figures_in r).total
        → InDictionaryOrder (take (figures_in r).nodes tree') bs
    zero_then_first z bs R D p e =
        let back = zero_then_back z in
        back.first.first bs R D
        (record { valid = p; least = λ xs R' D' q. omega (arith, e, back.total, back.first.tree.least xs R' D' q) })

    -- "With slices of the required lengths a tree is handed back exactly when some list of bytes is one"
    pub zero_exactly : work_cells s ≤ length work → tree_bytes s ≤ length tree
        → (answer_number r ≡ 0) ↔ ((bs : List ℕ) × ValidTree s bs × Every (λ (b : ℕ). b < 256) bs)
    zero_exactly w t = (zero_then_some text f s a w t, λ x. some_then_zero text f s a w t x.0 x.1)

    -- "and 11 comes exactly when no list of any length is"
    pub eleven_exactly : work_cells s ≤ length work → tree_bytes s ≤ length tree
        → (answer_number r ≡ 11) ↔ ((bs : List ℕ) → ValidTree s bs → ⊥)
    eleven_exactly w t = (eleven_then_none text f s a w t, none_then_eleven text f s a w t)

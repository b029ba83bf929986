-- The entry behind the program on document 01's sheet S: whatever meets `Reports` prints the three lines that "the program prints", or the
-- line of refusal 13 where the score slice is short of them, and then keeps the tree slice. And some lines of refusals, by computation.
use Rattle.std.specs.Prelude.{ℕ, ◌≤◌, ◌<◌, ◌≡◌, refl, true, List, [], ◌∷◌, length}
use Rattle.std.proofs.Math.Path.{ap}
use Rattle.std.proofs.Common.{subst, ◌∙◌, arith}
use Rattle.std.proofs.Math.Option.{Option-elim}
use Rattle.hextext.specs.Written.{line_text}
use Rattle.sheet.specs.Literal.{text_of}
use Rattle.sheet.specs.Cases.{S, sheet_s, S_means}
use Rattle.sizes.specs.Cases.{S_tree, S_work}
use Rattle.derivations.specs.Derivation.{onto}
use Rattle.derivations.specs.Minima.{lowest}
use Rattle.derivations.specs.Folds.{via, forward}
use Rattle.trees.specs.ValidTrees.{whose, distance_to}
use Rattle.trees.specs.LeastTotal.{least_total}
use Rattle.trees.specs.LeastTrees.{FirstTree, one_first_tree}
use Rattle.pricing.specs.Pricing.{price_sheet}
use Rattle.hextext.specs.Fields.{big_endian}
use Rattle.score.specs.Cases.{lines_of_s, S_score}
use Rattle.reporting.specs.declared.Shown.{Shown}
use Rattle.sheet.specs.Outcome.{Outcome, accepted}
use Rattle.score.specs.Writing.{text_within}
use Rattle.finding.specs.Finding.{has_tree, Search, found, find_text}
use Rattle.finding.specs.Outcomes.{one_found}
use Rattle.finding.specs.FindingLaws.{sheet_found}
use Rattle.finding.specs.Cases.{none_before, every_list}
use Rattle.finding.specs.CaseLaws.{first_computed}
use Rattle.reporting.specs.Reporting.{refusal_line, page_text, tree_with, printed, PrintsTree, Printed, Reports}
use Rattle.reporting.specs.ReportingLaws.{within_lines, within_short}

-- ---- lines of refusals

pub refusal_lines : refusal_line 9 0 ∷ refusal_line 11 0 ∷ refusal_line 13 0 ∷ refusal_line 2 258 ∷ []
    ≡ text_of "52090000\n" ∷ text_of "520B0000\n" ∷ text_of "520D0000\n" ∷ text_of "52020102\n" ∷ []
unfolding refusal_line line_text big_endian
refusal_lines = refl

-- ---- S

S_has_tree : has_tree sheet_s ≡ true
unfolding has_tree least_total whose distance_to Option-elim lowest via forward onto
S_has_tree = refl

-- the tree of S
S_first : FirstTree sheet_s (1 ∷ 3 ∷ 3 ∷ []) 8 1008
unfolding every_list none_before price_sheet onto whose distance_to Option-elim
S_first = first_computed sheet_s (1 ∷ 3 ∷ 3 ∷ []) 3 8 1008 1088 refl refl

module _ (tree treeAfter work workAfter score score_after line lineAfter : List ℕ) (shown : Shown) (w : 464 ≤ length work)
    (t : 161 ≤ length tree) (r : Reports S tree treeAfter work workAfter score score_after line lineAfter shown) where
  S_outcome : find_text S (length tree) (length work) ≡ accepted (found sheet_s)
  S_outcome =
      sheet_found S _ _ sheet_s (_, S_means)
      ∙ one_found sheet_s _ _ (omega (arith, S_work)) (omega (arith, S_tree)) S_has_tree

  S_page : PrintsTree sheet_s tree treeAfter score score_after line lineAfter shown
  S_page =
      (subst (λ (o : Outcome Search). Printed o tree treeAfter work workAfter score score_after line lineAfter shown) S_outcome r.is).0

  abbrev page : Outcome (List ℕ)
  page = text_within (length score) lines_of_s

  -- what is printed, and the tree slice
  S_shown : (printed shown score_after lineAfter ≡ page_text page) × (treeAfter ≡ tree_with page (1 ∷ 3 ∷ 3 ∷ []) tree)
  S_shown = go S_page (one_first_tree sheet_s S_page.bytes _ S_page.weight S_page.distance _ _ S_page.first S_first)
    where
      go : (p : PrintsTree sheet_s tree treeAfter score score_after line lineAfter shown)
          → (p.bytes ≡ 1 ∷ 3 ∷ 3 ∷ []) × (p.weight ≡ 8) × (p.distance ≡ 1008)
          → (printed shown score_after lineAfter ≡ page_text page) × (treeAfter ≡ tree_with page (1 ∷ 3 ∷ 3 ∷ []) tree)
      go p (eb, er, ed) = (p.page.text ∙ rw (eb, er, ed, S_score) refl, p.tree_is ∙ rw (eb, er, ed, S_score) refl)

  pub S_printed : 95 ≤ length score → printed shown score_after lineAfter ≡ lines_of_s
  S_printed h = S_shown.0 ∙ ap page_text (within_lines (length score) lines_of_s h)

  pub S_refused : length score < 95 → printed shown score_after lineAfter ≡ text_of "520D0000\n"
  unfolding refusal_line line_text big_endian
  S_refused h = S_shown.0 ∙ ap page_text (within_short (length score) lines_of_s h)

  pub S_kept : length score < 95 → treeAfter ≡ tree
  S_kept h = S_shown.1 ∙ ap (λ (p : Outcome (List ℕ)). tree_with p (1 ∷ 3 ∷ 3 ∷ []) tree) (within_short (length score) lines_of_s h)

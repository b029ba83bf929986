-- Two answers to one call of `report` are the same: whatever meets `Reports` on a text and four slices shows one text and leaves all slices
-- in one way.
use Rattle.std.specs.Prelude.{ℕ, ◌≡◌, List, length}
use Rattle.std.proofs.Common.{sym, subst, ◌∙◌}
use Rattle.sheet.specs.Sheet.{Sheet}
use Rattle.sheet.specs.Outcome.{Outcome, refused, accepted}
use Rattle.trees.specs.LeastTrees.{one_first_tree}
use Rattle.finding.specs.Finding.{Search, no_tree, found, find_text}
use Rattle.reporting.specs.declared.Shown.{Shown}
use Rattle.reporting.specs.Reporting.{page_of, tree_with, Prints, PrintsTree, Printed, Reports}

module _ {score s₁ s₂ line l₁ l₂ : List ℕ} {r₁ r₂ : Shown} where
  one_page : (page : Outcome (List ℕ)) → Prints page score s₁ line l₁ r₁ → Prints page score s₂ line l₂ r₂
      → (r₁ ≡ r₂) × (s₁ ≡ s₂) × (l₁ ≡ l₂)
  one_page page p q = (p.shown ∙ sym q.shown, p.score_is ∙ sym q.score_is, p.line_is ∙ sym q.line_is)

  one_tree : (s : Sheet) {tree t₁ t₂ : List ℕ} → PrintsTree s tree t₁ score s₁ line l₁ r₁ → PrintsTree s tree t₂ score s₂ line l₂ r₂
      → (r₁ ≡ r₂) × (t₁ ≡ t₂) × (s₁ ≡ s₂) × (l₁ ≡ l₂)
  one_tree s {tree} p q =
      let (b, w, d) = one_first_tree s p.bytes q.bytes p.weight p.distance q.weight q.distance p.first q.first in
      let room = length score in
      let page : page_of s p.bytes p.weight p.distance room ≡ page_of s q.bytes q.weight q.distance room =
      λ i. page_of s (b i) (w i) (d i) room in
      let (r, x, l) = one_page _ p.page (subst (λ (x : Outcome (List ℕ)). Prints x score s₂ line l₂ r₂) (sym page) q.page) in
      (r, p.tree_is ∙ (λ i. tree_with (page i) (b i) tree) ∙ sym q.tree_is, x, l)

module _ (text tree work score line : List ℕ) {t₁ t₂ w₁ w₂ s₁ s₂ l₁ l₂ : List ℕ} {r₁ r₂ : Shown} where
  one_outcome : (o : Outcome Search) → Printed o tree t₁ work w₁ score s₁ line l₁ r₁ → Printed o tree t₂ work w₂ score s₂ line l₂ r₂
      → (r₁ ≡ r₂) × (t₁ ≡ t₂) × (w₁ ≡ w₂) × (s₁ ≡ s₂) × (l₁ ≡ l₂)
  one_outcome (refused k n) (p, t, w) (q, u, x) = let (r, s, l) = one_page (refused k n) p q in (r, t ∙ sym u, w ∙ sym x, s, l)
  one_outcome (accepted (no_tree s)) (p, t, w) (q, u, x) = let (r, s, l) = one_page (refused 11 0) p q in (r, t ∙ sym u, w ∙ sym x, s, l)
  one_outcome (accepted (found s)) (p, w) (q, x) = let (r, t, s, l) = one_tree s p q in (r, t, w ∙ sym x, s, l)

  pub one_answer : Reports text tree t₁ work w₁ score s₁ line l₁ r₁ → Reports text tree t₂ work w₂ score s₂ line l₂ r₂
      → (r₁ ≡ r₂) × (t₁ ≡ t₂) × (w₁ ≡ w₂) × (s₁ ≡ s₂) × (l₁ ≡ l₂)
  one_answer f g = one_outcome (find_text text (length tree) (length work)) f.is g.is

-- Two answers to one call of `find` are the same: whatever meets `Finds` on a text and two slices gives one answer and leaves both slices
-- in one way ("Two builds could print one take as two pages with one total", document 02, (iii)).
use Rattle.std.specs.Prelude.{ℕ, ◌≡◌, List, length}
use Rattle.std.proofs.Common.{sym, ap, ◌∙◌}
use Rattle.slices.specs.Over.{over}
use Rattle.sheet.specs.Sheet.{Sheet}
use Rattle.sheet.specs.Outcome.{Outcome, refused, accepted}
use Rattle.trees.specs.ValidTrees.{total_of}
use Rattle.trees.specs.LeastTrees.{one_first_tree}
use Rattle.pricing.specs.declared.Priced.{Priced}
use Rattle.pricing.specs.Pricing.{priced, priced_of, Answer}
use Rattle.sheet.specs.Refusal.{same_answer}
use Rattle.finding.specs.Finding.{Search, no_tree, found, find_text, Refused, FoundTree, Result, Finds}

module _ {tree t₁ t₂ : List ℕ} {a₁ a₂ : Answer} where
  one_refusal : (k n : ℕ) → Refused k n tree t₁ a₁ → Refused k n tree t₂ a₂ → (a₁ ≡ a₂) × (t₁ ≡ t₂)
  one_refusal k n f g = (same_answer a₁ a₂ (f.is ∙ sym g.is), f.tree_kept ∙ sym g.tree_kept)

  one_tree : (s : Sheet) → FoundTree s tree t₁ a₁ → FoundTree s tree t₂ a₂ → (a₁ ≡ a₂) × (t₁ ≡ t₂)
  one_tree s f g =
      let (b, r, d) = one_first_tree s f.bytes g.bytes f.weight f.distance g.weight g.distance f.first g.first in (
        same_answer a₁ a₂
            (f.figures ∙ (λ i. priced_of (priced (length (b i)) (r i) (d i) (total_of s (r i) (d i)))) ∙ sym g.figures),
        f.tree_written ∙ ap (λ (bs : List ℕ). over bs tree) b ∙ sym g.tree_written,
      )

module _ (text tree work : List ℕ) {t₁ t₂ w₁ w₂ : List ℕ} {a₁ a₂ : Answer} where
  one_result : (o : Outcome Search) → Result o tree t₁ work w₁ a₁ → Result o tree t₂ work w₂ a₂ → (a₁ ≡ a₂) × (t₁ ≡ t₂) × (w₁ ≡ w₂)
  one_result (refused k n) (p, e) (q, d) = let (a, t) = one_refusal k n p q in (a, t, e ∙ sym d)
  one_result (accepted (no_tree s)) (p, e) (q, d) = let (a, t) = one_refusal 11 0 p q in (a, t, e ∙ sym d)
  one_result (accepted (found s)) (p, e) (q, d) = let (a, t) = one_tree s p q in (a, t, e ∙ sym d)

  pub one_answer : Finds text tree t₁ work w₁ a₁ → Finds text tree t₂ work w₂ a₂ → (a₁ ≡ a₂) × (t₁ ≡ t₂) × (w₁ ≡ w₂)
  one_answer f g = one_result (find_text text (length tree) (length work)) f.result g.result

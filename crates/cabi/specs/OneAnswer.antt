-- Two answers to one call of `rhythm_find` are the same, and so is what they leave in both slices.
use Rattle.std.specs.Prelude.{ℕ, ◌≡◌, List}
use Rattle.std.proofs.Common.{sym, ap, ◌∙◌}
use Rattle.finding.specs.OneAnswer as finding
use Rattle.sheet.specs.Refusal.{outcome_of}
use Rattle.cabi.specs.Entries.{answer_cells, FindCells}

pub one_answer : (text tree work : List ℕ) {t₁ t₂ w₁ w₂ c₁ c₂ : List ℕ} → FindCells text tree t₁ work w₁ c₁
    → FindCells text tree t₂ work w₂ c₂ → (c₁ ≡ c₂) × (t₁ ≡ t₂) × (w₁ ≡ w₂)
one_answer text tree work f g =
    let (a, t, w) = finding.one_answer text tree work f.finds g.finds in (
      f.numbers ∙ ap (λ r. answer_cells (outcome_of r)) a
          ∙ sym g.numbers,
      t,
      w,
    )

-- What `write` promises of valid trees, from its contract alone: demand 2's score lines. Of a text that means a sheet, number 0 is given
-- exactly when the list is a valid tree and the slice has room for its text, which then stands at the front; 12 exactly when it is no valid
-- tree; 13 exactly when it is one and the slice is shorter than the exact text. A refusal keeps the slice.
use Rattle.std.specs.Prelude.{ℕ, ◌≤◌, ◌<◌, ◌≡◌, refl, List, ◌++◌, map, ◌⊎◌, ◌↔◌, length, drop, Result}
use Rattle.std.proofs.Common.{sym, ◌∙◌, inl, inr, arith, le-leb}
use Rattle.std.proofs.Math.Path.{ap}
use Rattle.std.proofs.Math.Decide.{dec_le}
use Rattle.std.proofs.lemmas.Bool.{lt-leb}
use Rattle.slices.specs.Over.{over-drop}
use Rattle.sheet.specs.Sheet.{Sheet}
use Rattle.sheet.specs.Outcome.{Outcome, refused, accepted, number_in}
use Rattle.sheet.specs.Accepted.{Refuses, Accepts}
use Rattle.sheet.proofs.AcceptedLaws.{on_refusal, on_sheet_lem}
use Rattle.trees.specs.ValidTrees.{Leaf, entries, ValidTree, Priced, total_of}
use Rattle.trees.proofs.LeafLaws.{leaves_of_lem}
use Rattle.pricing.specs.Pricing.{Figures, price_sheet}
use Rattle.pricing.specs.PricingLaws.{tree_priced, none_refused}
use Rattle.pricing.specs.PriceLaws.{valid_or_not}
use Rattle.sheet.specs.declared.refusal.Refused.{Refused}
use Rattle.sheet.specs.Refusal.{outcome_of, answer_number}
use Rattle.score.specs.Score.{score_text, score_leaf, tree_text}
use Rattle.score.specs.Writing.{text_within, write_priced, write_sheet, write_text, written_of, score_after}

-- the exact text of a valid tree: the lines of its own leaves with their placed onsets, at its own R, D and total
abbrev pub score_of : (s : Sheet) → {bytes : List ℕ} {R D : ℕ} → Priced s bytes R D → List ℕ
score_of s {bytes} {R} {D} p = score_text s.playing.bars R D (total_of s R D) (map score_leaf (entries s p.valid.leaves))

-- the entries that are computed from the list are those of its leaves
pub own_text : (s : Sheet) {bs : List ℕ} {R D : ℕ} (p : Priced s bs R D)
    → tree_text s bs R D (total_of s R D) ≡ score_of s p
own_text s {bs} {R} {D} p =
    ap (λ (ls : List Leaf). score_text s.playing.bars R D (total_of s R D) (map score_leaf (entries s ls)))
    (sym (leaves_of_lem s bs p.valid))

-- a list is a valid tree with its own R and D, and a slice of `room` bytes has room for its text or is short of it
abbrev pub Fitting : Sheet → (list : List ℕ) → (room : ℕ) → Type 0
Fitting s list room = (R : ℕ) × (D : ℕ) × (p : Priced s list R D) × (length (score_of s p) ≤ room)

abbrev pub Short : Sheet → (list : List ℕ) → (room : ℕ) → Type 0
Short s list room = (R : ℕ) × (D : ℕ) × (p : Priced s list R D) × (room < length (score_of s p))

fitting_or_short : (s : Sheet) (list : List ℕ) (room : ℕ) → ((R : ℕ) × (D : ℕ) × Priced s list R D)
    → Fitting s list room ⊎ Short s list room
fitting_or_short s list room (R, D, p) = elim (dec_le (length (score_of s p)) room) [
  | yes h ↦ inl (R, D, p, h)
  | no h ↦ inr (R, D, p, omega arith)
]

-- a number under its condition
abbrev Numbered : (number : ℕ) → Sheet → (list : List ℕ) → (room : ℕ) → Type 0
Numbered k s list room = ((k ≡ 12) × (ValidTree s list → ⊥)) ⊎ ((k ≡ 13) × Short s list room) ⊎ ((k ≡ 0) × Fitting s list room)

module _ (s : Sheet) (list : List ℕ) {k room : ℕ} where
  fitting_at_zero : Numbered k s list room → k ≡ 0 → Fitting s list room
  fitting_at_zero (inl (q, x)) z = let f : ⊥ = omega arith in absurd f
  fitting_at_zero (inr (inl (q, x))) z = let f : ⊥ = omega arith in absurd f
  fitting_at_zero (inr (inr (q, x))) z = x

  none_at_twelve : Numbered k s list room → k ≡ 12 → ValidTree s list → ⊥
  none_at_twelve (inl (q, x)) z = x
  none_at_twelve (inr (inl (q, x))) z = let f : ⊥ = omega arith in absurd f
  none_at_twelve (inr (inr (q, x))) z = let f : ⊥ = omega arith in absurd f

  short_at_thirteen : Numbered k s list room → k ≡ 13 → Short s list room
  short_at_thirteen (inl (q, x)) z = let f : ⊥ = omega arith in absurd f
  short_at_thirteen (inr (inl (q, x))) z = x
  short_at_thirteen (inr (inr (q, x))) z = let f : ⊥ = omega arith in absurd f

-- "A refusal gives its number, the line [..] and zeros elsewhere"; writing "gives the byte count"
abbrev pub refused_as : (number line : ℕ) → Outcome ℕ
refused_as k n = refused k n

abbrev pub written_as : (bytes : ℕ) → Outcome ℕ
written_as n = accepted n

module _ (text list score : List ℕ) {score' : List ℕ} (r : Result ℕ Refused)
    (e : outcome_of r ≡ written_of (write_text text list (length score)))
    (after : score' ≡ score_after (write_text text list (length score)) score) where
  given : (o : Outcome (List ℕ)) → write_text text list (length score) ≡ o → (outcome_of r ≡ written_of o) × (score' ≡ score_after o score)
  given o q = (e ∙ ap written_of q, after ∙ ap (λ (o : Outcome (List ℕ)). score_after o score) q)

  given_refused : (k n : ℕ) → write_text text list (length score) ≡ refused k n → (outcome_of r ≡ refused_as k n) × (score' ≡ score)
  unfolding score_after
  given_refused k n q = given (refused k n) q

  pub text_refused : (k n : ℕ) → Refuses text k n → (outcome_of r ≡ refused_as k n) × (score' ≡ score)
  unfolding write_text
  text_refused k n q = given_refused k n (on_refusal text (λ s. write_sheet s list (length score)) k n q)

  module _ (s : Sheet) (a : Accepts text s) where
    of_price : (o : Outcome Figures) → price_sheet s list ≡ o
        → write_text text list (length score) ≡ write_priced s list (length score) o
    unfolding write_text write_sheet
    of_price o q = on_sheet_lem text (λ s. write_sheet s list (length score)) s a ∙ ap (write_priced s list (length score)) q

    -- what is no valid tree is refused with 12
    pub none_then_twelve : (ValidTree s list → ⊥) → (outcome_of r ≡ refused_as 12 0) × (score' ≡ score)
    none_then_twelve h = given_refused 12 0 (of_price _ (none_refused s list h))

    module _ {R D : ℕ} (p : Priced s list R D) where
      of_text : write_text text list (length score) ≡ text_within (length score) (score_of s p)
      of_text = of_price _ (tree_priced s list R D p) ∙ ap (text_within (length score)) (own_text s p)

      -- with room for it, the tree's text stands at the front of the slice, and the bytes behind it are kept
      pub fitting_then_written : length (score_of s p) ≤ length score
          → (outcome_of r ≡ written_as (length (score_of s p))) × (score' ≡ score_of s p ++ drop (length (score_of s p)) score)
      unfolding text_within score_after
      fitting_then_written h =
          let (x, y) = given (accepted (score_of s p)) (of_text ∙ rw (le-leb (length (score_of s p)) (length score) h) refl) in
          (x, y ∙ over-drop (score_of s p) score h)

      -- a slice that is short of it is kept
      pub short_then_thirteen : length score < length (score_of s p) → (outcome_of r ≡ refused_as 13 0) × (score' ≡ score)
      unfolding text_within
      short_then_thirteen h = given_refused 13 0 (of_text ∙ rw (lt-leb (length (score_of s p)) (length score) h) refl)

    number_of_none : (ValidTree s list → ⊥) → answer_number r ≡ 12
    number_of_none h = ap number_in (none_then_twelve h).0

    number_of_fitting : Fitting s list (length score) → answer_number r ≡ 0
    number_of_fitting (R, D, p, h) = ap number_in (fitting_then_written p h).0

    number_of_short : Short s list (length score) → answer_number r ≡ 13
    number_of_short (R, D, p, h) = ap number_in (short_then_thirteen p h).0

    -- there is no other way: each answer under its condition
    pub write_answers : ((ValidTree s list → ⊥) × (outcome_of r ≡ refused_as 12 0) × (score' ≡ score))
        ⊎ (Short s list (length score) × (outcome_of r ≡ refused_as 13 0) × (score' ≡ score))
        ⊎ (Fitting s list (length score) × (answer_number r ≡ 0))
    write_answers = elim (valid_or_not s list) [
      | inl t ↦ elim (fitting_or_short s list (length score) t) [
        | inl x ↦ inr (inr (x, number_of_fitting x))
        | inr x ↦ let g = short_then_thirteen x.2 x.3 in inr (inl (x, g.0, g.1))
      ]
      | inr h ↦ let g = none_then_twelve h in inl (h, g.0, g.1)
    ]

    numbered : Numbered (answer_number r) s list (length score)
    numbered = elim write_answers [
      | inl x ↦ inl (ap number_in x.1, x.0)
      | inr y ↦ elim y [ inl x ↦ inr (inl (ap number_in x.1, x.0)) | inr x ↦ inr (inr (x.1, x.0)) ]
    ]

    pub zero_exactly : (answer_number r ≡ 0) ↔ Fitting s list (length score)
    zero_exactly = (fitting_at_zero s list numbered, number_of_fitting)

    -- number 0: the text of the tree's own leaves, at its own R, D and total
    pub zero_then_own : answer_number r ≡ 0
        → (R : ℕ) × (D : ℕ) × (p : Priced s list R D) × (outcome_of r ≡ written_as (length (score_of s p)))
        × (score' ≡ score_of s p ++ drop (length (score_of s p)) score)
    zero_then_own z =
        let (R, D, p, h) = zero_exactly.0 z in
        let g = fitting_then_written p h in
        (R, D, p, g.0, g.1)

    -- "12: list is no valid tree"
    pub twelve_exactly : (answer_number r ≡ 12) ↔ (ValidTree s list → ⊥)
    twelve_exactly = (none_at_twelve s list numbered, number_of_none)

    -- "13: score slice short of the exact text"
    pub thirteen_exactly : (answer_number r ≡ 13) ↔ Short s list (length score)
    thirteen_exactly = (short_at_thirteen s list numbered, number_of_short)

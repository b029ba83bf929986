-- Sliding between plain and close (document 02, (xiv); 000, Pareto points): what editors rely on when they turn the multiplier, from the
-- contract of `find` alone. `Sliding` in `trees` has the facts of least trees, `MultiplierLaws` in `sheet` those of texts that are the same
-- but for a's field.
use Rattle.std.specs.Prelude.{ℕ, ◌≤◌, ◌≡◌, List, ◌↔◌, length}
use Rattle.std.proofs.Common.{sym, ap, subst, ◌∙◌, arith, length-take}
use Rattle.sheet.specs.Sheet.{Sheet}
use Rattle.sheet.specs.Accepted.{Accepts}
use Rattle.sheet.specs.Multiplier.{with_multiplier, AlikeTexts}
use Rattle.sheet.proofs.MultiplierLaws.{texts_alike}
use Rattle.sizes.specs.Sizes.{tree_bytes, work_cells}
use Rattle.trees.specs.ValidTrees as trees
use Rattle.trees.specs.LeastTrees.{FirstTree}
use Rattle.trees.proofs.Sliding.{none_dominates, valid_slid, first_slides, skips}
use Rattle.finding.specs.Calls.{Call, found_bytes, TreeOf, RoomFor}
use Rattle.finding.specs.FindingLaws.{TreeHandedBack, some_then_zero, zero_then_some}
use Rattle.finding.specs.FindLaws.{zero_then_back}
use Rattle.sheet.specs.Refusal.{answer_number}
use Rattle.pricing.specs.Pricing.{figures_in}

-- the tree found is the first of the least, with the figures given
back : (s : Sheet) (x : Call) → TreeOf s x → TreeHandedBack s x.tree x.tree' x.work x.work' x.answer
back s x t = zero_then_back x.text x.finds s t.means t.handed

found_first : (s : Sheet) (x : Call) → TreeOf s x → FirstTree s (found_bytes x) (figures_in x.answer).weight (figures_in x.answer).distance
found_first s x t = (back s x t).first

found-length : (s : Sheet) (x : Call) → TreeOf s x → length (found_bytes x) ≡ (figures_in x.answer).nodes
found-length s x t = omega (arith, length-take (figures_in x.answer).nodes x.tree', (back s x t).within)

-- "With a of 1 or more, no valid tree has R and D both as small as the tree found and one of them smaller": where both are as small, both
-- are the same
pub undominated : (s : Sheet) (x : Call) → TreeOf s x → 1 ≤ s.grammar.multiplier
    → (bs : List ℕ) (R D : ℕ) → trees.Priced s bs R D
    → R ≤ (figures_in x.answer).weight → D ≤ (figures_in x.answer).distance
    → (R ≡ (figures_in x.answer).weight) × (D ≡ (figures_in x.answer).distance)
undominated s x t one bs R D =
    none_dominates s (found_bytes x) bs (figures_in x.answer).weight (figures_in x.answer).distance R D one (found_first s x t).tree

-- ---- sheets alike except for a

module _ (s : Sheet) where
  -- "when both have a tree, R doesn't rise and D doesn't fall"
  pub slides : (a b : ℕ) (x y : Call) → a ≤ b → TreeOf (with_multiplier a s) x → TreeOf (with_multiplier b s) y
      → ((figures_in y.answer).weight ≤ (figures_in x.answer).weight) × ((figures_in x.answer).distance ≤ (figures_in y.answer).distance)
  slides a b x y h t u =
      first_slides s a b (found_bytes x) (found_bytes y) (figures_in x.answer).weight (figures_in x.answer).distance
      (figures_in y.answer).weight (figures_in y.answer).distance h
      (found_first (with_multiplier a s) x t) (found_first (with_multiplier b s) y u)

  -- the required lengths do not depend on a
  room_with : (a : ℕ) (x : Call) → RoomFor s x → RoomFor (with_multiplier a s) x
  unfolding work_cells tree_bytes
  room_with a x r = record { cells = r.cells; bytes = r.bytes }

  -- a tree is handed back of both or of neither
  pub both_or_neither : (a b : ℕ) (x y : Call) → Accepts x.text (with_multiplier a s) → Accepts y.text (with_multiplier b s)
      → RoomFor s x → RoomFor s y → (answer_number x.answer ≡ 0) ↔ (answer_number y.answer ≡ 0)
  both_or_neither a b x y t u r q = (go a b x y t u r q, go b a y x u t q r)
    where
      go : (a b : ℕ) (x y : Call) → Accepts x.text (with_multiplier a s) → Accepts y.text (with_multiplier b s)
          → RoomFor s x → RoomFor s y → answer_number x.answer ≡ 0 → answer_number y.answer ≡ 0
      go a b x y t u r q z =
          let p = room_with a x r in
          let v = zero_then_some x.text x.finds (with_multiplier a s) t p.cells p.bytes z in
          let o = room_with b y q in
          some_then_zero y.text y.finds (with_multiplier b s) u o.cells o.bytes v.0 (valid_slid s a b v.0 v.1)

  -- Beyond the request: where two multipliers give the same R and D, each between them gives these too, and all give the same tree. So an
  -- editor who slides may skip what lies between.
  pub skipped : (a b c : ℕ) (x y z : Call) → a ≤ b → b ≤ c → TreeOf (with_multiplier a s) x → TreeOf (with_multiplier b s) y
      → TreeOf (with_multiplier c s) z → (figures_in x.answer).weight ≡ (figures_in z.answer).weight
      → (figures_in x.answer).distance ≡ (figures_in z.answer).distance
      → ((figures_in y.answer).weight ≡ (figures_in x.answer).weight) × ((figures_in y.answer).distance ≡ (figures_in x.answer).distance)
      × ((figures_in y.answer).nodes ≡ (figures_in x.answer).nodes) × (found_bytes y ≡ found_bytes x)
  skipped a b c x y z h k t u v r d =
      let (e, p, q) = skips s a b c (found_bytes x) (found_bytes y) (found_bytes z) (figures_in x.answer).weight
      (figures_in x.answer).distance
      (figures_in y.answer).weight (figures_in y.answer).distance h k (found_first (with_multiplier a s) x t)
      (found_first (with_multiplier b s) y u) last in
      (p, q, sym (found-length (with_multiplier b s) y u) ∙ ap length e ∙ found-length (with_multiplier a s) x t, e)
    where
      last : FirstTree (with_multiplier c s) (found_bytes z) (figures_in x.answer).weight (figures_in x.answer).distance
      last = rw (r, d) (found_first (with_multiplier c s) z v)

-- ---- texts that are the same but for a's field

-- such a text means the sheet of the other with its own multiplier
pub alike_means : (t u : List ℕ) (s s' : Sheet) → Accepts t s → Accepts u s' → AlikeTexts t u
    → Accepts u (with_multiplier s'.grammar.multiplier s)
alike_means t u s s' p q alike = subst (Accepts u) (texts_alike t u s s' p q alike) q

-- so what holds of sheets holds of texts
pub slides_by_text : (s s' : Sheet) (x y : Call) → AlikeTexts x.text y.text
    → s.grammar.multiplier ≤ s'.grammar.multiplier → TreeOf s x → TreeOf s' y
    → ((figures_in y.answer).weight ≤ (figures_in x.answer).weight) × ((figures_in x.answer).distance ≤ (figures_in y.answer).distance)
slides_by_text s s' x y alike h t u =
    slides s s.grammar.multiplier s'.grammar.multiplier x y h t
    (record { means = alike_means x.text y.text s s' t.means u.means alike; handed = u.handed })

pub both_or_neither_by_text : (s s' : Sheet) (x y : Call) → AlikeTexts x.text y.text
    → Accepts x.text s → Accepts y.text s' → RoomFor s x → RoomFor s y
    → (answer_number x.answer ≡ 0) ↔ (answer_number y.answer ≡ 0)
both_or_neither_by_text s s' x y alike p q =
    both_or_neither s s.grammar.multiplier s'.grammar.multiplier x y p (alike_means x.text y.text s s' p q alike)

-- Writing, in the words of document 01's sections "Pricing, score lines, finding" and "When it says no".
use Rattle.std.specs.Prelude.{ℕ, ◌≡◌, cond, List, leb, length, Result}
use Rattle.slices.specs.Over.{over}
use Rattle.sheet.specs.Sheet.{Sheet}
use Rattle.sheet.specs.declared.refusal.Refused.{Refused}
use Rattle.sheet.specs.Outcome.{Outcome, refused, accepted, and_then}
use Rattle.sheet.specs.Refusal.{outcome_of, on_value}
use Rattle.sheet.specs.Reading.{on_sheet}
use Rattle.pricing.specs.Pricing.{Figures, price_sheet}
use Rattle.score.specs.Score.{tree_text}

-- "13: score slice short of the exact text", with line 0
abbrev pub no_room : Outcome (List ℕ)
no_room = refused 13 0

-- a text for a slice of `room` bytes
unfoldable pub text_within : (room : ℕ) → (text : List ℕ) → Outcome (List ℕ)
text_within room text = cond (leb (length text) room) (accepted text) no_room

-- "Writing: 12, 13": pricing's refusal comes first, and a tree's lines have its own R, D and total
abbrev pub write_priced : Sheet → (list : List ℕ) → (room : ℕ) → Outcome Figures → Outcome (List ℕ)
write_priced s list room price = and_then price (λ f. text_within room (tree_text s list f.weight f.distance f.total))

unfoldable pub write_sheet : Sheet → (list : List ℕ) → (room : ℕ) → Outcome (List ℕ)
unfolding price_sheet text_within
write_sheet s list room = write_priced s list room (price_sheet s list)

unfoldable pub write_text : (text list : List ℕ) → (room : ℕ) → Outcome (List ℕ)
unfolding on_sheet
write_text text list room = on_sheet text (λ s. write_sheet s list room)

-- an outcome as it is answered: writing "gives the byte count"
abbrev pub written_of : Outcome (List ℕ) → Outcome ℕ
written_of o = on_value length o

-- The score slice: a refusal keeps it, and the text lies over its front; "Bytes past the text keep their values"
unfoldable pub score_after : Outcome (List ℕ) → List ℕ → List ℕ
unfolding over
score_after (refused k n) score = score
score_after (accepted text) score = over text score

-- the promise of `write`, for every text, every list and every slice
abbrev pub Writes : (text list score score' : List ℕ) → Result ℕ Refused → Type 0
Writes text list score score' r =
    (outcome_of r ≡ written_of (write_text text list (length score))) × (score' ≡ score_after (write_text text list (length score)) score)

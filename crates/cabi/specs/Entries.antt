-- What the entries for C and Rust give of an outcome of reading.
use Rattle.std.specs.Prelude.{ℕ, ◌+◌, ◌*◌, ◌≡◌, List, [], ◌∷◌, length, get_or}
use Rattle.std.specs.Float.{binary64}
use Rattle.std.specs.Float.Ieee.{to_bits}
use Rattle.sheet.specs.Sheet.{Onset, TimedSheet, line_at}
use Rattle.sheet.specs.Outcome.{Outcome, refused, accepted, number_in, line_in, value_in}
use Rattle.sizes.specs.Sizes.{work_cells, tree_bytes}
use Rattle.tempo.specs.declared.remark.Remark.{Remark}
use Rattle.tempo.specs.Tempo.{kind_of}
use Rattle.sheet.specs.Refusal.{outcome_of}
use Rattle.pricing.specs.declared.Priced.{Priced}
use Rattle.pricing.specs.Pricing.{Answer, figures_of}
use Rattle.finding.specs.Finding.{Finds}

-- the number and the line of a refusal in one number; 0 for an accepted text
abbrev pub check_of : Outcome TimedSheet → ℕ
check_of o = number_in o * 65536 + line_in o

-- the required lengths of finding's slices; 0 for a refused text
abbrev pub work_of : Outcome TimedSheet → ℕ
work_of (refused k n) = 0
work_of (accepted x) = work_cells x.sheet

abbrev pub tree_of : Outcome TimedSheet → ℕ
tree_of (refused k n) = 0
tree_of (accepted x) = tree_bytes x.sheet

-- the unit of onset i; 0 past the last, and for a refused text
abbrev pub no_onset : Onset
no_onset = record { unit = 0; pitch = 0 }

abbrev pub unit_at : Outcome TimedSheet → ℕ → ℕ
unit_at (refused k n) i = 0
unit_at (accepted x) i = (get_or x.sheet.playing.onsets i no_onset).unit

-- the moment of bar line i; 0 past the last, and for a refused text
abbrev pub bar_line_of : Outcome TimedSheet → ℕ → ℕ
bar_line_of (refused k n) i = 0
bar_line_of (accepted x) i = line_at x.timing i

-- the numbers of a tempo remark: the case by its number (0 steady, 1 faster, 2 slower), and the percentage by its bits
abbrev pub tempo_cells : Outcome Remark → List ℕ
tempo_cells (refused k n) = k ∷ n ∷ 0 ∷ 0 ∷ 0 ∷ 0 ∷ []
tempo_cells (accepted r) = 0 ∷ 0 ∷ kind_of r.tempo ∷ r.bar.duration ∷ r.bar.next ∷ to_bits binary64 r.bar.percentage ∷ []

-- the numbers of an answer of pricing or of finding, in its order
abbrev pub answer_cells : Outcome Priced → List ℕ
answer_cells o =
    number_in o ∷ line_in o ∷ (figures_of o).nodes ∷ (figures_of o).weight ∷ (figures_of o).distance ∷ (figures_of o).total ∷ []

-- the numbers of a score, in the order of the answer
abbrev pub write_cells : Outcome (List ℕ) → List ℕ
write_cells o = number_in o ∷ line_in o ∷ length (value_in [] o) ∷ []

-- what finding gives, as numbers: an answer that meets its promise
pub record FindCells (text tree treeAfter work workAfter cells : List ℕ) : Type 0 where
  pub answer : Answer
  pub finds : Finds text tree treeAfter work workAfter answer
  pub numbers : cells ≡ answer_cells (outcome_of answer)

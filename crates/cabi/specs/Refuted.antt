-- Wrong answers that the contracts of the entries rule out, by computation: what each would give, and that the contract is false of it.
use Rattle.std.specs.Prelude.{ℕ, ◌≤◌, ◌≡◌, List, [], ◌∷◌, length, get_or}
use Rattle.std.proofs.Common.{sym, ap, ◌∙◌, arith}
use Rattle.sheet.specs.Literal.{text_of}
use Rattle.sheet.specs.Sheet.{in_bar}
use Rattle.sheet.specs.Cases.{S}
use Rattle.sheet.specs.Reading.{read_sheet}
use Rattle.sizes.specs.Sizes.{length_count, largest, most_in_bar, tree_bytes, work_cells}
use Rattle.pricing.specs.Pricing.{price_text, priced_of}
use Rattle.pricing.specs.Cases.{S_refuses_00, S_prices_010303}
use Rattle.score.specs.Writing.{write_text, score_after}
use Rattle.score.specs.Cases.{S_short}
use Rattle.finding.specs.FindingCases.{S_found}
use Rattle.cabi.specs.Entries.{check_of, work_of, tree_of, unit_at, bar_line_of, answer_cells, write_cells, FindCells}

-- a text with refusal 2 at line 1
abbrev bad : List ℕ
bad = text_of "4G\n"

-- S's tree
abbrev tree : List ℕ
tree = 1 ∷ 3 ∷ 3 ∷ []

-- the number at place i of an answer
abbrev cell : List ℕ → ℕ → ℕ
cell xs i = get_or xs i 0

-- `rhythm_check` that says of every text that it is accepted
check_accepts : check_of (read_sheet bad) ≡ 0 → ⊥
unfolding read_sheet
check_accepts e = omega arith

-- `rhythm_check` that leaves the line out
check_no_line : check_of (read_sheet bad) ≡ 131072 → ⊥
unfolding read_sheet
check_no_line e = omega arith

-- `rhythm_work_cells` that counts bytes, eight to a cell: S wants 464 cells
work_in_bytes : work_of (read_sheet S) ≡ 3712 → ⊥
unfolding read_sheet work_cells length_count most_in_bar largest in_bar
work_in_bytes e = omega arith

-- `rhythm_work_cells` that gives a length for a refused text
work_of_refused : work_of (read_sheet bad) ≡ 16 → ⊥
unfolding read_sheet
work_of_refused e = omega arith

-- `rhythm_tree_bytes` that leaves the bars out: S wants 161 bytes
tree_no_bars : tree_of (read_sheet S) ≡ 160 → ⊥
unfolding read_sheet tree_bytes
tree_no_bars e = omega arith

-- `rhythm_tree_bytes` that gives a length for a refused text
tree_of_refused : tree_of (read_sheet bad) ≡ 1 → ⊥
unfolding read_sheet
tree_of_refused e = omega arith

-- `rhythm_onset_unit` that counts onsets from 1: onset 1 of S is at unit 11,088, not 0
unit_from_1 : unit_at (read_sheet S) 1 ≡ 0 → ⊥
unfolding read_sheet
unit_from_1 e = omega arith

-- `rhythm_onset_unit` that gives the last onset's unit past the last
unit_past_last : unit_at (read_sheet S) 2 ≡ 11088 → ⊥
unfolding read_sheet
unit_past_last e = omega arith

-- `rhythm_bar_line` that counts lines from 1: line 1 of S is at 2,000,000, not 0
line_from_1 : bar_line_of (read_sheet S) 1 ≡ 0 → ⊥
unfolding read_sheet
line_from_1 e = omega arith

-- `rhythm_bar_line` that goes on past the last line, one duration more
line_past_last : bar_line_of (read_sheet S) 2 ≡ 4_000_000 → ⊥
unfolding read_sheet
line_past_last e = omega arith

-- `rhythm_price` with D in the place of R: of S's tree R is 8 and D 1,008
price_D_for_R : 0 ∷ 0 ∷ 3 ∷ 1008 ∷ 8 ∷ 1088 ∷ [] ≡ answer_cells (priced_of (price_text S tree)) → ⊥
price_D_for_R e =
    let z : ◌≡◌ {A = ℕ} 1008 8 = ap (λ xs. cell xs 3) (e ∙ ap (λ o. answer_cells (priced_of o)) S_prices_010303) in omega arith

-- `rhythm_price` that counts the nodes of a list that is no tree
price_nodes_of_refused : 12 ∷ 0 ∷ 1 ∷ 0 ∷ 0 ∷ 0 ∷ [] ≡ answer_cells (priced_of (price_text S (0 ∷ []))) → ⊥
price_nodes_of_refused e =
    let z : ◌≡◌ {A = ℕ} 1 0 = ap (λ xs. cell xs 2) (e ∙ ap (λ o. answer_cells (priced_of o)) S_refuses_00) in omega arith

-- `rhythm_write` that gives the byte count, 95, of a text for which the slice is short
write_count_of_short : 13 ∷ 0 ∷ 95 ∷ [] ≡ write_cells (write_text S tree 94) → ⊥
write_count_of_short e =
    let z : ◌≡◌ {A = ℕ} 95 0 = ap (λ xs. cell xs 2) (e ∙ ap write_cells (S_short 94 (omega arith))) in omega arith

-- `rhythm_write` that begins the text in a slice that is short
write_begun_in_short : 53 ∷ [] ≡ score_after (write_text S tree 1) (0 ∷ []) → ⊥
unfolding score_after
write_begun_in_short e =
    let z : ◌≡◌ {A = ℕ} 53 0 = ap (λ xs. cell xs 0) (e ∙ ap (λ o. score_after o (0 ∷ [])) (S_short 1 (omega arith))) in omega arith

-- what `rhythm_find` gives of S, with slices of the required lengths or longer
module _ (tree treeAfter work workAfter cells : List ℕ) (w : 464 ≤ length work) (t : 161 ≤ length tree)
    (f : FindCells S tree treeAfter work workAfter cells) where
  numbers_of_S : cells ≡ 0 ∷ 0 ∷ 3 ∷ 8 ∷ 1008 ∷ 1088 ∷ []
  numbers_of_S = f.numbers ∙ ap answer_cells (S_found tree treeAfter work workAfter f.answer w t f.finds).0

  -- `rhythm_find` with 11 for a sheet that has a tree
  find_no_tree : cell cells 0 ≡ 11 → ⊥
  find_no_tree e = let z : ◌≡◌ {A = ℕ} 11 0 = sym e ∙ ap (λ xs. cell xs 0) numbers_of_S in omega arith

  -- `rhythm_find` with the total in the place of D
  find_total_for_D : cell cells 4 ≡ 1088 → ⊥
  find_total_for_D e = let z : ◌≡◌ {A = ℕ} 1088 1008 = sym e ∙ ap (λ xs. cell xs 4) numbers_of_S in omega arith

-- `work_cells_by` meets its contract: the count of a bar's onsets is that of the sheet, and the products are small. Assumes nothing.
use borrow.Author.Rules.{rules}
use Prim.Native.Nat.{◌+◌, ◌*◌, ◌≤◌}
use native.Mathlib.Omega.{arith}
use Rattle.sheet.specs.Held.{grammar_table, playing_table}
use Rattle.sizes.specs.Sizes.{work_cells}
use Rattle.sizes.proofs.Products.{rows_most, cells_most}
use Rattle.sizes.proofs.work_cells_by.Goals.{After-most_in_bar-most}
use Rattle.sizes.proofs.work_cells_by.Goals as goal

-- the product of all three counts is small
product_small : (c : After-most_in_bar-most) → let args = c.args in
    args.g.nonterminals * args.count * c.most_in_bar-most.result ≤ 10967040
product_small c = cells_most _ _ _ (search rules) c.requires.0 c.most_in_bar-most.ensures.0

pub overflow_mul-rows : goal.overflow_mul-rows
overflow_mul-rows c =
    let m = rows_most c.args.g.nonterminals c.args.count (search rules) c.requires.0 in record { fits = omega arith }

pub overflow_mul-result : goal.overflow_mul-result
overflow_mul-result c = let m = product_small (goal.at.overflow_mul-result c).After-most_in_bar-most in record { fits = omega arith }

pub overflow_add-result : goal.overflow_add-result
overflow_add-result c = let m = product_small (goal.at.overflow_add-result c).After-most_in_bar-most in record { fits = omega arith }

pub overflow_mul-result-2 : goal.overflow_mul-result-2
overflow_mul-result-2 c = let m = product_small (goal.at.overflow_mul-result-2 c).After-most_in_bar-most in record { fits = omega arith }

pub returns : goal.returns
unfolding work_cells grammar_table playing_table
returns c s good eg ep counted =
    let most = c.most_in_bar-most.ensures.1 s.playing good.onsets ep in
    λ j. 16 * ((eg j).nonterminals * counted j * most j + (ep j).bars)

-- `row_cells` meets its contract: the numbers of nonterminals, of lengths and of onsets in the fullest bar are the sheet's, and their
-- product fits. Assumes nothing.
use native.Mathlib.Omega.{arith}
use Rattle.search.proofs.SearchSteps.{product_small, product_is}
use Rattle.search.proofs.bars.row_cells.Goals as goal

pub overflow_mul-result : goal.overflow_mul-result
overflow_mul-result c =
    let h = c.requires.1 in
    record { fits = omega (arith, (product_small h _ _ c.nonterminals.ensures c.length_count.ensures).0) }

pub overflow_mul-result-2 : goal.overflow_mul-result-2
overflow_mul-result-2 c =
    let h = c.requires.1 in
    record { fits = omega (arith, (product_small h _ _ c.nonterminals.ensures c.length_count.ensures).1) }

pub overflow_mul-result-3 : goal.overflow_mul-result-3
overflow_mul-result-3 c =
    let h = c.requires.1 in
    record { fits = omega (arith, (product_small h _ _ c.nonterminals.ensures c.length_count.ensures).1) }

pub returns : goal.returns
returns c = λ s h. product_is h _ _ c.nonterminals.ensures c.length_count.ensures

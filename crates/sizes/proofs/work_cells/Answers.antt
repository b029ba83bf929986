-- `work_cells` meets its contract: the count of lengths is that of the sheet. Assumes nothing.
use Rattle.sizes.specs.SizesLaws.{table_count}
use Rattle.sizes.proofs.work_cells.Goals as goal

pub returns : goal.returns
returns c s good eg ep =
    let told = c.lengths-reached.ensures.1 s.grammar good.rules eg in
    c.work_cells_by.ensures s good eg ep (table_count s.grammar.rules _ told)

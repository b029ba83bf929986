-- `lay_tables` meets its contract: four sections, one behind the other. Assumes nothing.
use Rattle.plan.proofs.LaySteps.{tables_laid}
use borrow.Author.Rules.{rules}
use Rattle.plan.proofs.lay.lay_tables.Goals as goal

pub returns : goal.returns
returns c =
    tables_laid (search rules) (search rules) (search rules) c.lay_cells.ensures c.lay_children.ensures
    c.lay_cells-2.ensures c.lay_lengths.ensures

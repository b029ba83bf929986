-- `timing_table` meets its contract: the lines are copied over a table of zeros. Assumes nothing.
use Rattle.bar_lines.proofs.Cells.{cells_many, table_copied}
use Rattle.bar_lines.proofs.even.timing_table.Goals as goal

pub returns : goal.returns
returns c = table_copied _ _ _ c.copy_from_slice.ensures.after (cells_many _ _ c.requires) c.requires.sixty_four

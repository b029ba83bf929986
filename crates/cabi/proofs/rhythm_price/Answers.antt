-- `rhythm_price` meets its contract: the numbers of pricing's answer. Assumes nothing.
use mathlib.Core.Path.{ap, ◌∙◌}
use Rattle.cabi.specs.Entries.{answer_cells}
use Rattle.cabi.proofs.rhythm_price.Goals as goal

pub returns : goal.returns
returns c = c.numbers-cells.ensures ∙ ap answer_cells c.price.ensures

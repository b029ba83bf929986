-- `lay_groups` meets its contract: the places are laid, then the first places behind them. Assumes nothing.
use Rattle.plan.proofs.LaySteps.{groups_laid}
use borrow.Author.Rules.{rules}
use Rattle.plan.proofs.lay.lay_groups.Goals as goal

pub returns : goal.returns
returns c =
    groups_laid (search rules) (search rules) c.lay_cells.ensures c.lay_cells-2.ensures

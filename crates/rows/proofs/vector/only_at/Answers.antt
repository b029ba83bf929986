-- `only_at` meets its contract: 0 is stored where the carry state is one of the four, and nothing where it is not. Assumes nothing.
use Rattle.rows.specs.VectorLaws.{only-set, only_none}
use Rattle.rows.proofs.vector.only_at.Goals as goal

pub returns-then-c-lt4 : goal.returns-then-c-lt4
returns-then-c-lt4 c = only-set _ c.if-c-lt4.true

pub returns-else-c-lt4 : goal.returns-else-c-lt4
returns-else-c-lt4 c = only_none _ c.if-c-lt4.false

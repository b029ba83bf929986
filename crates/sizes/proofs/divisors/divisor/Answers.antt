-- `divisor` meets its contract: the code's table is `divisors`, entry by entry.
-- Assumes nothing.
use mathlib.Core.Path.{refl}
use Rattle.sizes.specs.Sizes.{divisors}
use Rattle.sizes.proofs.divisors.divisor.Goals as goal

pub returns : goal.returns
unfolding divisors
returns c = refl

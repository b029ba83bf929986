-- `text_size` meets its contract: the sums fit, and the result is the definition's. Assumes nothing.
use mathlib.Core.Path.{refl}
use Rattle.score.proofs.text_size.Goals as goal

pub returns : goal.returns
returns c = refl

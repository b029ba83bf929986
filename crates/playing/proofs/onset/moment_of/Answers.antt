-- `moment_of` meets its contract: a moment that falls is refused, and every other is searched for. Assumes nothing.
use native.Mathlib.Omega.{arith}
use Rattle.playing.proofs.Moments.{falls}
use Rattle.playing.proofs.onset.moment_of.Goals as goal

-- before the one before
pub returns-then-t-before : goal.returns-then-t-before
returns-then-t-before c = falls _ _ _ _ (omega arith)

pub searched_moment-requires : goal.searched_moment-requires
searched_moment-requires c = (c.requires.0, (c.args.last.0, omega arith, c.requires.1))

pub returns : goal.returns
returns c = c.searched_moment.ensures _ (omega arith)

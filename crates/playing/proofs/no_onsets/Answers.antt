-- `no_onsets` meets its contract: arrays of zeros hold empty lists. Assumes nothing.
use mathlib.Core.Path.{refl}
use Rattle.slices.specs.Over.{over}
use Rattle.slices.specs.Pad.{pad}
use Rattle.sheet.specs.Held.{playing_table}
use Rattle.playing.proofs.no_onsets.Goals as goal

pub returns : goal.returns
unfolding playing_table pad over
returns c = refl

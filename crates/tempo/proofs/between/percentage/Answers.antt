-- `percentage` meets its contract: an `f64` holds every `u32`, so the casts are exact, and the constants 100.0 and 1.0 are the definition's
-- floats, read from their bits. Assumes nothing.
use mathlib.Core.Path.{refl}
use lib.Ieee
use Rattle.tempo.specs.Tempo.{percent_of}
use Rattle.tempo.proofs.between.percentage.Goals as goal

pub returns : goal.returns
unfolding percent_of Ieee.of_bits
returns c = refl

-- `no_timing` meets its contract: an array of zeros holds no bar lines. Assumes nothing.
use Rattle.slices.specs.Pad.{pad_nil}
use Rattle.sheet.specs.Held.{micros, timing_table}
use Rattle.playing.proofs.no_timing.Goals as goal

pub returns : goal.returns
unfolding timing_table
returns c = λ j. record { lines = pad_nil 65 (micros 0) j }

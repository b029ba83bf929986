-- `percentage_in` meets its contract: the arm of a steady tempo returns the constant 0.0, whose bits are those of the definition's 0.
-- Assumes nothing.
use mathlib.Core.Path.{sym, ap}
use lib.Ieee
use Rattle.tempo.specs.Tempo.{percent_in}
use Rattle.tempo.proofs.between.percentage_in.Goals as goal

pub returns-in-Steady : goal.returns-in-Steady
unfolding Ieee.of_bits
returns-in-Steady c = sym (ap percent_in c.in-Steady.is)

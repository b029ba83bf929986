-- `no_grammar` meets its contract: arrays of zeros hold empty lists. Assumes nothing.
use mathlib.Core.Path.{refl}
use Rattle.slices.specs.Over.{over}
use Rattle.slices.specs.Pad.{pad}
use Rattle.sheet.specs.Held.{grammar_table, child_cells, flat}
use Rattle.grammar.proofs.no_grammar.Goals as goal

pub returns : goal.returns
unfolding grammar_table child_cells flat pad over
returns c = refl

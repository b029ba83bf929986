-- `rhythm_write` meets its contract: the cells are the numbers of the score, and the score slice is what `write` leaves. Assumes nothing.
use mathlib.Core.List.{[], ◌∷◌}
use mathlib.Core.Path.{ap, ◌∙◌}
use lib.ListN.{length}
use Rattle.score.specs.Writing.{write_text}
use Rattle.cabi.proofs.Readings.{count_cells, cells_written}
use Rattle.cabi.proofs.rhythm_write.Goals as goal

pub returns-in-Err : goal.returns-in-Err
returns-in-Err c = (
  (λ j. c.number.ensures j ∷ c.in-Err.e.line ∷ 0 ∷ []) ∙ ap count_cells c.in-Err.ensures.0
      ∙ cells_written (write_text c.args.text.now c.args.list.now (length c.args.score.now)),
  c.in-Err.ensures.1,
)

pub returns-in-Ok : goal.returns-in-Ok
returns-in-Ok c = (
  ap count_cells c.in-Ok.ensures.0
      ∙ cells_written (write_text c.args.text.now c.args.list.now (length c.args.score.now)),
  c.in-Ok.ensures.1,
)

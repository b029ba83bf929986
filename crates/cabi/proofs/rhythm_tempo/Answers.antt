-- `rhythm_tempo` meets its contract: the percentage of a remark is no NaN. Assumes nothing of its own.
use mathlib.Core.List.{[], ◌∷◌}
use mathlib.Core.Path.{ap, ◌∙◌}
use Rattle.std.specs.Float.{binary64}
use Rattle.std.specs.Float.Ieee.{to_bits}
use Rattle.std.proofs.Common.{Ok}
use Rattle.tempo.specs.RemarkLaws.{remark_known}
use Rattle.cabi.specs.Entries.{tempo_cells}
use Rattle.cabi.proofs.rhythm_tempo.Goals as goal

pub float_to_bits-cells : goal.float_to_bits-cells
float_to_bits-cells c = remark_known _ _ (Ok c.in-Ok.r) c.in-Ok.ensures

pub returns-in-Err : goal.returns-in-Err
returns-in-Err c = c.refused_cells-cells.ensures ∙ ap tempo_cells c.in-Err.ensures

pub returns-in-Ok : goal.returns-in-Ok
returns-in-Ok c =
    let r = c.in-Ok.r in
    (λ j.
    0 ∷ 0 ∷ c.tempo_kind.ensures j ∷ r.bar.duration ∷ r.bar.next ∷ to_bits binary64 r.bar.percentage ∷ [])
    ∙ ap tempo_cells c.in-Ok.ensures

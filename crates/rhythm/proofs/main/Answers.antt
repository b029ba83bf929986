-- What the entry shows stands in the score slice. Assumes nothing of its own.
use Rattle.std.proofs.Common.{sym, length-take-le}
use Rattle.reporting.specs.ReportingLaws.{score_fits}
use Rattle.rhythm.proofs.main.Goals as goal

pub slice_bounds-score-end : goal.slice_bounds-score-end
slice_bounds-score-end c = score_fits c.report-shown.ensures c.in-Score.bytes c.in-Score.is

pub slice_bounds-write_all-end : goal.slice_bounds-write_all-end
slice_bounds-write_all-end c = sym (length-take-le _ _ (score_fits c.report-shown.ensures c.in-Score.bytes c.in-Score.is))

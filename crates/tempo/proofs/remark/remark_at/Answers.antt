-- `remark_at` meets its contract: a refused text has no record, and the bar lines of an accepted one are those that reading holds.
-- Assumes nothing.
use mathlib.Core.Path.{sym, ap, ◌∙◌}
use Rattle.std.proofs.lemmas.Result.{err_from_is_err_and}
use Rattle.sheet.specs.Outcome.{accepted}
use Rattle.sheet.proofs.AcceptedLaws.{refused_reading}
use Rattle.tempo.specs.Tempo.{record_at, remark_with, remark_of}
use Rattle.tempo.specs.TempoLaws.{on_refused, on_accepted}
use Rattle.tempo.specs.Clauses.{accepted_timing}
use Rattle.tempo.proofs.remark.remark_at.Goals as goal

pub returns-in_err-r : goal.returns-in_err-r
returns-in_err-r c =
    let q = err_from_is_err_and c.from_residual.result c.from_residual.ensures.1 in
    let refused-text = refused_reading _ c.in_err-r.field-0.0 c.in_err-r.ensures in
    rw (q.1, q.2) (ap remark_of (sym (on_refused _ c.args.i _ _ refused-text)))

-- it is not
pub remark_sheet-requires : goal.remark_sheet-requires
remark_sheet-requires c =
    let accepted-text = accepted_timing _ c.in_ok-r.r c.in_ok-r.ensures in
    (accepted-text.means.timing, accepted-text.timing)

pub returns : goal.returns
returns c =
    let i = c.args.i in
    let accepted-text = accepted_timing _ c.in_ok-r.r c.in_ok-r.ensures in
    let x = accepted-text.means in
    let of-sheet = c.remark_sheet.ensures x.timing accepted-text.timing in
    ap accepted (of-sheet ∙ ap (λ bars. remark_with (record_at bars x.timing i)) accepted-text.bars)
    ∙ ap remark_of (sym (on_accepted _ i x accepted-text.accepts))

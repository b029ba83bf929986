-- `refusal_line` meets its contract: nine cells hold the line of four bytes. Assumes nothing.
use Rattle.reporting.proofs.ReportSteps.{field_put, line_composed}
use Rattle.reporting.proofs.refusal_line.Goals as goal

pub returns : goal.returns
returns c =
    let write-line = c.write_line in
    let put-field = c.put_field in
    line_composed c.args.number c.args.line _ _ _ (field_put _ _ _ put-field.ensures) write-line.ensures

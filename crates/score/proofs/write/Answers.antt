-- `write` meets its contract: reading's refusal, or what `write_sheet` does with the sheet that the text means. Assumes nothing.
use Rattle.std.proofs.lemmas.Result.{err_from_is_err_and}
use Rattle.sheet.proofs.AcceptedLaws.{held_sheet}
use Rattle.score.proofs.WriteSteps.{text_refused, text_written}
use Rattle.score.proofs.write.Goals as goal

pub returns-in_err-r : goal.returns-in_err-r
returns-in_err-r c =
    let q = err_from_is_err_and c.from_residual.result c.from_residual.ensures.1 in
    rw (q.1, q.2) (text_refused c.args.text.now c.args.list.now c.args.score.now c.in_err-r.field-0.0 c.in_err-r.ensures)

pub write_sheet-requires : goal.write_sheet-requires
write_sheet-requires c = held_sheet _ c.in_ok-r.r c.in_ok-r.ensures

pub returns : goal.returns
returns c =
    text_written c.args.text.now c.args.list.now c.args.score.now c.in_ok-r.r c.in_ok-r.ensures _ _ c.write_sheet.ensures

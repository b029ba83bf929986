-- `find` meets its contract: reading's refusal, or what `find_sheet` gives of the sheet that the text means. Assumes nothing.
use Rattle.std.proofs.lemmas.Result.{err_from_is_err_and}
use Rattle.sheet.proofs.AcceptedLaws.{held_sheet}
use Rattle.finding.proofs.FindSteps.{text_refused, text_found}
use Rattle.finding.proofs.find.Goals as goal

pub returns-in_err-r : goal.returns-in_err-r
returns-in_err-r c =
    let q = err_from_is_err_and c.from_residual.result c.from_residual.ensures.1 in
    rw (q.1, q.2) (text_refused c.args.text.now c.args.tree.now c.args.work.now c.in_err-r.field-0.0 c.in_err-r.ensures)

pub find_sheet-requires : goal.find_sheet-requires
find_sheet-requires c = held_sheet _ c.in_ok-r.r c.in_ok-r.ensures

pub returns : goal.returns
returns c =
    text_found c.args.text.now c.args.tree.now c.args.work.now c.in_ok-r.r c.in_ok-r.ensures _ _ _ c.find_sheet.ensures

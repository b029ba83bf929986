-- `compose` meets its contract: the line of reading's refusal, or what `compose_sheet` gives of the sheet that the text means. Assumes
-- nothing.
use mathlib.Core.Path.{ap, ◌∙◌}
use Prim.Native.Nat.{ℕ}
use Rattle.sheet.proofs.AcceptedLaws.{held_sheet}
use Rattle.reporting.specs.Reporting.{refusal_line}
use Rattle.reporting.proofs.ReportSteps.{text_refused, text_reported}
use Rattle.reporting.proofs.compose.Goals as goal

pub returns-in-Err : goal.returns-in-Err
returns-in-Err c =
    text_refused c.args.text.now c.args.tree.now c.args.work.now _ _ _ _ c.in-Err.e c.in-Err.ensures
    c.refuse.ensures.0 (c.refuse.ensures.1 ∙ ap (λ (k : ℕ). refusal_line k c.in-Err.e.line) c.number.ensures)

pub compose_sheet-requires : goal.compose_sheet-requires
compose_sheet-requires c = held_sheet _ c.in-Ok.r c.in-Ok.ensures

pub returns-in-Ok : goal.returns-in-Ok
returns-in-Ok c =
    text_reported c.args.text.now c.args.tree.now c.args.work.now c.args.score.now
    c.args.line.now _ _ c.in-Ok.r c.in-Ok.ensures _ _ _ c.compose_sheet.ensures

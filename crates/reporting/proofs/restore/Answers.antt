-- `restore` meets its contract, by the answer's two cases. Assumes nothing.
use mathlib.Core.Path.{ap, ◌∙◌}
use native.Mathlib.Omega.{arith}
use lib.ListN.{length}
use lib.Seq.{length-take-le}
use Rattle.slices.specs.Over.{over}
use Rattle.reporting.proofs.ReportSteps.{copied_over}
use Rattle.reporting.proofs.restore.Goals as goal

pub returns-in-Line : goal.returns-in-Line
returns-in-Line c =
    let n = c.args.n in
    let copied = c.copy_from_slice.ensures.after in
    let size = ap length copied ∙ length-take-le n c.args.kept.now (omega arith) in
    rw c.in-Line.is
    (copied_over n c.copy_from_slice.new.self c.args.tree.now size c.requires.1 ∙ ap (λ xs. over xs c.args.tree.now) copied)

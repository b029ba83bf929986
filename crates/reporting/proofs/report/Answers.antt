-- `report` meets its contract: the front of the tree slice is copied aside, and put back with a refusal. Assumes nothing.
use native.Mathlib.Omega.{arith}
use lib.ListN.{replicate}
use Rattle.trees.specs.Room.{tree_most}
use Rattle.reporting.proofs.ReportSteps.{reported}
use Rattle.reporting.proofs.report.Goals as goal

pub returns : goal.returns
returns c =
    reported c.compose-shown.new.tree (replicate tree_most 0) (omega (arith, c.min-n.ensures)) (omega (arith, c.min-n.ensures))
    (λ few. omega (arith, c.min-n.ensures, few)) c.copy_from_slice.ensures.after c.compose-shown.ensures c.restore.ensures

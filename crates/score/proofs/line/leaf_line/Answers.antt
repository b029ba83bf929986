-- `leaf_line` meets its contract: the pitches are copied behind the nine bytes of the front. Assumes nothing.
use native.Mathlib.Omega.{arith}
use Rattle.score.proofs.LineSteps.{pitched}
use Rattle.score.proofs.line.leaf_line.Goals as goal

pub returns : goal.returns
returns c =
    pitched _ _ _ _ c.args.first _ _ c.args.pitches.now _ _ c.requires.0 (omega arith) c.leaf_front.ensures (omega arith) (omega arith)
    c.copy_from_slice.ensures.after

-- `head_line` meets its contract: kind, bars and the three numbers fill the array. Assumes nothing.
use Rattle.score.proofs.LineSteps.{head_made}
use Rattle.score.proofs.line.head_line.Goals as goal

pub returns : goal.returns
returns c =
    let put-field3 = c.put_field-3 in
    let put-field2 = c.put_field-2 in
    let put-field = c.put_field in
    head_made _ _ _ _ _ _ _ put-field.ensures put-field2.ensures put-field3.ensures

-- `rhythm_check` meets its contract: a refusal's line is small, so the two fit one number. Assumes nothing.
use Prim.Native.Nat.{◌+◌, ◌*◌}
use mathlib.Core.Path.{ap, ◌∙◌}
use native.Mathlib.Omega.{arith}
use Rattle.cabi.specs.Entries.{check_of}
use Rattle.cabi.proofs.Readings.{refusal_is, line_small, accepted_is}
use Rattle.cabi.proofs.rhythm_check.Goals as goal

pub overflow_cast-result-in-Err : goal.overflow_cast-result-in-Err
overflow_cast-result-in-Err c =
    let m = line_small c.args.text.now c.in-Err.e c.in-Err.ensures in record { fits = omega (arith, m) }

pub overflow_add-result : goal.overflow_add-result
overflow_add-result c =
    let m = line_small c.args.text.now c.in-Err.e c.in-Err.ensures in
    let byte = c.number.type_inv in
    record { fits = omega (arith, m, byte) }

pub returns-in-Err : goal.returns-in-Err
returns-in-Err c =
    (λ j. c.number.ensures j * 65536 + c.in-Err.e.line) ∙ ap check_of (refusal_is c.args.text.now c.in-Err.e c.in-Err.ensures)

pub returns-in-Ok : goal.returns-in-Ok
returns-in-Ok c = accepted_is c.args.text.now c.in-Ok.field-0 c.in-Ok.ensures

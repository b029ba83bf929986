-- `hextext::pair_value` meets its contract: each value is below 16, so the sum fits a byte. Assumes nothing.
use Prim.Native.Nat.{◌+◌, ◌*◌}
use native.Mathlib.Omega.{arith}
use Rattle.hextext.specs.Text.{pair}
use Rattle.hextext.specs.Laws.{value_small}
use Rattle.hextext.proofs.pair_value.Goals as goal

pub overflow_mul-result : goal.overflow_mul-result
overflow_mul-result c = let m = value_small c.args.high in record { fits = omega (arith, c.digit_value.ensures) }

pub overflow_add-result : goal.overflow_add-result
overflow_add-result c =
    let args = c.args in
    let m = value_small args.high in
    let k = value_small args.low in
    record { fits = omega (arith, c.digit_value.ensures, c.digit_value-2.ensures) }

pub returns : goal.returns
unfolding pair
returns c = λ j. c.digit_value.ensures j * 16 + c.digit_value-2.ensures j

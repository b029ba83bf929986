-- `even_end` meets its contract: the longest piece fits 32 bits, and half a unit is no longer than a bar. Assumes nothing.
use native.Mathlib.Omega.{arith}
use native.Mathlib.Nat.{mul-le-mul_right}
use Rattle.sheet.specs.Clock.{end_fits}
use Rattle.bar_lines.proofs.clock.even_end.Goals as goal

pub overflow_mul-result : goal.overflow_mul-result
overflow_mul-result c = record { fits = end_fits c.requires.1 c.requires.2 }

pub overflow_sub-result : goal.overflow_sub-result
overflow_sub-result c = let one_bar = mul-le-mul_right c.args.duration.0 c.requires.0 in omega (arith, one_bar)

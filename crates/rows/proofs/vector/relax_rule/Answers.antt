-- `relax_rule` meets its contract: 64 times twice NONE, and a rule below 64, fit; `min` gives each of the four numbers. Assumes nothing.
use native.Mathlib.Omega.{arith}
use Rattle.rows.specs.VectorLaws.{four}
use Rattle.rows.proofs.vector.relax_rule.Goals as goal

pub overflow_add-a : goal.overflow_add-a
overflow_add-a c = omega (arith, c.requires.2 0)

pub overflow_mul-a : goal.overflow_mul-a
overflow_mul-a c = omega (arith, c.requires.2 0)

pub overflow_add-a-2 : goal.overflow_add-a-2
overflow_add-a-2 c = omega (arith, c.requires.2 0)

pub overflow_add-a-3 : goal.overflow_add-a-3
overflow_add-a-3 c = omega (arith, c.requires.2 1)

pub overflow_mul-a-2 : goal.overflow_mul-a-2
overflow_mul-a-2 c = omega (arith, c.requires.2 1)

pub overflow_add-a-4 : goal.overflow_add-a-4
overflow_add-a-4 c = omega (arith, c.requires.2 1)

pub overflow_add-a-5 : goal.overflow_add-a-5
overflow_add-a-5 c = omega (arith, c.requires.2 2)

pub overflow_mul-a-3 : goal.overflow_mul-a-3
overflow_mul-a-3 c = omega (arith, c.requires.2 2)

pub overflow_add-a-6 : goal.overflow_add-a-6
overflow_add-a-6 c = omega (arith, c.requires.2 2)

pub overflow_add-a-7 : goal.overflow_add-a-7
overflow_add-a-7 c = omega (arith, c.requires.2 3)

pub overflow_mul-a-4 : goal.overflow_mul-a-4
overflow_mul-a-4 c = omega (arith, c.requires.2 3)

pub overflow_add-a-8 : goal.overflow_add-a-8
overflow_add-a-8 c = omega (arith, c.requires.2 3)

pub returns : goal.returns
returns c =
    four c.min.ensures c.min-2.ensures c.min-3.ensures c.min-4.ensures

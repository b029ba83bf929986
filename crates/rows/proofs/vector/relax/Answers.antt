-- `relax` meets its contract: no sum passes twice NONE, and `min` gives each of the four numbers. Assumes nothing.
use native.Mathlib.Omega.{arith}
use Rattle.rows.specs.VectorLaws.{four}
use Rattle.rows.proofs.vector.relax.Goals as goal

pub overflow_add-a : goal.overflow_add-a
overflow_add-a c = omega (arith, c.requires.1 0)

pub overflow_add-a-2 : goal.overflow_add-a-2
overflow_add-a-2 c = omega (arith, c.requires.1 1)

pub overflow_add-a-3 : goal.overflow_add-a-3
overflow_add-a-3 c = omega (arith, c.requires.1 2)

pub overflow_add-a-4 : goal.overflow_add-a-4
overflow_add-a-4 c = omega (arith, c.requires.1 3)

pub returns : goal.returns
returns c =
    four c.min.ensures c.min-2.ensures c.min-3.ensures c.min-4.ensures

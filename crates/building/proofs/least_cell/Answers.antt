-- `least_cell` meets its contract: no sum passes 128 × NONE, and the four minima, one after another, are the least of the sums. Assumes
-- nothing.
use native.Mathlib.Omega.{arith}
use Rattle.rows.specs.VectorLaws.{lowest_four}
use Rattle.building.proofs.least_cell.Goals as goal

pub overflow_mul-v : goal.overflow_mul-v
overflow_mul-v c = omega (arith, c.requires.1 0)

pub overflow_add-y : goal.overflow_add-y
overflow_add-y c = omega (arith, c.requires.0 0, c.requires.1 0)

pub overflow_mul-v-2 : goal.overflow_mul-v-2
overflow_mul-v-2 c = omega (arith, c.requires.1 1)

pub overflow_add-y-2 : goal.overflow_add-y-2
overflow_add-y-2 c = omega (arith, c.requires.0 1, c.requires.1 1)

pub overflow_mul-v-3 : goal.overflow_mul-v-3
overflow_mul-v-3 c = omega (arith, c.requires.1 2)

pub overflow_add-y-3 : goal.overflow_add-y-3
overflow_add-y-3 c = omega (arith, c.requires.0 2, c.requires.1 2)

pub overflow_mul-v-4 : goal.overflow_mul-v-4
overflow_mul-v-4 c = omega (arith, c.requires.1 3)

pub overflow_add-y-4 : goal.overflow_add-y-4
overflow_add-y-4 c = omega (arith, c.requires.0 3, c.requires.1 3)

pub returns : goal.returns
returns c = lowest_four _ _ _ _ _ _ c.min.ensures c.min-2.ensures c.min-3.ensures c.min-4.ensures

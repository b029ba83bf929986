-- `enter` meets its contract: `first_behind`, asked from the first onset on, gives the first that is not before the bar, and the product of
-- the shift fits. Assumes nothing.
use native.Mathlib.Omega.{arith}
use Rattle.search.proofs.EnterSteps.{enter_product, enter_from, enter_near, enter_bar}
use Rattle.search.proofs.bars.enter.Goals as goal

pub first_behind-first-requires : goal.first_behind-first-requires
first_behind-first-requires c =
    let s = c.requires.0 in
    let h = c.requires.1 in
    (s, 0, h.onsets, enter_from h, omega arith, enter_near h)

pub overflow_mul-result : goal.overflow_mul-result
overflow_mul-result c =
    let h = c.requires.1 in
    record { fits = omega (arith, enter_product h) }

pub returns : goal.returns
returns c =
    let first_behind = c.first_behind-first in
    λ s h. enter_bar h (first_behind.ensures s 0 h.onsets (enter_from h) (omega arith) (enter_near h))

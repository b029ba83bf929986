-- `lay_part` meets its contract: the test tells whether the part is the last. Assumes nothing.
use Prim.Native.Nat.{◌+◌, ◌*◌}
use native.Mathlib.Omega.{arith}
use mathlib.Core.Path.{refl}
use Rattle.plan.proofs.WaySteps.{inner_ways, last_ways}
use Rattle.plan.proofs.ways.lay_part.Goals as goal

pub overflow_cast-q : goal.overflow_cast-q
overflow_cast-q c = omega (arith, c.requires.5 (8 * c.args.r + (c.args.j + 1)))

pub overflow_sub-x : goal.overflow_sub-x
overflow_sub-x c =
    let less = c.if-j-k.true in
    omega (arith, c.placed_cost-none.ensures.1, c.requires.7 less)

pub returns-then-j-k : goal.returns-then-j-k
returns-then-j-k c =
    let less = c.if-j-k.true in
    let none = c.placed_cost-none.ensures.1 in
    let one = c.placed_cost-one.ensures.1 in
    inner_ways c.packed_cost-straight.ensures c.put_ways.ensures _ less c.packed_cost-crossed.ensures refl
    (omega (arith, none, one, c.requires.7 less))

pub returns : goal.returns
returns c =
    last_ways c.packed_cost-straight.ensures c.put_ways-2.ensures (omega (arith, c.if-j-k.false)) refl refl

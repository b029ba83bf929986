-- `put_ways` meets its contract: three cells, one behind the other. Assumes nothing.
use Prim.Native.Nat.{◌+◌, ◌*◌, ◌<◌}
use native.Mathlib.Omega.{arith}
use lib.ListN.{length, set, length-set}
use Rattle.plan.specs.Layout.{ways_at}
use Rattle.plan.proofs.WaySteps.{ways_put}
use Rattle.plan.proofs.ways.put_ways.Goals as goal

pub bounds-plan-at-2 : goal.bounds-plan-at-2
bounds-plan-at-2 c =
    let told = c.args in
    let at = ways_at + 3 * (8 * told.r + told.j) in
    let inside : at + 1 < length (set told.plan.now at told.straight) =
    omega (arith, c.requires.0, c.requires.1, c.requires.2, length-set told.plan.now at told.straight) in
    inside

pub bounds-plan-at-3 : goal.bounds-plan-at-3
bounds-plan-at-3 c =
    let told = c.args in
    let at = ways_at + 3 * (8 * told.r + told.j) in
    let one = set told.plan.now at told.straight in
    let inside : at + 2 < length (set one (at + 1) told.crossed) =
    omega (
      arith,
      c.requires.0,
      c.requires.1,
      c.requires.2,
      length-set told.plan.now at told.straight,
      length-set one (at + 1)
          told.crossed,
    ) in
    inside

pub returns : goal.returns
returns c = let told = c.args in ways_put told.plan.now told.r told.j _ _ _ c.requires.0 c.requires.1 c.requires.2

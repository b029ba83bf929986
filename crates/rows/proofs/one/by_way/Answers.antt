-- `by_way` meets its contract: the cells of the part, and what the plan has of the others, fit. Assumes nothing.
use native.Mathlib.Omega.{arith}
use Rattle.rows.specs.WayLaws.{way_asked, ways_low, way_told}
use Rattle.rows.proofs.one.by_way.Goals as goal

pub way-requires : goal.way-requires
way-requires c =
    ((way_asked c.requires.1).0, (way_asked c.requires.1).1, omega arith)

pub overflow_add-zero : goal.overflow_add-zero
overflow_add-zero c =
    let way = c.way in
    omega (arith, c.requires.1.zero_low, way.ensures, (ways_low c.requires.1).0)

pub way-requires-2 : goal.way-requires-2
way-requires-2 c =
    ((way_asked c.requires.1).0, (way_asked c.requires.1).1, omega arith)

pub overflow_add-one : goal.overflow_add-one
overflow_add-one c =
    let way2 = c.way-2 in
    omega (arith, c.requires.1.one_low, way2.ensures, (ways_low c.requires.1).1)

pub way-requires-3 : goal.way-requires-3
way-requires-3 c =
    ((way_asked c.requires.1).0, (way_asked c.requires.1).1, omega arith)

pub overflow_add-b : goal.overflow_add-b
overflow_add-b c =
    let way3 = c.way-3 in
    omega (arith, c.requires.1.one_low, way3.ensures, (ways_low c.requires.1).2)

pub returns : goal.returns
returns c =
    let way = c.way in
    let way2 = c.way-2 in
    let least = c.min-a in
    let way3 = c.way-3 in
    way_told c.requires.1 way.ensures way2.ensures way3.ensures least.ensures

use borrow.Author.Rules.{rules}
use native.Mathlib.Omega.{arith}
use Prim.Native.Nat.{◌<◌}
use Rattle.bar_lines.proofs.Cells.{line_in_lem, found_here, found_later}
use Rattle.bar_lines.proofs.clock.bar_from.Goals.{At-loop-bar}
use Rattle.bar_lines.proofs.clock.bar_from.Goals as goal

-- the bar is one of 64 at most
most : (c : At-loop-bar) → c.loop-bar.bar < 64
most c =
    let (bars, s) = c.requires in
    let inside = (c.loop-bar.invariant bars s).0 in
    let few = s.lines.sixty_four in
    omega (arith, inside, few)

pub loop-bar-init : goal.loop-bar-init
loop-bar-init c bars s =
    let begun = s.begun in
    let inside = s.inside in
    let is = line_in_lem bars c.args.lines.now c.args.from (omega (arith, inside)) in
    (inside, omega (arith, is, begun))

pub overflow_add-bar : goal.overflow_add-bar
overflow_add-bar c = let m = most (goal.at.overflow_add-bar c).At-loop-bar in search rules

pub offset_bounds-lines-bar : goal.offset_bounds-lines-bar
offset_bounds-lines-bar c = let m = most (goal.at.offset_bounds-lines-bar c).At-loop-bar in search rules

pub bounds-lines-bar : goal.bounds-lines-bar
bounds-lines-bar c = let m = most (goal.at.bounds-lines-bar c).At-loop-bar in search rules

pub overflow_add-bar-in-loop-bar : goal.overflow_add-bar-in-loop-bar
overflow_add-bar-in-loop-bar c = let m = most (goal.at.overflow_add-bar-in-loop-bar c).At-loop-bar in search rules

pub loop-bar-smaller : goal.loop-bar-smaller
loop-bar-smaller c = let m = most (goal.at.loop-bar-smaller c).At-loop-bar in omega (arith, m)

pub loop-bar-preserved : goal.loop-bar-preserved
loop-bar-preserved c bars s =
    let inv = c.loop-bar.invariant bars s in
    let passed = c.loop-bar-test.true in
    (found_later bars _ s.lines _ _ s c.loop-bar.bar inv.0 inv.1 (omega (arith, passed)), omega (arith, passed))

pub returns : goal.returns
returns c bars s =
    let inv = c.loop-bar.invariant bars s in
    found_here bars _ s.lines _ _ s c.loop-bar.bar inv.0 inv.1 (omega (arith, c.loop-bar-test.false))

use borrow.Author.Rules.{rules}
use native.Mathlib.Omega.{arith}
use Prim.Native.Nat.{◌+◌, ◌≤◌}
use mathlib.Core.Path.{◌≡◌, refl, subst, ◌∙◌}
use lib.ListN.{length-replicate}
use Rattle.slices.specs.Filled.{Filled, filled_none, filled_more}
use Rattle.sheet.specs.Clock.{end_fits}
use Rattle.sheet.specs.Held.{micros}
use Rattle.bar_lines.proofs.Cells.{even_in}
use Rattle.bar_lines.proofs.even.even_lines.Goals.{In-loop-i}
use Rattle.bar_lines.proofs.even.even_lines.Goals as goal

-- a line's number is at most that of the last bar
few : (c : In-loop-i) → c.loop-i.i ≤ 64
few c = let most = c.requires.0 in omega (arith, c.loop-i-test.true, most)

pub loop-i-init : goal.loop-i-init
loop-i-init c = (filled_none _ _ _, omega arith, length-replicate 65 (micros 0))

pub overflow_cast-lines : goal.overflow_cast-lines
overflow_cast-lines c = let n = few (goal.at.overflow_cast-lines c).In-loop-i in search rules

pub overflow_mul-lines : goal.overflow_mul-lines
overflow_mul-lines c = record { fits = end_fits (few (goal.at.overflow_mul-lines c).In-loop-i) c.requires.1 }

pub offset_bounds-lines-i : goal.offset_bounds-lines-i
offset_bounds-lines-i c = let n = few (goal.at.offset_bounds-lines-i c).In-loop-i in search rules

pub bounds-lines-i : goal.bounds-lines-i
bounds-lines-i c = let n = few (goal.at.bounds-lines-i c).In-loop-i in let m = c.loop-i.invariant.0.size
    ∙ c.loop-i.invariant.2 in omega (arith, n, m)

pub loop-i-preserved : goal.loop-i-preserved
loop-i-preserved c =
    let inv = c.loop-i.invariant in
    let n = few (goal.at.loop-i-preserved c).In-loop-i in
    (filled_more inv.0 (let size = inv.2 in omega (arith, n, size)) refl, omega (arith, c.loop-i-test.true), inv.2)

pub returns : goal.returns
returns c =
    let inv = c.loop-i.invariant in
    let all : c.loop-i.i ≡ c.args.bars + 1 = omega (arith, inv.1, c.loop-i-test.false) in
    let most = c.requires.0 in
    even_in _ _ _ _ (subst (Filled _ _ _ _) all inv.0) (let size = inv.2 in omega (arith, size, most))

use borrow.Author.Rules.{rules}
use native.Mathlib.Omega.{arith}
use Prim.Native.Nat.{◌≤◌, ◌<◌}
use mathlib.Core.Path.{refl, ap, ◌∙◌}
use lib.ListN.{length}
use Rattle.slices.specs.Pad.{pad_nil, length-pad}
use Rattle.hextext.specs.PackedLaws.{line_if_some, line_if_none}
use Rattle.sheet.specs.Refusal.{number_some}
use Rattle.sheet.specs.Held.{micros}
use Rattle.bar_lines.proofs.TapLoop.{taps_none, taps_missing, taps_bad, taps_stop, taps_more, taps_onsets, taps_good}
use Rattle.bar_lines.proofs.taps.read_taps.Goals.{In-loop-n, Else-text-at}
use Rattle.bar_lines.proofs.taps.read_taps.Goals as goal

-- in the loop a tap is missing, and there is room for it
missing : (c : In-loop-n) → c.loop-n.n ≤ c.args.bars
missing c = omega (arith, c.loop-n-test.true)

room : (c : In-loop-n) → c.loop-n.n < 65
room c = let few = c.requires.3 in omega (arith, c.loop-n-test.true, few)

inside : (c : Else-text-at) → c.loop-n.at < length c.args.text.now
inside c = omega (arith, c.if-text-at.false)

pub loop-n-init : goal.loop-n-init
loop-n-init c =
    let pre = c.requires in
    taps_none _ _ _ _ _ _ pre.0 pre.1 pre.2 (pad_nil 65 (micros 0))

pub returns-then-text-at : goal.returns-then-text-at
returns-then-text-at c =
    let so = c.loop-n.invariant in
    let missing-here = missing (goal.at.returns-then-text-at c).In-loop-n in (
      so.within,
      λ g. record { is = taps_missing so c.requires.3 missing-here c.if-text-at.true g; place = so.line; numbered = so.numbered },
    )

pub returns-in_default : goal.returns-in_default
returns-in_default c =
    let so = c.loop-n.invariant in
    let missing-here = missing (goal.at.returns-in_default c).In-loop-n in
    let inside-here = inside (goal.at.returns-in_default c).Else-text-at in
    let none = line_if_none _ c.in_default.ensures in (
      so.within,
      λ g. record {
        is = taps_bad so c.requires.3 missing-here inside-here _ refl g none 2;
        place = so.line;
        numbered = so.numbered;
      },
    )

pub returns-in-Err : goal.returns-in-Err
returns-in-Err c =
    let so = c.loop-n.invariant in
    let missing-here = missing (goal.at.returns-in-Err c).In-loop-n in
    let inside-here = inside (goal.at.returns-in-Err c).Else-text-at in
    let (is, filled) = line_if_some c.in-Some.ensures in (
      so.within,
      λ g. record {
        is = taps_stop so c.requires.3 missing-here inside-here _ is filled _ c.in-Err.ensures (number_some _) g;
        place = so.line;
        numbered = so.numbered;
      },
    )

pub offset_bounds-lines-n : goal.offset_bounds-lines-n
offset_bounds-lines-n c = let n = room (goal.at.offset_bounds-lines-n c).In-loop-n in search rules

pub bounds-lines-n : goal.bounds-lines-n
bounds-lines-n c =
    let so = c.loop-n.invariant in
    let size = ap length so.cells_are ∙ length-pad 65 (micros 0) _ in
    let n = room (goal.at.bounds-lines-n c).In-loop-n in
    omega (arith, size, n)

pub overflow_add-line : goal.overflow_add-line
overflow_add-line c =
    let so = c.loop-n.invariant in
    record { fits = omega (arith, so.line) }

pub loop-n-preserved : goal.loop-n-preserved
loop-n-preserved c =
    let missing-here = missing (goal.at.loop-n-preserved c).In-loop-n in
    let inside-here = inside (goal.at.loop-n-preserved c).Else-text-at in
    let (is, filled) = line_if_some c.in-Some.ensures in
    taps_more c.loop-n.invariant c.requires.3 missing-here inside-here _ is filled _ c.in_default-check_tap.ensures refl _ c.four_at.ensures

pub returns : goal.returns
returns c =
    let so = c.loop-n.invariant in
    let few = c.requires.3 in
    record {
      place = so.line;
      numbered = so.numbered;
      within = so.within;
      rest = taps_onsets so few (omega (arith, c.loop-n-test.false));
      good = taps_good so few (omega (arith, c.loop-n-test.false));
    }

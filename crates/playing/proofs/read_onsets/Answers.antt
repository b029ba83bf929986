use borrow.Author.Rules.{rules}
use native.Mathlib.Omega.{arith}
use Prim.Native.Nat.{◌<◌}
use mathlib.Core.Path.{refl}
use Rattle.hextext.specs.Laws.{line_falls}
use Rattle.hextext.specs.PackedLaws.{line_next, line_if_some, line_if_none}
use Rattle.playing.proofs.OnsetLoop.{onsets_none, latest_in, onsets_bad, onsets_stop, onsets_room, onsets_more, onsets_missing, take_done}
use Rattle.playing.proofs.read_onsets.Goals.{In-Ok}
use Rattle.playing.proofs.read_onsets.Goals as goal

-- where a line is taken as an onset there is room for it
room : (c : In-Ok) → c.loop-at.n < 512
room c =
    let (is, filled) = line_if_some c.in-Some.ensures in
    onsets_room c.loop-at.invariant c.loop-at-test.true _ is filled c.in-Ok.step c.in-Ok.ensures

pub loop-at-init : goal.loop-at-init
loop-at-init c =
    let pre = c.requires in
    onsets_none _ _ _ _ _ _ _ pre.0 pre.1 pre.2 pre.3 c.no_onsets-playing.ensures refl

pub returns-in_default : goal.returns-in_default
returns-in_default c g =
    let so = c.loop-at.invariant in
    let none = line_if_none _ c.in_default.ensures in
    record { is = onsets_bad so c.loop-at-test.true _ refl g none 2; place = so.line; numbered = so.numbered }

pub onset_step-requires : goal.onset_step-requires
onset_step-requires c = (c.requires.3, latest_in c.loop-at.invariant)

pub returns-in-Err : goal.returns-in-Err
returns-in-Err c g =
    let so = c.loop-at.invariant in
    let (is, filled) = line_if_some c.in-Some.ensures in
    record {
      is = onsets_stop so c.loop-at-test.true _ is filled g _ c.in-Err.ensures;
      place = so.line;
      numbered = so.numbered;
    }

pub offset_bounds-playing-n : goal.offset_bounds-playing-n
offset_bounds-playing-n c = let m = room (goal.at.offset_bounds-playing-n c).In-Ok in search rules

pub bounds-playing-n : goal.bounds-playing-n
bounds-playing-n c = room (goal.at.bounds-playing-n c).In-Ok

pub bounds-playing-n-in-loop-at : goal.bounds-playing-n-in-loop-at
bounds-playing-n-in-loop-at c = room (goal.at.bounds-playing-n-in-loop-at c).In-Ok

pub overflow_add-n : goal.overflow_add-n
overflow_add-n c = let m = room (goal.at.overflow_add-n c).In-Ok in search rules

pub overflow_add-line : goal.overflow_add-line
overflow_add-line c = record { fits = omega (arith, c.loop-at.invariant.line) }

pub loop-at-smaller : goal.loop-at-smaller
loop-at-smaller c =
    let (is, filled) = line_if_some c.in-Some.ensures in
    line_falls _ _ c.loop-at-test.true _ (line_next _ _ _ is filled)

pub loop-at-preserved : goal.loop-at-preserved
loop-at-preserved c =
    let (is, filled) = line_if_some c.in-Some.ensures in
    onsets_more c.loop-at.invariant c.loop-at-test.true _ is filled c.in-Ok.step c.in-Ok.ensures _ c.byte_at.ensures _ refl

pub returns-then-n-eq0 : goal.returns-then-n-eq0
returns-then-n-eq0 c g =
    let so = c.loop-at.invariant in
    record { is = onsets_missing so c.loop-at-test.false g c.if-n-eq0.true; place = so.line; numbered = so.numbered }

pub timing_table-timing-requires : goal.timing_table-timing-requires
timing_table-timing-requires c = c.requires.3.lines

pub returns : goal.returns
returns c g =
    take_done c.loop-at.invariant c.loop-at-test.false g c.if-n-eq0.false _ refl c.timing_table-timing.ensures

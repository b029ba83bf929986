use borrow.Author.Rules.{rules}
use native.Mathlib.Omega.{arith}
use Prim.Native.Nat.{◌+◌, ◌<◌}
use mathlib.Core.Path.{◌≡◌, refl}
use Rattle.hextext.specs.Laws.{line_falls}
use Rattle.hextext.specs.PackedLaws.{line_next, line_if_some}
use Rattle.playing.specs.Clauses.{StepTaken}
use Rattle.playing.proofs.OnsetLoop.{onsets_none, renumbered, onsets_room, onsets_more, take_done}
use Rattle.playing.proofs.read_even.Goals.{In_ok-step}
use Rattle.playing.proofs.read_even.Goals as goal

taken : (c : In_ok-step) → StepTaken c.args.lines.now c.args.clock c.loop-at.n c.loop-at.latest c.in_ok-l.l c.in_ok-step.step
taken c = c.in_ok-step.ensures _ c.requires.1

room : (c : In_ok-step) → c.loop-at.n < 512
room c =
    let (is, filled) = line_if_some c.in_ok-l.ensures in
    onsets_room (c.loop-at.invariant 1 (omega arith) (omega arith)) c.loop-at-test.true _ is filled _
    (c.in_ok-step.ensures _ c.requires.1).step

pub loop-at-init : goal.loop-at-init
loop-at-init c line few pos =
    let pre = c.requires in
    let same : line ≡ line + 0 = omega arith in
    renumbered same
    (onsets_none _ _ _ _ _ _ _ pre.0 few pos pre.1 c.no_onsets-playing.ensures refl)

pub even_step-requires : goal.even_step-requires
even_step-requires c = (_, c.requires.1)

pub offset_bounds-playing-n : goal.offset_bounds-playing-n
offset_bounds-playing-n c = let m = room (goal.at.offset_bounds-playing-n c).In_ok-step in search rules

pub bounds-playing-n : goal.bounds-playing-n
bounds-playing-n c = room (goal.at.bounds-playing-n c).In_ok-step

pub bounds-playing-n-in-loop-at : goal.bounds-playing-n-in-loop-at
bounds-playing-n-in-loop-at c = room (goal.at.bounds-playing-n-in-loop-at c).In_ok-step

pub overflow_add-n : goal.overflow_add-n
overflow_add-n c = let m = room (goal.at.overflow_add-n c).In_ok-step in search rules

pub loop-at-smaller : goal.loop-at-smaller
loop-at-smaller c =
    let (is, filled) = line_if_some c.in_ok-l.ensures in
    line_falls _ _ c.loop-at-test.true _ (line_next _ _ _ is filled)

pub loop-at-preserved : goal.loop-at-preserved
loop-at-preserved c line few pos =
    let loop = c.loop-at in
    let next : line + loop.n + 1 ≡ line + (loop.n + 1) = omega arith in
    let (is, filled) = line_if_some c.in_ok-l.ensures in
    renumbered next
    (onsets_more (loop.invariant line few pos) c.loop-at-test.true _ is filled _ (taken (goal.at.loop-at-preserved c).In_ok-step).step
    _ c.byte_at.ensures _ refl)

pub timing_table-timing-requires : goal.timing_table-timing-requires
timing_table-timing-requires c = c.requires.1.lines

-- no line is left
pub returns : goal.returns
returns c n few pos g =
    take_done (c.loop-at.invariant n few pos) c.loop-at-test.false g c.if-n-eq0.false _ refl c.timing_table-timing.ensures

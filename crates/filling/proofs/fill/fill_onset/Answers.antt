use Rattle.std.proofs.Common.{◌<◌, sym, refl, ◌∙◌, arith}
use Rattle.filling.specs.OnsetLaws.{onset_begin, onset_asked, onset_more}
use Rattle.filling.proofs.fill.fill_onset.Goals as goal

pub returns-then-from-eq0 : goal.returns-then-from-eq0
returns-then-from-eq0 c = λ s e. record { sound = e.sound; size = e.size }

pub loop-l-init : goal.loop-l-init
loop-l-init c =
    let length-count = c.length_count-l in
    λ s e. onset_begin e length-count.ensures refl

pub slice_bounds-fill_at-end : goal.slice_bounds-fill_at-end
slice_bounds-fill_at-end c =
    sym (c.loop-l.invariant _ c.requires.1).1.size

pub fill_at-requires : goal.fill_at-requires
fill_at-requires c =
    let e = c.requires.1 in
    (c.requires.0, onset_asked e (omega (arith, c.if-from-eq0.false)) c.loop-l-test.true (c.loop-l.invariant _ e))

pub loop-l-preserved : goal.loop-l-preserved
loop-l-preserved c =
    let taken = c.loop-l-test.true in
    λ s e.
    let begun : 0 < c.args.from = omega (arith, c.if-from-eq0.false) in
    onset_more e begun taken (c.loop-l.invariant s e) (c.fill_at.ensures s (onset_asked e begun taken (c.loop-l.invariant s e)))

pub shape_of-rows : goal.shape_of-rows
shape_of-rows c =
    let loop = c.loop-l in
    (loop.invariant _ c.requires.1).1.sound.size ∙ sym c.requires.1.sound.size

pub shape_of-pairs : goal.shape_of-pairs
shape_of-pairs c =
    let loop = c.loop-l in
    (loop.invariant _ c.requires.1).1.filled.size ∙ sym c.requires.1.size

pub returns : goal.returns
returns c =
    let loop = c.loop-l in
    λ s e. record { sound = (loop.invariant s e).1.sound; size = (loop.invariant s e).1.filled.size }

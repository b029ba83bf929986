use Rattle.std.proofs.Common.{sym, refl, ◌∙◌, arith}
use Rattle.filling.specs.OnsetLaws.{bar_given, bar_number, bar_search, bar_end, bar_asked}
use Rattle.filling.proofs.fill.fill_bar.Goals as goal

pub overflow_cast-end : goal.overflow_cast-end
overflow_cast-end c =
    omega (arith, bar_number c.requires.1)

pub overflow_mul-end : goal.overflow_mul-end
overflow_mul-end c =
    omega (arith, bar_number c.requires.1)

pub overflow_add-end : goal.overflow_add-end
overflow_add-end c =
    omega (arith, bar_number c.requires.1)

pub first_behind-i-end-requires : goal.first_behind-i-end-requires
first_behind-i-end-requires c = bar_search (bar_given c.in-Some.is c.requires.1) refl

pub loop-i-init : goal.loop-i-init
loop-i-init c = λ s e. record { sound = e.sound; size = refl }

pub slice_bounds-fill_onset-end : goal.slice_bounds-fill_onset-end
slice_bounds-fill_onset-end c =
    sym (c.loop-i.invariant _ (bar_given c.in-Some.is c.requires.1)).size

pub fill_onset-requires : goal.fill_onset-requires
fill_onset-requires c =
    let e = bar_given c.in-Some.is c.requires.1 in
    let end = bar_end e refl c.first_behind-i-end.ensures in
    (c.requires.0, bar_asked e end c.loop-i.auto.i c.loop-i-test.true (c.loop-i.invariant _ e))

pub loop-i-preserved : goal.loop-i-preserved
loop-i-preserved c =
    λ s e.
    let end = bar_end e refl c.first_behind-i-end.ensures in
    c.fill_onset.ensures s (bar_asked e end c.loop-i.auto.i c.loop-i-test.true (c.loop-i.invariant s e))

pub shape_of-rows : goal.shape_of-rows
shape_of-rows c =
    let e = bar_given c.in-Some.is c.requires.1 in
    (c.loop-i.invariant _ e).sound.size ∙ sym e.sound.size

pub returns : goal.returns
returns c =
    λ s e. (c.loop-i.invariant s (bar_given c.in-Some.is e)).sound

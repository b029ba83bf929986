-- `fill_at` meets its contract: where the onset is alone in the interval of the length, its leaves are filled, all rules are met and its
-- rows are stored; where it is not, nothing is to be filled. Assumes nothing.
use Rattle.std.proofs.Common.{refl, arith}
use Rattle.filling.specs.LoneLaws.{of_bar_place, lone_yes, lone_no}
use Rattle.filling.specs.AtLaws.{at-length, at_unit, at_positive, at_along, at_near, at_idle, leaves_asked, length_asked}
use Rattle.filling.specs.AtLaws.{length_told, keep_asked, at_told}
use Rattle.filling.proofs.fill.fill_at.Goals as goal

pub length-len-requires : goal.length-len-requires
length-len-requires c =
    let e = c.requires.1 in
    (at-length e, (c.requires.0, e.of_bar.in_bar_lem.prepared))

pub offset_bounds-units-from : goal.offset_bounds-units-from
offset_bounds-units-from c =
    omega (arith, of_bar_place c.requires.1.of_bar)

pub bounds-units-from : goal.bounds-units-from
bounds-units-from c =
    omega (arith, of_bar_place c.requires.1.of_bar)

pub overflow_sub-d : goal.overflow_sub-d
overflow_sub-d c =
    omega (arith, at_unit c.requires.1)

pub nonzero_rem-d : goal.nonzero_rem-d
nonzero_rem-d c =
    let length = c.length-len in
    omega (arith, at_positive c.requires.1 length.ensures refl refl)

pub overflow_sub-left : goal.overflow_sub-left
overflow_sub-left c =
    let length = c.length-len in
    omega (arith, at_along c.requires.1 length.ensures refl refl)

pub overflow_add-right : goal.overflow_add-right
overflow_add-right c =
    let length = c.length-len in
    omega (arith, at_near c.requires.1 length.ensures refl refl)

pub lone-requires : goal.lone-requires
lone-requires c =
    let e = c.requires.1 in
    (e.of_bar.behind, of_bar_place e.of_bar)

pub fill_leaves-requires : goal.fill_leaves-requires
fill_leaves-requires c =
    let length = c.length-len in
    let lone = c.lone in
    let if1 = c.if-lone in
    let e = c.requires.1 in
    let told = lone_yes lone.ensures if1.true in
    let used-in = c.used_in in
    rw used-in.ensures (leaves_asked e length.ensures refl refl told)

pub fill_length-requires : goal.fill_length-requires
fill_length-requires c =
    let length = c.length-len in
    let lone = c.lone in
    let if1 = c.if-lone in
    let fill-leaves = c.fill_leaves in
    let used-in = c.used_in in
    let e = c.requires.1 in
    let told = lone_yes lone.ensures if1.true in
    (c.requires.0, length_asked e length.ensures refl refl told (rw used-in.ensures at fill-leaves.ensures))

pub keep-requires : goal.keep-requires
keep-requires c =
    let length = c.length-len in
    let lone = c.lone in
    let if1 = c.if-lone in
    let fill-leaves = c.fill_leaves in
    let used-in = c.used_in in
    let fill-length = c.fill_length in
    let e = c.requires.1 in
    let told = lone_yes lone.ensures if1.true in
    let solved = length_told e length.ensures refl refl told (rw used-in.ensures at fill-leaves.ensures) fill-length.ensures in
    (c.requires.0, keep_asked e length.ensures refl refl told solved)

pub returns-then-lone : goal.returns-then-lone
returns-then-lone c =
    let length = c.length-len in
    let lone = c.lone in
    let if1 = c.if-lone in
    let fill-leaves = c.fill_leaves in
    let used-in = c.used_in in
    let fill-length = c.fill_length in
    let keep = c.keep in
    λ s e.
    let told = lone_yes lone.ensures if1.true in
    let solved = length_told e length.ensures refl refl told (rw used-in.ensures at fill-leaves.ensures) fill-length.ensures in
    at_told e length.ensures refl refl told solved keep.ensures

pub returns-else-lone : goal.returns-else-lone
returns-else-lone c =
    let length = c.length-len in
    let lone = c.lone in
    let if1 = c.if-lone in
    λ s e. at_idle e length.ensures refl refl (lone_no lone.ensures if1.false)

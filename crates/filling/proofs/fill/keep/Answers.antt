use Rattle.std.proofs.Common.{sym, ◌∙◌, arith}
use Rattle.filling.specs.KeepLaws.{keep_begin, keep_few, keep_below, keep_best, keep_pairs, keep_slot, keep_bar, keep_room, keep_low}
use Rattle.filling.specs.KeepLaws.{keep_sound, keep_more, keep_end}
use Rattle.filling.proofs.fill.keep.Goals as goal

pub loop-q-init : goal.loop-q-init
loop-q-init c = λ s e. keep_begin e

pub overflow_mul-q : goal.overflow_mul-q
overflow_mul-q c =
    let used-in = c.used_in-q-end in
    let loop-test = c.loop-q-test in
    omega (arith, keep_few c.requires.1, loop-test.true, used-in.ensures)

pub pair_at-y-requires : goal.pair_at-y-requires
pair_at-y-requires c =
    let used-in = c.used_in-q-end in
    let loop-test = c.loop-q-test in
    keep_best c.requires.1 (keep_below c.requires.1 used-in.ensures loop-test.true)

pub place_of-at-requires : goal.place_of-at-requires
place_of-at-requires c =
    let used-in = c.used_in-q-end in
    let loop-test = c.loop-q-test in
    (c.requires.0, keep_slot c.requires.1 (keep_below c.requires.1 used-in.ensures loop-test.true))

pub overflow_mul-l : goal.overflow_mul-l
overflow_mul-l c =
    let used-in = c.used_in-q-end in
    let loop = c.loop-q in
    let loop-test = c.loop-q-test in
    let e = c.requires.1 in
    let room = keep_pairs e (keep_below e used-in.ensures loop-test.true) (loop.invariant _ e) in
    omega (arith, room)

pub overflow_mul-q-in-loop-q : goal.overflow_mul-q-in-loop-q
overflow_mul-q-in-loop-q c =
    let used-in = c.used_in-q-end in
    let loop = c.loop-q in
    let loop-test = c.loop-q-test in
    let e = c.requires.1 in
    let room = keep_pairs e (keep_below e used-in.ensures loop-test.true) (loop.invariant _ e) in
    omega (arith, room)

pub overflow_add-l : goal.overflow_add-l
overflow_add-l c =
    let used-in = c.used_in-q-end in
    let loop = c.loop-q in
    let loop-test = c.loop-q-test in
    let e = c.requires.1 in
    let room = keep_pairs e (keep_below e used-in.ensures loop-test.true) (loop.invariant _ e) in
    omega (arith, room)

pub put_pair-requires : goal.put_pair-requires
put_pair-requires c =
    let used-in = c.used_in-q-end in
    let loop = c.loop-q in
    let loop-test = c.loop-q-test in
    (keep_pairs c.requires.1 (keep_below c.requires.1 used-in.ensures loop-test.true) (loop.invariant _ c.requires.1)).0

pub overflow_add-bar : goal.overflow_add-bar
overflow_add-bar c =
    let used-in = c.used_in-q-end in
    let loop-test = c.loop-q-test in
    omega (arith, keep_bar c.requires.1 (keep_below c.requires.1 used-in.ensures loop-test.true))

pub store-requires : goal.store-requires
store-requires c =
    let used-in = c.used_in-q-end in
    let loop = c.loop-q in
    let loop-test = c.loop-q-test in
    let pair-at = c.pair_at-y in
    let place_of = c.place_of-at in
    let e = c.requires.1 in
    let below = keep_below c.requires.1 used-in.ensures loop-test.true in
    let sound = (loop.invariant _ e).sound in (
      keep_room e below pair-at.ensures sound place_of.ensures,
      omega (arith, keep_bar e below),
      keep_low e below pair-at.ensures sound place_of.ensures,
    )

pub loop-q-preserved : goal.loop-q-preserved
loop-q-preserved c =
    let used-in = c.used_in-q-end in
    let loop = c.loop-q in
    let loop-test = c.loop-q-test in
    let pair-at = c.pair_at-y in
    let place_of = c.place_of-at in
    let put-pair = c.put_pair in
    let store = c.store in
    λ s e.
    let below = keep_below e used-in.ensures loop-test.true in
    let p = loop.invariant s e in
    let sound = keep_sound e below pair-at.ensures p.sound place_of.ensures store.ensures in
    keep_more e below pair-at.ensures p sound put-pair.ensures

pub shape_of-rows : goal.shape_of-rows
shape_of-rows c =
    let loop = c.loop-q in
    let e = c.requires.1 in
    (loop.invariant _ e).sound.size ∙ sym e.sound.size

pub shape_of-pairs : goal.shape_of-pairs
shape_of-pairs c =
    let loop = c.loop-q in
    let e = c.requires.1 in
    (loop.invariant _ e).size ∙ sym e.size

pub returns : goal.returns
returns c =
    let used-in = c.used_in-q-end in
    let loop = c.loop-q in
    let loop-test = c.loop-q-test in
    λ s e. keep_end e used-in.ensures loop.auto.q-end loop-test.false (loop.invariant s e)

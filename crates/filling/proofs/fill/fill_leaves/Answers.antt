use Rattle.std.proofs.Common.{◌≡◌, sym, ◌∙◌, arith}
use Rattle.filling.specs.LeavesLaws.{leaves_none, leaves_room, leaves_more}
use Rattle.filling.proofs.fill.fill_leaves.Goals as goal

pub loop-q-init : goal.loop-q-init
loop-q-init c =
    leaves_none c.requires.1

pub leaf_one-y-requires : goal.leaf_one-y-requires
leaf_one-y-requires c =
    let loop-test = c.loop-q-test in
    (omega (arith, loop-test.true, c.requires.0), c.requires.2, c.requires.3, c.requires.4)

pub overflow_mul-q : goal.overflow_mul-q
overflow_mul-q c =
    let loop-test = c.loop-q-test in
    omega (arith, loop-test.true, c.requires.0)

pub put_pair-requires : goal.put_pair-requires
put_pair-requires c =
    let loop = c.loop-q in
    let loop-test = c.loop-q-test in
    leaves_room loop.invariant (omega (arith, loop-test.true, c.requires.0))

pub loop-q-preserved : goal.loop-q-preserved
loop-q-preserved c =
    let loop = c.loop-q in
    let loop-test = c.loop-q-test in
    let leaf-one = c.leaf_one-y in
    let put-pair = c.put_pair in
    leaves_more loop.invariant (omega (arith, loop-test.true, c.requires.0)) leaf-one.ensures put-pair.ensures

pub shape_of-best : goal.shape_of-best
shape_of-best c =
    let loop = c.loop-q in
    loop.invariant.size ∙ sym c.requires.1

pub returns : goal.returns
returns c =
    let loop = c.loop-q in
    let loop-test = c.loop-q-test in
    let all : loop.q ≡ c.args.used = omega (arith, loop-test.false, loop.auto.q-end) in
    rw all at loop.invariant

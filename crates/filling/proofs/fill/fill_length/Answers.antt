use Rattle.std.proofs.Common.{◌≡◌, ◌≤◌, sym, refl, ◌∙◌, arith}
use Rattle.filling.specs.LengthLaws.{length_asked, length_end, length_idle, part-length, part_positive, part_few}
use Rattle.filling.specs.LengthLaws.{arity_asked, arity_told}
use Rattle.filling.proofs.fill.fill_length.Goals.{in-Some, in_default}
use Rattle.filling.proofs.fill.fill_length.Goals as goal

pub loop-k-init : goal.loop-k-init
loop-k-init c = λ s e. e.done

pub split_by-requires : goal.split_by-requires
split_by-requires c =
    length_asked c.requires.1

pub length-len-requires : goal.length-len-requires
length-len-requires c =
    let loop = c.loop-k in
    let less = c.loop-k-test in
    let e = c.requires.1 in
    let told = c.in-Some.ensures.1 _ e.in_bar_lem.prepared e.lone.length_in in
    (part-length e loop.auto.k (omega (arith, less.true)) told, (c.requires.0, e.in_bar_lem.prepared))

pub nonzero_div-j : goal.nonzero_div-j
nonzero_div-j c =
    let loop = c.loop-k in
    let less = c.loop-k-test in
    let length = c.length-len in
    let e = c.requires.1 in
    let told = c.in-Some.ensures.1 _ e.in_bar_lem.prepared e.lone.length_in in
    omega (arith, part_positive e loop.auto.k (omega (arith, less.true)) told length.ensures refl)

pub overflow_cast-j : goal.overflow_cast-j
overflow_cast-j c =
    let loop = c.loop-k in
    let less = c.loop-k-test in
    let length = c.length-len in
    let e = c.requires.1 in
    let told = c.in-Some.ensures.1 _ e.in_bar_lem.prepared e.lone.length_in in
    omega (arith, part_few e loop.auto.k (omega (arith, less.true)) told length.ensures refl)

pub fill_arity-requires : goal.fill_arity-requires
fill_arity-requires c =
    let loop = c.loop-k in
    let less = c.loop-k-test in
    let length = c.length-len in
    let e = c.requires.1 in
    let told = c.in-Some.ensures.1 _ e.in_bar_lem.prepared e.lone.length_in in
    let asked = arity_asked e loop.auto.k (omega (arith, less.true)) told length.ensures refl in
    (c.requires.0, asked (loop.invariant _ e))

pub loop-k-preserved : goal.loop-k-preserved
loop-k-preserved c =
    let two = c.loop-k.auto.k in
    let eight : c.loop-k.k ≤ 8 = omega (arith, c.loop-k-test.true) in
    λ s e.
    let b = c.loop-k.invariant s e in
    elim c.match-split_by.branch [
      | in-Some w ↦
          let told = w.in-Some.ensures.1 s e.in_bar_lem.prepared e.lone.length_in in
          rw w.best-is
          (arity_told e two eight told w.length-len.ensures refl b
          (w.fill_arity.ensures s (arity_asked e two eight told w.length-len.ensures refl b)))
      | in_default w ↦ rw w.best-is (length_idle e two eight (w.in_default.ensures.1 s e.in_bar_lem.prepared e.lone.length_in) b)
    ]

pub shape_of-best : goal.shape_of-best
shape_of-best c =
    let loop = c.loop-k in
    (loop.invariant _ c.requires.1).size ∙ sym c.requires.1.done.size

pub returns : goal.returns
returns c =
    let loop = c.loop-k in
    let loop-test = c.loop-k-test in
    let nine : loop.k ≡ 9 = omega (arith, loop.auto.k-end, loop-test.false) in
    λ s e. length_end e nine (loop.invariant s e)

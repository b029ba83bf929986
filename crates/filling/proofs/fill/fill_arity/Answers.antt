use Rattle.std.proofs.Common.{sym, ◌∙◌, arith}
use Rattle.filling.specs.ArityLaws.{arity_most, arity_begin, arity_all, arity_room, arity_asked, arity_more}
use Rattle.filling.proofs.fill.fill_arity.Goals as goal

pub overflow_add-k : goal.overflow_add-k
overflow_add-k c =
    omega (arith, c.requires.1.eight)

pub first_of-n-end-requires : goal.first_of-n-end-requires
first_of-n-end-requires c =
    omega (arith, c.requires.1.eight)

pub first_of-n-requires : goal.first_of-n-requires
first_of-n-requires c =
    omega (arith, c.requires.1.eight)

pub loop-n-init : goal.loop-n-init
loop-n-init c =
    let first_of = c.first_of-n-end in
    let first-of2 = c.first_of-n in
    λ s e. arity_begin e first_of.ensures first-of2.ensures

pub named_at-x-requires : goal.named_at-x-requires
named_at-x-requires c =
    let first_of = c.first_of-n-end in
    let loop-test = c.loop-n-test in
    omega (arith, arity_most c.requires.1 first_of.ensures, loop-test.true)

pub rule_pair-y-requires : goal.rule_pair-y-requires
rule_pair-y-requires c =
    let first_of = c.first_of-n-end in
    let loop = c.loop-n in
    let loop-test = c.loop-n-test in
    let named-at = c.named_at-x in
    let e = c.requires.1 in
    let so_far = loop.invariant _ e in
    (c.requires.0, arity_asked e first_of.ensures so_far.0 loop-test.true named-at.ensures)

pub overflow_mul-x : goal.overflow_mul-x
overflow_mul-x c =
    let first_of = c.first_of-n-end in
    let loop = c.loop-n in
    let loop-test = c.loop-n-test in
    let named-at = c.named_at-x in
    let e = c.requires.1 in
    let so_far = loop.invariant _ e in
    omega (arith, arity_room e first_of.ensures so_far.0 loop-test.true named-at.ensures so_far.1, so_far.1.done.size)

pub lower-requires : goal.lower-requires
lower-requires c =
    let first_of = c.first_of-n-end in
    let loop = c.loop-n in
    let loop-test = c.loop-n-test in
    let named-at = c.named_at-x in
    let e = c.requires.1 in
    let so_far = loop.invariant _ e in
    arity_room e first_of.ensures so_far.0 loop-test.true named-at.ensures so_far.1

pub loop-n-preserved : goal.loop-n-preserved
loop-n-preserved c =
    let first_of = c.first_of-n-end in
    let loop = c.loop-n in
    let loop-test = c.loop-n-test in
    let named-at = c.named_at-x in
    let rule-pair = c.rule_pair-y in
    let lower = c.lower in
    λ s e.
    let so_far = loop.invariant s e in
    let asked = arity_asked e first_of.ensures so_far.0 loop-test.true named-at.ensures in
    arity_more e first_of.ensures so_far.0 loop-test.true named-at.ensures so_far.1 (rule-pair.ensures s asked)
    lower.ensures

pub shape_of-best : goal.shape_of-best
shape_of-best c =
    let loop = c.loop-n in
    let e = c.requires.1 in
    (loop.invariant _ e).1.done.size ∙ sym e.done.size

pub returns : goal.returns
returns c =
    let first_of = c.first_of-n-end in
    let loop = c.loop-n in
    let loop-test = c.loop-n-test in
    λ s e. arity_all e first_of.ensures loop-test.false (loop.invariant s e).1

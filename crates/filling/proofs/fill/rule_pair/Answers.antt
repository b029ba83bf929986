-- `rule_pair` meets its contract: the cells of the part with the onset stand in the scratch array. Assumes nothing.
use Rattle.std.proofs.Common.{arith}
use Rattle.filling.specs.RuleLaws.{rule_asked, rule_place, rule_way, rule_told}
use Rattle.filling.proofs.fill.rule_pair.Goals as goal

pub child-q-requires : goal.child-q-requires
child-q-requires c =
    rule_asked c.requires.1

pub overflow_mul-h : goal.overflow_mul-h
overflow_mul-h c =
    let child = c.child-q in
    omega (arith, rule_place c.requires.1 child.ensures)

pub overflow_mul-q : goal.overflow_mul-q
overflow_mul-q c =
    let child = c.child-q in
    omega (arith, rule_place c.requires.1 child.ensures)

pub overflow_add-h : goal.overflow_add-h
overflow_add-h c =
    let child = c.child-q in
    omega (arith, rule_place c.requires.1 child.ensures)

pub pair_at-y-requires : goal.pair_at-y-requires
pair_at-y-requires c =
    let child = c.child-q in
    (rule_place c.requires.1 child.ensures).0

pub by_way-requires : goal.by_way-requires
by_way-requires c =
    let child = c.child-q in
    let pair-at = c.pair_at-y in
    (c.requires.0, rule_way c.requires.1 child.ensures pair-at.ensures)

pub returns : goal.returns
returns c =
    let child = c.child-q in
    let pair-at = c.pair_at-y in
    let by_way = c.by_way in
    λ s e. rule_told e child.ensures pair-at.ensures by_way.ensures

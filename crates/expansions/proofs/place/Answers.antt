use borrow.Author.Rules.{rules}
use native.Mathlib.Omega.{arith}
use Rattle.expansions.proofs.PlaceSteps.{none_counted, counts_small, next_counted, all_counted}
use Rattle.expansions.proofs.place.Goals as goal

pub overflow_add-right : goal.overflow_add-right
overflow_add-right c =
    let h = c.requires.1.within in
    search rules

pub loop-i-init : goal.loop-i-init
loop-i-init c =
    (counts_small c.requires.1 _ _ _ _ (none_counted c.requires.1), λ s h. none_counted h)

pub overflow_sub-unit : goal.overflow_sub-unit
overflow_sub-unit c =
    let loop = c.loop-i in
    let if1 = c.loop-i-test in
    let h = c.requires.1 in
    let l = loop in
    let k = next_counted h _ _ _ _ (l.invariant.1 _ h) if1.true in
    search rules

pub overflow_mul-unit : goal.overflow_mul-unit
overflow_mul-unit c =
    let loop = c.loop-i in
    let if1 = c.loop-i-test in
    let h = c.requires.1 in
    let l = loop in
    let k = next_counted h _ _ _ _ (l.invariant.1 _ h) if1.true in
    search rules

pub overflow_sub-distance : goal.overflow_sub-distance
overflow_sub-distance c =
    let loop = c.loop-i in
    let if1 = c.loop-i-test in
    let h = c.requires.1 in
    let l = loop in
    let k = next_counted h _ _ _ _ (l.invariant.1 _ h) if1.true in
    search rules

pub loop-i-smaller-then-unit-left : goal.loop-i-smaller-then-unit-left
loop-i-smaller-then-unit-left c =
    let loop = c.loop-i in
    let if1 = c.loop-i-test in
    let h = c.requires.1 in
    let l = loop in
    let k = next_counted h _ _ _ _ (l.invariant.1 _ h) if1.true in
    search rules

pub loop-i-preserved-then-unit-left : goal.loop-i-preserved-then-unit-left
loop-i-preserved-then-unit-left c =
    let loop = c.loop-i in
    let if1 = c.loop-i-test in
    let l = loop in
    let t = if1.true in (
      let h = c.requires.1 in counts_small h _ _ _ _ ((next_counted h _ _ _ _ (l.invariant.1 _ h) t).if_early (search rules)),
      λ s h. (next_counted h _ _ _ _ (l.invariant.1 s h) t).if_early (search rules),
    )

pub loop-i-smaller : goal.loop-i-smaller
loop-i-smaller c =
    let loop = c.loop-i in
    let if1 = c.loop-i-test in
    let h = c.requires.1 in
    let l = loop in
    let k = next_counted h _ _ _ _ (l.invariant.1 _ h) if1.true in
    search rules

pub loop-i-preserved : goal.loop-i-preserved
loop-i-preserved c =
    let loop = c.loop-i in
    let if1 = c.loop-i-test in
    let l = loop in
    let t = if1.true in (
      let h = c.requires.1 in counts_small h _ _ _ _ ((next_counted h _ _ _ _ (l.invariant.1 _ h) t).if_late (search rules)),
      λ s h. (next_counted h _ _ _ _ (l.invariant.1 s h) t).if_late (search rules),
    )

pub returns : goal.returns
returns c =
    let loop = c.loop-i in
    let if1 = c.loop-i-test in
    λ s h. all_counted h _ _ _ _ (loop.invariant.1 s h) (omega (arith, if1.false))

use native.Mathlib.Omega.{arith}
use Rattle.expansions.specs.Places.{first_most}
use Rattle.rows.specs.OnsetLaws.{Behind, behind_start, behind_more, behind_end}
use Rattle.rows.proofs.slots.first_behind.Goals as goal

pub loop-i-init : goal.loop-i-init
loop-i-init c =
    let p = c.requires in
    (omega (arith, p.3, first_most p.0 p.2.good p.1), λ s left h. behind_start h)

pub loop-i-preserved : goal.loop-i-preserved
loop-i-preserved c =
    let loop = c.loop-i in
    let p = c.requires in
    let h : Behind p.0 _ _ p.1 _ = record { held = p.2; first = p.3; ahead = p.4; near = p.5 } in (
      (behind_more h loop.i (loop.invariant.1 _ _ h) c.loop-i-test.true).1,
      λ s left k. (behind_more k loop.i (loop.invariant.1 s left k) c.loop-i-test.true).0,
    )

pub returns : goal.returns
returns c =
    let loop = c.loop-i in
    λ s left held first ahead near.
    let h : Behind s _ _ left _ = record { held = held; first = first; ahead = ahead; near = near } in
    behind_end h loop.i (loop.invariant.1 s left h) c.loop-i-test.false

use native.Mathlib.Omega.{arith}
use Rattle.sizes.proofs.ReachedSteps.{none_below, reached_whole, reached_none, none_unused, none_absent}
use Rattle.sizes.proofs.ReachedSteps.{reached_found}
use Rattle.sizes.proofs.is_reached.Goals.{else-flags-k-via-then-flags-k+else-is_among, else-flags-k-via-else-flags-k}
use Rattle.sizes.proofs.is_reached.Goals as goal

pub returns-then-d-eq-BAR_UNITS : goal.returns-then-d-eq-BAR_UNITS
returns-then-d-eq-BAR_UNITS c = (c.requires.2, reached_whole _ _ _ _ c.if-d-eq-BAR_UNITS.true)

pub loop-k-init : goal.loop-k-init
loop-k-init c = (c.requires.2, none_below _ _ _ _)

pub returns-then-is_among : goal.returns-then-is_among
returns-then-is_among c =
    let told = c.is_among.ensures in (
      told.0,
      reached_found _ _ _ _ c.loop-k.k c.loop-k.invariant.1 (omega arith) (omega arith) _ told.1 c.if-flags-k.true c.if-is_among.true,
    )

pub loop-k-preserved : goal.loop-k-preserved
loop-k-preserved c =
    elim c.else-flags-k.branch [
      | else-flags-k-via-then-flags-k+else-is_among w ↦
          rw w.at-is (
            w.is_among.ensures.0,
            none_absent _ _ _ _ c.loop-k.k c.loop-k.invariant.1 (omega arith) (omega arith) _ w.is_among.ensures.1 w.if-is_among.false,
          )
      | else-flags-k-via-else-flags-k w ↦
          rw w.at-is (
            c.loop-k.invariant.0,
            none_unused _ _ _ _ c.loop-k.k c.loop-k.invariant.1 (omega arith) (omega arith) w.if-flags-k.false,
          )
    ]

pub returns : goal.returns
returns c =
    (c.loop-k.invariant.0, reached_none _ _ _ _ c.loop-k.k c.loop-k.invariant.1 (omega arith) c.if-d-eq-BAR_UNITS.false)

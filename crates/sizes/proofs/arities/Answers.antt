use mathlib.Core.Path.{◌≡◌}
use native.Mathlib.Omega.{arith}
use Rattle.sizes.proofs.AritySteps.{flags_none, flags_set, flags_kept, flags_all}
use Rattle.sizes.proofs.arities.Goals.{in-Division+then-arity-lt9, in_default}
use Rattle.sizes.proofs.arities.Goals.{in_default-via-in-Leaf-1, in_default-via-in-Division+else-arity-lt9}
use Rattle.sizes.proofs.arities.Goals as goal

pub loop-i-init : goal.loop-i-init
loop-i-init c = flags_none _

pub loop-i-preserved : goal.loop-i-preserved
loop-i-preserved c =
    let so_far = c.loop-i.invariant in
    elim c.match-g-i.branch [
      | in-Division+then-arity-lt9 w ↦
          rw w.flags-is (flags_set _ _ _ so_far (omega arith) _ _ _ w.in-Division.is (omega arith))
      | in_default w ↦
          elim w.in_default.branch [
            | in_default-via-in-Leaf-1 v ↦ rw w.flags-is (flags_kept _ _ _ so_far (omega arith) (λ _ _ _ is _. cc))
            | in_default-via-in-Division+else-arity-lt9 v ↦
                rw w.flags-is
                (flags_kept _ _ _ so_far (omega arith) (λ _ _ arity is less. let e : arity ≡ v.in-Division.arity = cc in omega arith))
          ]
    ]

pub returns : goal.returns
returns c = flags_all _ _ c.loop-i.i c.loop-i.invariant (omega arith)

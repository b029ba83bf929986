-- `refused_at` meets its contract: the first bad line from there on goes before the refusal. Assumes nothing.
use mathlib.Core.Path.{sym}
use native.Mathlib.Omega.{arith}
use Rattle.sheet.specs.Rest.{stopped_bad, stopped_only}
use Rattle.reading.proofs.refused_at.Goals as goal

pub returns-in-Some : goal.returns-in-Some
returns-in-Some c =
    let some = c.in-Some.ensures.some c.requires.1 in
    rw c.at.ensures
    (sym (stopped_bad _ _ _ _ c.in-Some.ensures.number (λ e. omega (arith, some, e))))

pub returns-in-None : goal.returns-in-None
returns-in-None c = rw c.at-in-None.ensures (sym (stopped_only _ _ _ (sym c.in-None.ensures.number)))

-- `leaf_at` meets its contract, by what `place` gives. Assumes nothing.
use mathlib.Core.Path.{refl, ap, ◌∙◌}
use Prim.Native.Nat.{◌+◌}
use native.Mathlib.Omega.{arith}
use Rattle.trees.specs.ValidTrees.{token}
use Rattle.trees.proofs.Onsets.{onsets_most, early_late}
use Rattle.expansions.proofs.leaf_at.Goals as goal

pub place-placed-requires : goal.place-placed-requires
place-placed-requires c =
    (c.requires.0, c.requires.1.here)

pub overflow_add-carried : goal.overflow_add-carried
overflow_add-carried c =
    let place = c.place-placed in
    let s = c.requires.0 in
    let h = c.requires.1 in
    let o = c.args.over in
    let p = place.ensures s h.here in
    let few = h.few in
    let most = h.here.onsets.good.most in
    let e = p.early in
    let n = onsets_most s o.left.0 o.len.0 in
    let m = early_late s o.left.0 o.len.0 in
    record { fits = omega arith }

pub returns : goal.returns
returns c =
    let place = c.place-placed in
    let token-of = c.token_of in
    let if2 = c.if-n-token_of in
    let placed = c.args.carried + place.result.early in
    λ s h. let p = place.ensures s h.here in
    let kind = if2.false ∙ token-of.ensures ∙ ap (token placed) h.here.first in
    (refl, record { counts = p; kind = kind; few = omega arith })

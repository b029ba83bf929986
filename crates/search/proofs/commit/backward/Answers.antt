use Prim.Native.Nat.{◌-◌, ◌*◌}
use mathlib.Core.Path.{◌≡◌, refl, sym, ◌∙◌}
use native.Mathlib.Omega.{arith}
use lib.ListN.{length}
use Rattle.sheet.specs.Sheet.{Sheet}
use Rattle.rows.specs.VectorLaws.{only_low}
use Rattle.search.specs.Clauses.{BackwardPre, SuffixStep}
use Rattle.search.proofs.PassSteps.{length-stored}
use Rattle.search.proofs.BackSteps.{back_again, back_stored, backward_none, backward_entry, backward_room, backward_more}
use Rattle.search.proofs.commit.backward.Goals.{After-store, After-suffix_step-w, At-loop-b}
use Rattle.search.proofs.commit.backward.Goals as goal

-- the table is as long as it was
same : (c : After-store) → length c.store.new.rows ≡ length c.args.vectors.now
same c = back_stored c.requires.1 c.only_at-v.result c.store.ensures

-- the sheet that the function is given
given : (c : At-loop-b) → (let a = c.args in
    BackwardPre c.requires.0 a.roots.now c.store.new.rows a.from a.end)
given c =
    let same-here : length c.store.new.rows ≡ length c.args.vectors.now =
    back_stored c.requires.1 c.only_at-v.result c.store.ensures in
    back_again c.requires.1 _ (same-here)

-- the vector before bar b - 1
told : (c : After-suffix_step-w) (s : Sheet) → (let a = c.args in
    BackwardPre s a.roots.now c.store.new.rows a.from a.end) → let loop = c.loop-b in
    SuffixStep c.args.roots.now (loop.b - 1) loop.v c.suffix_step-w.result
told c s h =
    let loop = c.loop-b in
    c.suffix_step-w.ensures s c.args.end
    (backward_entry h c.loop-b-test.true loop.invariant.0 (loop.invariant.3 s h))

pub overflow_mul-end : goal.overflow_mul-end
overflow_mul-end c =
    record { fits = omega (arith, c.requires.1.few) }

pub store-requires : goal.store-requires
store-requires c =
    let low = only_low _ 0 c.only_at-v.ensures in
    (omega (arith, c.requires.1.room), omega arith, λ x. omega (arith, low x))

pub loop-b-init : goal.loop-b-init
loop-b-init c =
    let first = c.only_at-v.ensures in (
      omega arith,
      c.requires.1.rising,
      refl,
      λ s e. backward_none (back_again e c.args.vectors.now (sym (same (goal.at.loop-b-init c).After-store))) first c.store.ensures,
    )

pub suffix_step-w-requires : goal.suffix_step-w-requires
suffix_step-w-requires c =
    let h = given (goal.at.suffix_step-w-requires c).At-loop-b in
    let entry = backward_entry h c.loop-b-test.true c.loop-b.invariant.0 (c.loop-b.invariant.3 _ h) in
    (c.requires.0, c.args.end, entry)

pub overflow_mul-b : goal.overflow_mul-b
overflow_mul-b c =
    record { fits = omega (arith, (given (goal.at.overflow_mul-b c).At-loop-b).few, c.loop-b.invariant.0) }

pub store-requires-in-loop-b : goal.store-requires-in-loop-b
store-requires-in-loop-b c =
    let h = given (goal.at.store-requires-in-loop-b c).At-loop-b in
    let room = backward_room h c.loop-b-test.true c.loop-b.invariant.0 (c.loop-b.invariant.3 _ h) in
    (room, omega arith, λ x. omega (arith, (told (goal.at.store-requires-in-loop-b c).After-suffix_step-w _ h).low x))

-- one vector more is stored
pub loop-b-preserved : goal.loop-b-preserved
loop-b-preserved c =
    let loop = c.loop-b in
    let h = given (goal.at.loop-b-preserved c).At-loop-b in
    let more = c.loop-b-test.true in
    let room = backward_room h more loop.invariant.0 (loop.invariant.3 _ h) in (
      omega (arith, loop.invariant.0),
      omega (arith, more),
      length-stored loop.vectors c.suffix_step-w.result (4 * (loop.b - 1)) room c.store-in-loop-b.ensures ∙ loop.invariant.2,
      λ s e.
          backward_more e more loop.invariant.0 (loop.invariant.3 s e) (told (goal.at.loop-b-preserved c).After-suffix_step-w s e)
          c.store-in-loop-b.ensures,
    )

pub shape_of-vectors : goal.shape_of-vectors
shape_of-vectors c =
    c.loop-b.invariant.2 ∙ same (goal.at.shape_of-vectors c).After-store

pub returns : goal.returns
returns c =
    let all : c.loop-b.b ≡ c.args.from = omega (arith, c.loop-b-test.false, c.loop-b.invariant.1) in
    λ s e. rw all at (c.loop-b.invariant.3 s (back_again e _ (same (goal.at.returns c).After-store))).vectors_are

use Prim.Native.Nat.{◌+◌}
use native.Mathlib.Omega.{arith}
use mathlib.Core.Bool.{true}
use mathlib.Core.Path.{◌≡◌, refl, sym, ap, ◌∙◌}
use lib.ListN.{length}
use Rattle.sheet.specs.Sheet.{Sheet}
use Rattle.search.specs.Clauses.{bar_of, PassPre, RootsTo, CutVector, CommitPre, ForwardPre}
use Rattle.search.proofs.EnterSteps.{few_bars, bar_enter}
use Rattle.search.proofs.PassSteps.{forward_pass, forward_more}
use Rattle.search.proofs.CommitSteps.{Going, forwarded_low, going_none, going_fill, going_filled, going_more, going_commit}
use Rattle.search.proofs.CommitSteps.{going_committed, going_same, going_last, going_none_found, going_found}
use Rattle.search.proofs.forward.Goals.{After-enter-bar, After-fill_bar, After-is_cut_point, After-loop-b, After-pass-w}
use Rattle.search.proofs.forward.Goals.{Else-total-ge-NONE, then-is_cut_point, else-is_cut_point}
use Rattle.search.proofs.forward.Goals as goal

is-bar : (c : After-enter-bar) (s : Sheet) → (let a = c.args in
    ForwardPre s a.plan.now a.units.now a.order.now a.rows.now a.tree.now a.roots.now a.vectors.now
    a.start a.count)
    → c.enter-bar.result ≡ bar_of s c.loop-b.b
is-bar c s h = c.enter-bar.ensures s (bar_enter h.entry c.loop-b.b c.loop-b-test.true)

filled : (c : After-fill_bar) (s : Sheet) → (let a = c.args in
    ForwardPre s a.plan.now a.units.now a.order.now a.rows.now a.tree.now a.roots.now a.vectors.now
    a.start a.count) → let loop = c.loop-b in
    Going s c.fill_bar.new.rows loop.tree loop.roots loop.b loop.v loop.done loop.next
filled c s h =
    let is-bar-here : (s : Sheet) → (let a = c.args in
    ForwardPre s a.plan.now a.units.now a.order.now a.rows.now a.tree.now a.roots.now a.vectors.now
    a.start a.count)
    → c.enter-bar.result ≡ bar_of s c.loop-b.b =
    λ s h. c.enter-bar.ensures s (bar_enter h.entry c.loop-b.b c.loop-b-test.true) in
    let so_far = c.loop-b.invariant.3 s h in
    going_filled h so_far (c.fill_bar.ensures s (going_fill h so_far c.loop-b-test.true (is-bar-here s h)))

pass-entry : (c : After-fill_bar) (s : Sheet) → (let a = c.args in
    ForwardPre s a.plan.now a.units.now a.order.now a.rows.now a.tree.now a.roots.now a.vectors.now
    a.start a.count) → let a = c.args in
    let loop = c.loop-b in
    let bar = c.enter-bar.result in
    PassPre s a.plan.now a.units.now c.fill_bar.new.rows bar a.start loop.v
    × RootsTo s loop.roots bar.number 0
pass-entry c s h =
    let is-bar-here : (s : Sheet) → (let a = c.args in
    ForwardPre s a.plan.now a.units.now a.order.now a.rows.now a.tree.now a.roots.now a.vectors.now
    a.start a.count)
    → c.enter-bar.result ≡ bar_of s c.loop-b.b =
    λ s h. c.enter-bar.ensures s (bar_enter h.entry c.loop-b.b c.loop-b-test.true) in
    let filled-here : (s : Sheet) → (let a = c.args in
    ForwardPre s a.plan.now a.units.now a.order.now a.rows.now a.tree.now a.roots.now a.vectors.now
    a.start a.count) → let loop = c.loop-b in
    Going s c.fill_bar.new.rows loop.tree loop.roots loop.b loop.v loop.done loop.next =
    λ s h. let so_far = c.loop-b.invariant.3 s h in
    going_filled h so_far (c.fill_bar.ensures s (going_fill h so_far c.loop-b-test.true (is-bar-here s h))) in
    forward_pass h.entry (filled-here s h).forwarded c.loop-b-test.true (is-bar-here s h)

more : (c : After-pass-w) (s : Sheet) → (let a = c.args in
    ForwardPre s a.plan.now a.units.now a.order.now a.rows.now a.tree.now a.roots.now a.vectors.now
    a.start a.count) → let loop = c.loop-b in
    Going s c.pass-w.new.rows loop.tree c.pass-w.new.roots (loop.b + 1) c.pass-w.result loop.done loop.next
more c s h =
    let is-bar-here : (s : Sheet) → (let a = c.args in
    ForwardPre s a.plan.now a.units.now a.order.now a.rows.now a.tree.now a.roots.now a.vectors.now
    a.start a.count)
    → c.enter-bar.result ≡ bar_of s c.loop-b.b =
    λ s h. c.enter-bar.ensures s (bar_enter h.entry c.loop-b.b c.loop-b-test.true) in
    let filled-here : (s : Sheet) → (let a = c.args in
    ForwardPre s a.plan.now a.units.now a.order.now a.rows.now a.tree.now a.roots.now a.vectors.now
    a.start a.count) → let loop = c.loop-b in
    Going s c.fill_bar.new.rows loop.tree loop.roots loop.b loop.v loop.done loop.next =
    λ s h. let so_far = c.loop-b.invariant.3 s h in
    going_filled h so_far (c.fill_bar.ensures s (going_fill h so_far c.loop-b-test.true (is-bar-here s h))) in
    let pass-entry-here : (s : Sheet) → (let a = c.args in
    ForwardPre s a.plan.now a.units.now a.order.now a.rows.now a.tree.now a.roots.now a.vectors.now
    a.start a.count) → let a = c.args in
    let loop = c.loop-b in
    let bar = c.enter-bar.result in
    PassPre s a.plan.now a.units.now c.fill_bar.new.rows bar a.start loop.v
    × RootsTo s loop.roots bar.number 0 =
    λ s h. forward_pass h.entry (filled-here s h).forwarded c.loop-b-test.true (is-bar-here s h) in
    let entry = pass-entry-here s h in
    going_more h (filled-here s h) (forward_more (is-bar-here s h) (c.pass-w.ensures s entry.0 entry.1))

cut-vector : (c : After-is_cut_point) (s : Sheet) → c.is_cut_point.result ≡ true → (let a = c.args in
    ForwardPre s a.plan.now a.units.now a.order.now a.rows.now a.tree.now a.roots.now a.vectors.now
    a.start a.count) → CutVector s c.pass-w.result
cut-vector c s cut h = c.is_cut_point.ensures s h.entry.prepared cut

commit-entry : (c : After-is_cut_point) (s : Sheet) → c.is_cut_point.result ≡ true → (let a = c.args in
    ForwardPre s a.plan.now a.units.now a.order.now a.rows.now a.tree.now a.roots.now a.vectors.now
    a.start a.count) → let a = c.args in
    let loop = c.loop-b in
    CommitPre s a.plan.now a.units.now c.pass-w.new.rows loop.tree c.pass-w.new.roots
    loop.vectors a.start loop.done (loop.b + 1) loop.next
commit-entry c s cut h =
    let is-bar-here : (s : Sheet) → (let a = c.args in
    ForwardPre s a.plan.now a.units.now a.order.now a.rows.now a.tree.now a.roots.now a.vectors.now
    a.start a.count)
    → c.enter-bar.result ≡ bar_of s c.loop-b.b =
    λ s h. c.enter-bar.ensures s (bar_enter h.entry c.loop-b.b c.loop-b-test.true) in
    let filled-here : (s : Sheet) → (let a = c.args in
    ForwardPre s a.plan.now a.units.now a.order.now a.rows.now a.tree.now a.roots.now a.vectors.now
    a.start a.count) → let loop = c.loop-b in
    Going s c.fill_bar.new.rows loop.tree loop.roots loop.b loop.v loop.done loop.next =
    λ s h. let so_far = c.loop-b.invariant.3 s h in
    going_filled h so_far (c.fill_bar.ensures s (going_fill h so_far c.loop-b-test.true (is-bar-here s h))) in
    let pass-entry-here : (s : Sheet) → (let a = c.args in
    ForwardPre s a.plan.now a.units.now a.order.now a.rows.now a.tree.now a.roots.now a.vectors.now
    a.start a.count) → let a = c.args in
    let loop = c.loop-b in
    let bar = c.enter-bar.result in
    PassPre s a.plan.now a.units.now c.fill_bar.new.rows bar a.start loop.v
    × RootsTo s loop.roots bar.number 0 =
    λ s h. forward_pass h.entry (filled-here s h).forwarded c.loop-b-test.true (is-bar-here s h) in
    let more-here : (s : Sheet) → (let a = c.args in
    ForwardPre s a.plan.now a.units.now a.order.now a.rows.now a.tree.now a.roots.now a.vectors.now
    a.start a.count) → let loop = c.loop-b in
    Going s c.pass-w.new.rows loop.tree c.pass-w.new.roots (loop.b + 1) c.pass-w.result loop.done loop.next =
    λ s h. let entry = pass-entry-here s h in
    going_more h (filled-here s h) (forward_more (is-bar-here s h) (c.pass-w.ensures s entry.0 entry.1)) in
    let cut-vector-here : (s : Sheet) → (let a = c.args in
    ForwardPre s a.plan.now a.units.now a.order.now a.rows.now a.tree.now a.roots.now a.vectors.now
    a.start a.count) → CutVector s c.pass-w.result =
    λ s h. c.is_cut_point.ensures s h.entry.prepared cut in
    going_commit h (more-here s h) (omega (arith, c.loop-b-test.true)) c.loop-b.invariant.1 (cut-vector-here s h).reached

all-passed : (c : After-loop-b) → c.loop-b.b ≡ c.args.count
all-passed c = omega (arith, c.loop-b-test.false)

last_entry : (c : Else-total-ge-NONE) (s : Sheet) → (let a = c.args in
    ForwardPre s a.plan.now a.units.now a.order.now a.rows.now a.tree.now a.roots.now a.vectors.now
    a.start a.count) → let a = c.args in
    let loop = c.loop-b in
    CommitPre s a.plan.now a.units.now loop.rows loop.tree loop.roots loop.vectors a.start loop.done a.count
    loop.next
last_entry c s h =
    let all-passed-here : c.loop-b.b ≡ c.args.count =
    omega (arith, c.loop-b-test.false) in
    let loop = c.loop-b in
    going_last h (loop.invariant.3 s h) (all-passed-here) loop.invariant.1 (omega (arith, c.if-total-ge-NONE.false))

pub loop-b-init : goal.loop-b-init
loop-b-init c = (refl, refl, refl, λ s h. going_none h c.only_at-v.ensures)

pub enter-bar-requires : goal.enter-bar-requires
enter-bar-requires c =
    (c.requires.0, bar_enter c.requires.1.entry c.loop-b.b c.loop-b-test.true)

pub fill_bar-requires : goal.fill_bar-requires
fill_bar-requires c =
    let s = c.requires.0 in
    let h = c.requires.1 in
    (s, going_fill h (c.loop-b.invariant.3 s h) c.loop-b-test.true (is-bar (goal.at.fill_bar-requires c).After-enter-bar s h))

pub pass-w-requires : goal.pass-w-requires
pass-w-requires c =
    let entry = pass-entry (goal.at.pass-w-requires c).After-fill_bar _ c.requires.1 in
    (c.requires.0, entry.0, entry.1)

pub overflow_add-b : goal.overflow_add-b
overflow_add-b c =
    let h = c.requires.1 in
    record { fits = omega (arith, few_bars h.entry, c.loop-b-test.true) }

pub is_cut_point-requires : goal.is_cut_point-requires
is_cut_point-requires c =
    let h = c.requires.1 in
    (forwarded_low (more (goal.at.is_cut_point-requires c).After-pass-w _ h).forwarded, (c.requires.0, h.entry.prepared))

pub commit-next-requires : goal.commit-next-requires
commit-next-requires c =
    (c.requires.0, commit-entry (goal.at.commit-next-requires c).After-is_cut_point _ c.if-is_cut_point.true c.requires.1)

-- the bars up to bar b + 1 are committed, or something may be carried into it
pub loop-b-preserved : goal.loop-b-preserved
loop-b-preserved c =
    let loop = c.loop-b in
    let at = (goal.at.loop-b-preserved c).After-is_cut_point in (
      c.pass-w.auto.roots ∙ loop.invariant.0,
      elim c.if-is_cut_point.branch [
        | then-is_cut_point w ↦ ap length w.vectors-is ∙ w.commit-next.auto.vectors ∙ loop.invariant.1
        | else-is_cut_point w ↦ ap length w.vectors-is ∙ loop.invariant.1
      ],
      elim c.if-is_cut_point.branch [
        | then-is_cut_point w ↦ ap length w.tree-is ∙ w.commit-next.auto.tree ∙ loop.invariant.2
        | else-is_cut_point w ↦ ap length w.tree-is ∙ loop.invariant.2
      ],
      λ s h. elim c.if-is_cut_point.branch [
        | then-is_cut_point w ↦
            let cut = w.if-is_cut_point.true in
            going_same w.rows-is w.tree-is w.done-is w.next-is
            (going_committed h (more (goal.at.loop-b-preserved c).After-pass-w s h) (cut-vector at s cut h)
            (w.commit-next.ensures s (commit-entry at s cut h)))
        | else-is_cut_point w ↦
            going_same w.rows-is w.tree-is w.done-is w.next-is (more (goal.at.loop-b-preserved c).After-pass-w s h)
      ],
    )

pub shape_of-rows-then-total-ge-NONE : goal.shape_of-rows-then-total-ge-NONE
shape_of-rows-then-total-ge-NONE c =
    let h = c.requires.1 in
    (c.loop-b.invariant.3 _ h).forwarded.sound.size ∙ sym h.entry.sound.size

pub shape_of-tree-then-total-ge-NONE : goal.shape_of-tree-then-total-ge-NONE
shape_of-tree-then-total-ge-NONE c = c.loop-b.invariant.2

pub shape_of-roots-then-total-ge-NONE : goal.shape_of-roots-then-total-ge-NONE
shape_of-roots-then-total-ge-NONE c = c.loop-b.invariant.0

pub shape_of-vectors-then-total-ge-NONE : goal.shape_of-vectors-then-total-ge-NONE
shape_of-vectors-then-total-ge-NONE c = c.loop-b.invariant.1

-- no total is below the cap
pub returns-then-total-ge-NONE : goal.returns-then-total-ge-NONE
returns-then-total-ge-NONE c =
    λ s h.
    going_none_found h (c.loop-b.invariant.3 s h) (all-passed (goal.at.returns-then-total-ge-NONE c).After-loop-b)
    c.if-total-ge-NONE.true

pub commit-nodes-requires : goal.commit-nodes-requires
commit-nodes-requires c =
    (c.requires.0, last_entry (goal.at.commit-nodes-requires c).Else-total-ge-NONE _ c.requires.1)

pub shape_of-rows : goal.shape_of-rows
shape_of-rows c =
    let h = c.requires.1 in
    c.commit-nodes.auto.rows ∙ (c.loop-b.invariant.3 _ h).forwarded.sound.size ∙ sym h.entry.sound.size

pub shape_of-tree : goal.shape_of-tree
shape_of-tree c =
    c.commit-nodes.auto.tree ∙ c.loop-b.invariant.2

pub shape_of-roots : goal.shape_of-roots
shape_of-roots c =
    c.loop-b.invariant.0

pub shape_of-vectors : goal.shape_of-vectors
shape_of-vectors c =
    c.commit-nodes.auto.vectors ∙ c.loop-b.invariant.1

-- all bars are committed
pub returns : goal.returns
returns c =
    λ s h. going_found h (c.loop-b.invariant.3 s h) (all-passed (goal.at.returns c).After-loop-b) (omega (arith, c.if-total-ge-NONE.false))
    (c.commit-nodes.ensures s (last_entry (goal.at.returns c).Else-total-ge-NONE s h))

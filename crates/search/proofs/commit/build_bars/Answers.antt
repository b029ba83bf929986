use Prim.Native.Nat.{◌*◌, ◌<◌}
use mathlib.Core.Path.{◌≡◌, sym, ap, ◌∙◌}
use native.Mathlib.Omega.{arith}
use lib.ListN.{length}
use Rattle.slices.specs.Over.{length-over_from}
use Rattle.sheet.specs.Sheet.{Sheet}
use Rattle.sheet.specs.Held.{units as units_of}
use Rattle.building.specs.Clauses.{BuildPre}
use Rattle.search.specs.Clauses.{BarsBuildPre}
use Rattle.search.proofs.EnterSteps.{few_bars, bar_enter}
use Rattle.search.proofs.BarSteps.{in_bars_none, bar_carry, root_room, vector_room, bar_build, in_bars_more, in_bars_all}
use Rattle.search.proofs.commit.build_bars.Goals.{After-enter-bar, After-load-v}
use Rattle.search.proofs.commit.build_bars.Goals as goal

-- it is one of at most 64
bar-few : (c : After-enter-bar) → c.loop-b.b < 64
bar-few c =
    let h = c.requires.1 in
    omega (arith, few_bars h.committable.entry, h.committable.end_in, c.loop-b-test.true)

-- one of four carry states is carried into it
carry-few : (c : After-enter-bar) → c.loop-b.carry < 4
carry-few c =
    let loop = c.loop-b in
    let h = c.requires.1 in
    bar_carry h (loop.invariant _ h) loop.auto.b c.loop-b-test.true

entry : (c : After-load-v) (s : Sheet) → (let a = c.args in
    BarsBuildPre s a.plan.now a.units.now a.rows.now a.tree.now a.vectors.now a.roots.now a.start a.from
    a.end a.n) → let a = c.args in
    let loop = c.loop-b in
    let bar = c.enter-bar.result in
    BuildPre s a.plan.now a.units.now loop.rows loop.tree bar a.start 0 (units_of (20160 * loop.b)) bar.first
    loop.carry c.load-y.result c.load-v.result loop.next
entry c s h =
    let loop = c.loop-b in
    let below = c.loop-b-test.true in
    let is-bar = c.enter-bar.ensures s (bar_enter h.committable.entry loop.b (omega (arith, below, h.committable.end_in))) in
    bar_build h (loop.invariant s h) loop.auto.b below c.load-y.ensures c.load-v.ensures is-bar

pub loop-b-init : goal.loop-b-init
loop-b-init c =
    λ s h. in_bars_none h

pub enter-bar-requires : goal.enter-bar-requires
enter-bar-requires c =
    let h = c.requires.1 in
    (c.requires.0, bar_enter h.committable.entry c.loop-b.b (omega (arith, c.loop-b-test.true, h.committable.end_in)))

pub overflow_mul-b : goal.overflow_mul-b
overflow_mul-b c = record { fits = omega (arith, bar-few (goal.at.overflow_mul-b c).After-enter-bar) }

pub overflow_mul-carry : goal.overflow_mul-carry
overflow_mul-carry c = record { fits = omega (arith, carry-few (goal.at.overflow_mul-carry c).After-enter-bar) }

pub overflow_add-b : goal.overflow_add-b
overflow_add-b c =
    let at = (goal.at.overflow_add-b c).After-enter-bar in
    record { fits = omega (arith, bar-few at, carry-few at) }

pub load-y-requires : goal.load-y-requires
load-y-requires c =
    let loop = c.loop-b in
    let h = c.requires.1 in
    root_room h (loop.invariant _ h) loop.auto.b c.loop-b-test.true

pub overflow_cast-lo : goal.overflow_cast-lo
overflow_cast-lo c = omega (arith, bar-few (goal.at.overflow_cast-lo c).After-enter-bar)

pub overflow_mul-lo : goal.overflow_mul-lo
overflow_mul-lo c = record { fits = omega (arith, bar-few (goal.at.overflow_mul-lo c).After-enter-bar) }

pub overflow_add-b-in-loop-b : goal.overflow_add-b-in-loop-b
overflow_add-b-in-loop-b c = record { fits = omega (arith, bar-few (goal.at.overflow_add-b-in-loop-b c).After-enter-bar) }

pub overflow_mul-b-in-loop-b : goal.overflow_mul-b-in-loop-b
overflow_mul-b-in-loop-b c = record { fits = omega (arith, bar-few (goal.at.overflow_mul-b-in-loop-b c).After-enter-bar) }

pub load-v-requires : goal.load-v-requires
load-v-requires c =
    let loop = c.loop-b in
    let h = c.requires.1 in
    vector_room h (loop.invariant _ h) loop.auto.b c.loop-b-test.true

pub build-built-requires : goal.build-built-requires
build-built-requires c =
    (c.requires.0, entry (goal.at.build-built-requires c).After-load-v _ c.requires.1)

-- one bar more is built
pub loop-b-preserved : goal.loop-b-preserved
loop-b-preserved c =
    let loop = c.loop-b in
    let below = c.loop-b-test.true in
    λ s h. in_bars_more h (loop.invariant s h) loop.auto.b below c.load-y.ensures c.load-v.ensures
    {rows'' = c.build-built.new.rows} {then = c.build-built.new.tree}
    (c.build-built.ensures s (entry (goal.at.loop-b-preserved c).After-load-v s h))

pub shape_of-rows : goal.shape_of-rows
shape_of-rows c =
    let h = c.requires.1 in
    (c.loop-b.invariant _ h).sound.size ∙ sym h.committable.entry.sound.size

pub shape_of-tree : goal.shape_of-tree
shape_of-tree c =
    let h = c.requires.1 in
    ap length (c.loop-b.invariant _ h).partway.written ∙ length-over_from _ _ _

pub returns : goal.returns
returns c =
    let all : c.loop-b.b ≡ c.args.end = omega (arith, c.loop-b-test.false, c.loop-b.auto.b-end, c.requires.1.committable.rising) in
    λ s h. in_bars_all h (c.loop-b.invariant s h) all

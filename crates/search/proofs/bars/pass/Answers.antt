use mathlib.Core.Path.{◌≡◌, refl, sym, ◌∙◌}
use native.Mathlib.Omega.{arith}
use Rattle.sheet.specs.Sheet.{Sheet}
use Rattle.search.specs.Clauses.{PassPre, RootsTo, Rooted}
use Rattle.search.proofs.EnterSteps.{pass_few, pass_low, pass_again}
use Rattle.search.proofs.PassSteps.{totals_low, passing_none, passing_all, passing_room, passing_stored, passing_row}
use Rattle.search.proofs.PassSteps.{passing_more}
use Rattle.search.proofs.bars.pass.Goals.{After-root_row-y}
use Rattle.search.proofs.bars.pass.Goals as goal

rooted : (c : After-root_row-y) (s : Sheet) → (let a = c.args in
    PassPre s a.plan.now a.units.now a.rows.now a.bar a.start a.v) → (RootsTo s c.args.roots.now c.args.bar.number 0)
    → Rooted s c.root_row-y.new.rows c.args.bar.number c.loop-c.c c.root_row-y.result
rooted c s h are = c.root_row-y.ensures s (pass_again h (c.loop-c.invariant.1 s h are).taken.sound)

pub overflow_mul-at : goal.overflow_mul-at
overflow_mul-at c =
    record { fits = omega (arith, pass_few c.requires.1) }

pub loop-c-init : goal.loop-c-init
loop-c-init c = (refl, λ s h are. passing_none are h.sound)

pub root_row-y-requires : goal.root_row-y-requires
root_row-y-requires c =
    let h = c.requires.1 in
    let so_far = c.loop-c.invariant.1 _ h c.requires.2 in
    (c.loop-c-test.true, (c.requires.0, pass_again h so_far.taken.sound))

pub overflow_mul-c : goal.overflow_mul-c
overflow_mul-c c =
    record { fits = omega (arith, c.loop-c-test.true) }

pub overflow_add-at : goal.overflow_add-at
overflow_add-at c =
    record { fits = omega (arith, pass_few c.requires.1, c.loop-c-test.true) }

pub store-requires : goal.store-requires
store-requires c =
    let s = c.requires.0 in
    let h = c.requires.1 in
    let so_far = c.loop-c.invariant.1 s h c.requires.2 in
    let few = c.loop-c-test.true in
    let low = passing_row so_far few h.bar_in (rooted (goal.at.store-requires c).After-root_row-y s h c.requires.2) in
    (omega (arith, passing_room so_far few h.bar_in), omega arith, low)

pub offset_bounds-v-c : goal.offset_bounds-v-c
offset_bounds-v-c c =
    record { fits = omega (arith, c.loop-c-test.true) }

pub bounds-v-c : goal.bounds-v-c
bounds-v-c c =
    c.loop-c-test.true

pub relax-w-requires : goal.relax-w-requires
relax-w-requires c =
    let s = c.requires.0 in
    let h = c.requires.1 in
    let so_far = c.loop-c.invariant.1 s h c.requires.2 in
    let low = passing_row so_far c.loop-c-test.true h.bar_in (rooted (goal.at.relax-w-requires c).After-root_row-y s h c.requires.2) in
    (pass_low h c.loop-c.c, totals_low c.root_row-y.result low c.totals.ensures)

-- one row more is stored
pub loop-c-preserved : goal.loop-c-preserved
loop-c-preserved c =
    let loop = c.loop-c in
    let few = c.loop-c-test.true in
    let h = c.requires.1 in
    let so_far = loop.invariant.1 _ h c.requires.2 in
    let same = passing_stored so_far few h.bar_in c.root_row-y.result c.store.ensures in (
      same ∙ loop.invariant.0,
      λ s h are.
          passing_more (loop.invariant.1 s h are) few h.bar_in (rooted (goal.at.loop-c-preserved c).After-root_row-y s h are)
          h.prepared.good h.before c.totals.ensures c.relax-w.ensures c.store.ensures,
    )

pub shape_of-rows : goal.shape_of-rows
shape_of-rows c =
    let h = c.requires.1 in
    (c.loop-c.invariant.1 _ h c.requires.2).taken.sound.size ∙ sym h.sound.size

pub shape_of-roots : goal.shape_of-roots
shape_of-roots c = c.loop-c.invariant.0

pub returns : goal.returns
returns c =
    let loop = c.loop-c in
    let all : loop.c ≡ 4 = omega (arith, c.loop-c-test.false) in
    λ s h are. passing_all all h.before (loop.invariant.1 s h are)

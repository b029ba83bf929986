-- `build` and `build_parts` meet their contracts, as one cycle of calls. The measure is twice the interval's length, and one more for the
-- parts: a division's parts are shorter than its interval. The invariant of the loop over the parts: the first j parts are built
-- (`InParts`), and `lo` is the left bound of the next. The needs of each member are met in a file of its own. Assumes nothing.
use mathlib.Core.List.{[]}
use Prim.Native.Nat.{ℕ, ◌+◌, ◌%◌, ◌≤◌}
use mathlib.Core.Path.{sym, ap, ◌∙◌, ◌≡◌}
use mathlib.Core.List.{◌∷◌}
use native.Mathlib.Omega.{arith}
use lib.ListN.{length, set, drop}
use Rattle.slices.specs.Over.{length-over_from}
use Rattle.sheet.specs.Sheet.{Sheet}
use Rattle.plan.specs.Plan.{Divides}
use Rattle.rows.specs.Slots.{item_at}
use Rattle.building.specs.Clauses.{at, BuiltAs, BuildPre, PartsBuildPre, SuffixPre, SuffixCosts}
use Rattle.building.proofs.BuildSteps.{build_room, build_low, build_length, build_here, late_placed, build_chosen, built_leaf}
use Rattle.building.proofs.BuildSteps.{build_parts_entry, built_division, parts_shorter}
use Rattle.sheet.specs.Held.{units as units_of}
use Rattle.expansions.specs.Tables.{last_unit}
use Rattle.expansions.specs.Items.{first_at}
use Rattle.rows.specs.Rows.{Entry, Row, parts_at}
use Rattle.rows.specs.PartLaws.{rule_below, parts-length, parts_eight}
use Rattle.building.proofs.PartSteps.{in_parts_none, part_near, part_entry, part_behind, part_build, in_parts_more, in_parts_all}
use Rattle.building.proofs.+build_build_parts.Goals.{build-After-build_parts, build-In-Some, build_parts-After-child-q}
use Rattle.building.proofs.+build_build_parts.Goals.{build_parts-After-suffix_costs-w, build_parts-After-totals-x}
use Rattle.building.proofs.+build_build_parts.Goals as goal

-- ---- build

-- it is a division
divides : (t : ℕ) (c : build-In-Some t) (s : Sheet) → (let a = c.args in
    BuildPre s a.plan.now a.units.now a.rows.now a.tree.now a.bar a.q a.l a.left a.from a.c a.y
    a.v a.to)
    → Divides s c.args.q c.args.l (c.least_cell.result % 64) c.in-Some.split.arity c.in-Some.split.part
divides t c s h = c.in-Some.ensures.1 s h.entry.stands.in_bar_lem.prepared h.entry.stands.length_in

entry : (t : ℕ) (c : build-In-Some t) (s : Sheet) → (let a = c.args in
    BuildPre s a.plan.now a.units.now a.rows.now a.tree.now a.bar a.q a.l a.left a.from a.c a.y
    a.v a.to)
    → let a = c.args in
    let rule = (c.least_cell.result % 64) in
    let p = c.in-Some.split in
    PartsBuildPre s a.plan.now a.units.now a.rows.now (set a.tree.now a.to rule) a.bar rule p.arity p.part
    a.left a.from a.c a.v (a.to + 1)
entry t c s h = build_parts_entry h _ (build_chosen h _ c.least_cell.ensures) c.in-Some.split (divides t c s h)

built : (t : ℕ) (c : build-After-build_parts t) (s : Sheet) → (let a = c.args in
    BuildPre s a.plan.now a.units.now a.rows.now a.tree.now a.bar a.q a.l a.left a.from a.c a.y
    a.v a.to)
    → let a = c.args in
    BuiltAs s c.build_parts.new.rows a.tree.now c.build_parts.new.tree (item_at s a.q a.l a.left ∷ [])
    (at a.v) a.c a.to c.build_parts.result
built t c s h =
    let rule = c.least_cell.result % 64 in
    let chosen-here = build_chosen h _ c.least_cell.ensures in
    let divides-here = c.in-Some.ensures.1 s h.entry.stands.in_bar_lem.prepared h.entry.stands.length_in in
    built_division h rule chosen-here c.in-Some.split divides-here c.build_parts.new.rows c.build_parts.new.tree c.build_parts.result
    (c.build_parts.ensures s (build_parts_entry h rule chosen-here c.in-Some.split divides-here))

pub build-least_cell-requires : goal.build-least_cell-requires
build-least_cell-requires t c =
    let h = c.requires.1 in
    (build_low h, h.low)

pub build-overflow_cast-tree : goal.build-overflow_cast-tree
build-overflow_cast-tree t c = omega arith

pub build-bounds-tree-to : goal.build-bounds-tree-to
build-bounds-tree-to t c = build_room c.requires.1

pub build-split_at-requires : goal.build-split_at-requires
build-split_at-requires t c = (omega arith, build_length c.requires.1)

pub build-length-requires : goal.build-length-requires
build-length-requires t c =
    let h = c.requires.1 in
    (build_length h, (c.requires.0, h.entry.stands.in_bar_lem.prepared))

pub build-place-placed-requires : goal.build-place-placed-requires
build-place-placed-requires t c =
    (c.requires.0, build_here c.requires.1 c.length.result.0 c.length.ensures)

pub build-overflow_add-result : goal.build-overflow_add-result
build-overflow_add-result t c =
    omega (arith, build_room c.requires.1, c.slice_known-2-1.given c.args.to)

-- a leaf
pub build-returns-in_default : goal.build-returns-in_default
build-returns-in_default t c =
    let len = c.length.result.0 in
    λ s h.
    let late = late_placed h len c.length.ensures _ (c.place-placed.ensures s (build_here h len c.length.ensures)) in
    let idle = c.in_default.ensures.1 s h.entry.stands.in_bar_lem.prepared h.entry.stands.length_in in
    built_leaf h _ (build_chosen h _ c.least_cell.ensures) idle _ late

pub build-overflow_add-to : goal.build-overflow_add-to
build-overflow_add-to t c =
    omega (arith, build_room c.requires.1, c.slice_known-2-1.given c.args.to)

-- the parts are shorter than the interval
pub build-build_parts-requires : goal.build-build_parts-requires
build-build_parts-requires t c =
    let s = c.requires.0 in
    let h = c.requires.1 in
    let some-here = (goal.at.build-build_parts-requires t c).In-Some in
    let shorter = parts_shorter h _ (build_chosen h _ c.least_cell.ensures) c.in-Some.split (divides t some-here s h) in
    (omega (arith, shorter), (s, entry t some-here s h))

pub build-shape_of-rows : goal.build-shape_of-rows
build-shape_of-rows t c =
    let h = c.requires.1 in
    (built t (goal.at.build-shape_of-rows t c).After-build_parts _ h).sound.size ∙ sym h.entry.sound.size

pub build-shape_of-tree : goal.build-shape_of-tree
build-shape_of-tree t c =
    let h = c.requires.1 in
    ap length (built t (goal.at.build-shape_of-tree t c).After-build_parts _ h).written ∙ length-over_from _ _ _

-- a division
pub build-returns : goal.build-returns
build-returns t c = λ s h. built t (goal.at.build-returns t c).After-build_parts s h

-- ---- build_parts

near : (t : ℕ) (c : build_parts-After-child-q t) (s : Sheet) → (let a = c.args in
    PartsBuildPre s a.plan.now a.units.now a.rows.now a.tree.now a.bar a.r a.k a.l a.left a.from
    a.c a.v a.to) → (c.loop-j.lo + c.length-len.result.0) ≤ last_unit
near t c s h =
    part_near h (c.loop-j.invariant.1 s h) c.loop-j-test.true c.length-len.ensures c.loop-j.invariant.0

-- its row may be asked for
cells_entry : (t : ℕ) (c : build_parts-After-child-q t) (s : Sheet) → (let a = c.args in
    PartsBuildPre s a.plan.now a.units.now a.rows.now a.tree.now a.bar a.r a.k a.l a.left a.from
    a.c a.v a.to) → let a = c.args in
    let loop = c.loop-j in
    Entry s a.plan.now a.units.now loop.rows a.bar c.child-q.result a.l (units_of loop.lo) loop.at loop.carry
cells_entry t c s h =
    part_entry h (c.loop-j.invariant.1 s h) c.loop-j-test.true c.length-len.ensures c.loop-j.invariant.0
    c.child-q.ensures

first-is : (t : ℕ) (c : build_parts-After-totals-x t) (s : Sheet) → (let a = c.args in
    PartsBuildPre s a.plan.now a.units.now a.rows.now a.tree.now a.bar a.r a.k a.l a.left a.from
    a.c a.v a.to) → c.first_behind-then.result ≡ first_at s ((c.loop-j.lo + c.length-len.result.0))
first-is t c s h =
    let near-here : (s : Sheet) → (let a = c.args in
    PartsBuildPre s a.plan.now a.units.now a.rows.now a.tree.now a.bar a.r a.k a.l a.left a.from
    a.c a.v a.to) → (c.loop-j.lo + c.length-len.result.0) ≤ last_unit =
    λ s h. part_near h (c.loop-j.invariant.1 s h) c.loop-j-test.true c.length-len.ensures c.loop-j.invariant.0 in
    c.first_behind-then.ensures s c.loop-j.lo h.parts.in_bar_lem.onsets
    (c.loop-j.invariant.1 s h).first (omega arith) (omega (arith, near-here s h))

row : (t : ℕ) (c : build_parts-After-totals-x t) (s : Sheet) → (let a = c.args in
    PartsBuildPre s a.plan.now a.units.now a.rows.now a.tree.now a.bar a.r a.k a.l a.left a.from
    a.c a.v a.to) → let loop = c.loop-j in
    let cells = c.cells-y in
    Row s cells.new.rows (item_at s c.child-q.result c.args.l (units_of loop.lo)) loop.carry
    cells.result
row t c s h =
    let cells_entry-here : (s : Sheet) → (let a = c.args in
    PartsBuildPre s a.plan.now a.units.now a.rows.now a.tree.now a.bar a.r a.k a.l a.left a.from
    a.c a.v a.to) → let a = c.args in
    let loop = c.loop-j in
    Entry s a.plan.now a.units.now loop.rows a.bar c.child-q.result a.l (units_of loop.lo) loop.at loop.carry =
    λ s h. part_entry h (c.loop-j.invariant.1 s h) c.loop-j-test.true c.length-len.ensures c.loop-j.invariant.0
    c.child-q.ensures in
    c.cells-y.ensures s (cells_entry-here s h)

-- the suffix costs behind it may be asked for
suffix-costs-entry : (t : ℕ) (c : build_parts-After-totals-x t) (s : Sheet) → (let a = c.args in
    PartsBuildPre s a.plan.now a.units.now a.rows.now a.tree.now a.bar a.r a.k a.l a.left a.from
    a.c a.v a.to) → let a = c.args in
    let loop = c.loop-j in
    SuffixPre s a.plan.now a.units.now c.cells-y.new.rows a.bar a.r (loop.j + 1) a.k
    a.l (units_of ((c.loop-j.lo + c.length-len.result.0))) (c.first_behind-then.result) 0 c.totals-x.result a.v
suffix-costs-entry t c s h =
    let cells_entry-here : (s : Sheet) → (let a = c.args in
    PartsBuildPre s a.plan.now a.units.now a.rows.now a.tree.now a.bar a.r a.k a.l a.left a.from
    a.c a.v a.to) → let a = c.args in
    let loop = c.loop-j in
    Entry s a.plan.now a.units.now loop.rows a.bar c.child-q.result a.l (units_of loop.lo) loop.at loop.carry =
    λ s h. part_entry h (c.loop-j.invariant.1 s h) c.loop-j-test.true c.length-len.ensures c.loop-j.invariant.0
    c.child-q.ensures in
    let row-here : (s : Sheet) → (let a = c.args in
    PartsBuildPre s a.plan.now a.units.now a.rows.now a.tree.now a.bar a.r a.k a.l a.left a.from
    a.c a.v a.to) → let loop = c.loop-j in
    let cells = c.cells-y in
    Row s cells.new.rows (item_at s c.child-q.result c.args.l (units_of loop.lo)) loop.carry
    cells.result =
    λ s h. c.cells-y.ensures s (cells_entry-here s h) in
    let near-here : (s : Sheet) → (let a = c.args in
    PartsBuildPre s a.plan.now a.units.now a.rows.now a.tree.now a.bar a.r a.k a.l a.left a.from
    a.c a.v a.to) → (c.loop-j.lo + c.length-len.result.0) ≤ last_unit =
    λ s h. part_near h (c.loop-j.invariant.1 s h) c.loop-j-test.true c.length-len.ensures c.loop-j.invariant.0 in
    let first-is-here : (s : Sheet) → (let a = c.args in
    PartsBuildPre s a.plan.now a.units.now a.rows.now a.tree.now a.bar a.r a.k a.l a.left a.from
    a.c a.v a.to) → c.first_behind-then.result ≡ first_at s ((c.loop-j.lo + c.length-len.result.0)) =
    λ s h. c.first_behind-then.ensures s c.loop-j.lo h.parts.in_bar_lem.onsets
    (c.loop-j.invariant.1 s h).first (omega arith) (omega (arith, near-here s h)) in
    part_behind h (c.loop-j.invariant.1 s h) c.loop-j-test.true c.length-len.ensures
    c.loop-j.invariant.0 c.child-q.ensures (row-here s h) c.totals-x.ensures (first-is-here s h)

vector : (t : ℕ) (c : build_parts-After-suffix_costs-w t) (s : Sheet) (h : (let a = c.args in
    PartsBuildPre s a.plan.now a.units.now a.rows.now a.tree.now a.bar a.r a.k a.l a.left a.from
    a.c a.v a.to)) → let a = c.args in
    SuffixCosts s c.suffix_costs-w.new.rows
    (parts_at s a.l (units_of ((c.loop-j.lo + c.length-len.result.0))) (drop (c.loop-j.j + 1)
    h.parts.divides.parts)) c.totals-x.result a.v c.suffix_costs-w.result
vector t c s h =
    let cells_entry-here : (s : Sheet) → (let a = c.args in
    PartsBuildPre s a.plan.now a.units.now a.rows.now a.tree.now a.bar a.r a.k a.l a.left a.from
    a.c a.v a.to) → let a = c.args in
    let loop = c.loop-j in
    Entry s a.plan.now a.units.now loop.rows a.bar c.child-q.result a.l (units_of loop.lo) loop.at loop.carry =
    λ s h. part_entry h (c.loop-j.invariant.1 s h) c.loop-j-test.true c.length-len.ensures c.loop-j.invariant.0
    c.child-q.ensures in
    let row-here : (s : Sheet) → (let a = c.args in
    PartsBuildPre s a.plan.now a.units.now a.rows.now a.tree.now a.bar a.r a.k a.l a.left a.from
    a.c a.v a.to) → let loop = c.loop-j in
    let cells = c.cells-y in
    Row s cells.new.rows (item_at s c.child-q.result c.args.l (units_of loop.lo)) loop.carry
    cells.result =
    λ s h. c.cells-y.ensures s (cells_entry-here s h) in
    let near-here : (s : Sheet) → (let a = c.args in
    PartsBuildPre s a.plan.now a.units.now a.rows.now a.tree.now a.bar a.r a.k a.l a.left a.from
    a.c a.v a.to) → (c.loop-j.lo + c.length-len.result.0) ≤ last_unit =
    λ s h. part_near h (c.loop-j.invariant.1 s h) c.loop-j-test.true c.length-len.ensures c.loop-j.invariant.0 in
    let first-is-here : (s : Sheet) → (let a = c.args in
    PartsBuildPre s a.plan.now a.units.now a.rows.now a.tree.now a.bar a.r a.k a.l a.left a.from
    a.c a.v a.to) → c.first_behind-then.result ≡ first_at s ((c.loop-j.lo + c.length-len.result.0)) =
    λ s h. c.first_behind-then.ensures s c.loop-j.lo h.parts.in_bar_lem.onsets
    (c.loop-j.invariant.1 s h).first (omega arith) (omega (arith, near-here s h)) in
    let suffix-costs-entry-here : (s : Sheet) → (let a = c.args in
    PartsBuildPre s a.plan.now a.units.now a.rows.now a.tree.now a.bar a.r a.k a.l a.left a.from
    a.c a.v a.to) → let a = c.args in
    let loop = c.loop-j in
    SuffixPre s a.plan.now a.units.now c.cells-y.new.rows a.bar a.r (loop.j + 1) a.k
    a.l (units_of ((c.loop-j.lo + c.length-len.result.0))) (c.first_behind-then.result) 0 c.totals-x.result a.v =
    λ s h. part_behind h (c.loop-j.invariant.1 s h) c.loop-j-test.true c.length-len.ensures
    c.loop-j.invariant.0 c.child-q.ensures (row-here s h) c.totals-x.ensures (first-is-here s h) in
    c.suffix_costs-w.ensures s (suffix-costs-entry-here s h)

-- it may be built
build-entry : (t : ℕ) (c : build_parts-After-suffix_costs-w t) (s : Sheet) → (let a = c.args in
    PartsBuildPre s a.plan.now a.units.now a.rows.now a.tree.now a.bar a.r a.k a.l a.left a.from
    a.c a.v a.to) → let a = c.args in
    let loop = c.loop-j in
    BuildPre s a.plan.now a.units.now c.suffix_costs-w.new.rows loop.tree a.bar c.child-q.result a.l
    (units_of loop.lo) loop.at loop.carry c.cells-y.result c.suffix_costs-w.result
    loop.next
build-entry t c s h =
    let cells_entry-here : (s : Sheet) → (let a = c.args in
    PartsBuildPre s a.plan.now a.units.now a.rows.now a.tree.now a.bar a.r a.k a.l a.left a.from
    a.c a.v a.to) → let a = c.args in
    let loop = c.loop-j in
    Entry s a.plan.now a.units.now loop.rows a.bar c.child-q.result a.l (units_of loop.lo) loop.at loop.carry =
    λ s h. part_entry h (c.loop-j.invariant.1 s h) c.loop-j-test.true c.length-len.ensures c.loop-j.invariant.0
    c.child-q.ensures in
    let row-here : (s : Sheet) → (let a = c.args in
    PartsBuildPre s a.plan.now a.units.now a.rows.now a.tree.now a.bar a.r a.k a.l a.left a.from
    a.c a.v a.to) → let loop = c.loop-j in
    let cells = c.cells-y in
    Row s cells.new.rows (item_at s c.child-q.result c.args.l (units_of loop.lo)) loop.carry
    cells.result =
    λ s h. c.cells-y.ensures s (cells_entry-here s h) in
    let near-here : (s : Sheet) → (let a = c.args in
    PartsBuildPre s a.plan.now a.units.now a.rows.now a.tree.now a.bar a.r a.k a.l a.left a.from
    a.c a.v a.to) → (c.loop-j.lo + c.length-len.result.0) ≤ last_unit =
    λ s h. part_near h (c.loop-j.invariant.1 s h) c.loop-j-test.true c.length-len.ensures c.loop-j.invariant.0 in
    let first-is-here : (s : Sheet) → (let a = c.args in
    PartsBuildPre s a.plan.now a.units.now a.rows.now a.tree.now a.bar a.r a.k a.l a.left a.from
    a.c a.v a.to) → c.first_behind-then.result ≡ first_at s ((c.loop-j.lo + c.length-len.result.0)) =
    λ s h. c.first_behind-then.ensures s c.loop-j.lo h.parts.in_bar_lem.onsets
    (c.loop-j.invariant.1 s h).first (omega arith) (omega (arith, near-here s h)) in
    let suffix-costs-entry-here : (s : Sheet) → (let a = c.args in
    PartsBuildPre s a.plan.now a.units.now a.rows.now a.tree.now a.bar a.r a.k a.l a.left a.from
    a.c a.v a.to) → let a = c.args in
    let loop = c.loop-j in
    SuffixPre s a.plan.now a.units.now c.cells-y.new.rows a.bar a.r (loop.j + 1) a.k
    a.l (units_of ((c.loop-j.lo + c.length-len.result.0))) (c.first_behind-then.result) 0 c.totals-x.result a.v =
    λ s h. part_behind h (c.loop-j.invariant.1 s h) c.loop-j-test.true c.length-len.ensures
    c.loop-j.invariant.0 c.child-q.ensures (row-here s h) c.totals-x.ensures (first-is-here s h) in
    let vector-here : (s : Sheet) (h : (let a = c.args in
    PartsBuildPre s a.plan.now a.units.now a.rows.now a.tree.now a.bar a.r a.k a.l a.left a.from
    a.c a.v a.to)) → let a = c.args in
    SuffixCosts s c.suffix_costs-w.new.rows
    (parts_at s a.l (units_of ((c.loop-j.lo + c.length-len.result.0))) (drop (c.loop-j.j + 1)
    h.parts.divides.parts)) c.totals-x.result a.v c.suffix_costs-w.result =
    λ s h. c.suffix_costs-w.ensures s (suffix-costs-entry-here s h) in
    part_build h (c.loop-j.invariant.1 s h) c.loop-j-test.true c.length-len.ensures
    c.loop-j.invariant.0 c.child-q.ensures (row-here s h) c.totals-x.ensures (first-is-here s h)
    (vector-here s h)

pub build_parts-length-len-requires : goal.build_parts-length-len-requires
build_parts-length-len-requires t c =
    let h = c.requires.1 in
    (parts-length h.parts, (c.requires.0, h.parts.in_bar_lem.prepared))

pub build_parts-loop-j-init : goal.build_parts-loop-j-init
build_parts-loop-j-init t c = (omega arith, λ s h. in_parts_none h)

pub build_parts-child-q-requires : goal.build_parts-child-q-requires
build_parts-child-q-requires t c =
    let h = c.requires.1 in
    (rule_below h.parts, omega (arith, c.loop-j-test.true, parts_eight h.parts))

pub build_parts-overflow_add-end : goal.build_parts-overflow_add-end
build_parts-overflow_add-end t c = omega (arith, near t (goal.at.build_parts-overflow_add-end t c).After-child-q _ c.requires.1)

pub build_parts-first_behind-then-requires : goal.build_parts-first_behind-then-requires
build_parts-first_behind-then-requires t c =
    let s = c.requires.0 in
    let h = c.requires.1 in (
      s,
      c.loop-j.lo,
      h.parts.in_bar_lem.onsets,
      (c.loop-j.invariant.1 s h).first,
      omega arith,
      omega (arith, near t (goal.at.build_parts-first_behind-then-requires t c).After-child-q s h),
    )

pub build_parts-cells-y-requires : goal.build_parts-cells-y-requires
build_parts-cells-y-requires t c =
    (c.requires.0, cells_entry t (goal.at.build_parts-cells-y-requires t c).After-child-q _ c.requires.1)

pub build_parts-suffix_costs-w-requires : goal.build_parts-suffix_costs-w-requires
build_parts-suffix_costs-w-requires t c =
    (c.requires.0, suffix-costs-entry t (goal.at.build_parts-suffix_costs-w-requires t c).After-totals-x _ c.requires.1)

-- a part's measure is one less
pub build_parts-build-b-requires : goal.build_parts-build-b-requires
build_parts-build-b-requires t c =
    (omega arith, (c.requires.0, build-entry t (goal.at.build_parts-build-b-requires t c).After-suffix_costs-w _ c.requires.1))

-- one part more is built
pub build_parts-loop-j-preserved : goal.build_parts-loop-j-preserved
build_parts-loop-j-preserved t c =
    let more = c.loop-j-test.true in (
      omega (arith, c.loop-j.invariant.0),
      λ s h. in_parts_more h (c.loop-j.invariant.1 s h) more c.length-len.ensures c.loop-j.invariant.0
          c.child-q.ensures (row t (goal.at.build_parts-loop-j-preserved t c).After-totals-x s h) c.totals-x.ensures
          (first-is t (goal.at.build_parts-loop-j-preserved t c).After-totals-x s h)
          (vector t (goal.at.build_parts-loop-j-preserved t c).After-suffix_costs-w s h)
          {rows'''' = c.build-b.new.rows} {then = c.build-b.new.tree}
          (c.build-b.ensures s (build-entry t (goal.at.build_parts-loop-j-preserved t c).After-suffix_costs-w s h)),
    )

pub build_parts-shape_of-rows : goal.build_parts-shape_of-rows
build_parts-shape_of-rows t c =
    let h = c.requires.1 in
    (c.loop-j.invariant.1 _ h).sound.size ∙ sym h.parts.sound.size

pub build_parts-shape_of-tree : goal.build_parts-shape_of-tree
build_parts-shape_of-tree t c =
    let h = c.requires.1 in
    ap length (c.loop-j.invariant.1 _ h).partway.written ∙ length-over_from _ _ _

pub build_parts-returns : goal.build_parts-returns
build_parts-returns t c = λ s h. in_parts_all h (c.loop-j.invariant.1 s h) (omega (arith, c.loop-j-test.false))

-- `suffix_costs` meets its contract: the vector itself behind the last part, or what `passed` gives of each carry state, one after the
-- other. The table stays sound from one to the next (`suffix_from`). Assumes nothing.
-- ---- places
-- ---- what each call gives, of a sheet s
-- ---- the needs
use mathlib.Core.Path.{sym, ◌∙◌}
use native.Mathlib.Omega.{arith}
use lib.ListN.{drop}
use Rattle.sheet.specs.Sheet.{Sheet}
use Rattle.rows.specs.Rows.{parts_at}
use Rattle.building.specs.Clauses.{SuffixPre, PassedAs}
use Rattle.building.proofs.SuffixSteps.{suffix_from, suffix_none, suffix_four}
use Rattle.building.proofs.suffix_costs.Goals.{After-passed-a, After-passed-b, After-passed-c, After-passed-d}
use Rattle.building.proofs.suffix_costs.Goals as goal

zero : (c : After-passed-a) (s : Sheet) (h : (let a = c.args in
    SuffixPre s a.plan.now a.units.now a.rows.now a.bar a.r a.i a.k a.l a.left a.from 0 a.y a.v))
    → (let a = c.args in
    PassedAs s c.passed-a.new.rows (parts_at s a.l a.left (drop a.i h.parts.divides.parts)) a.y a.v 0 c.passed-a.result)
zero c s h = c.passed-a.ensures s h

one : (c : After-passed-b) (s : Sheet) (h : (let a = c.args in
    SuffixPre s a.plan.now a.units.now a.rows.now a.bar a.r a.i a.k a.l a.left a.from 0 a.y a.v))
    → (let a = c.args in
    PassedAs s c.passed-b.new.rows (parts_at s a.l a.left (drop a.i h.parts.divides.parts)) a.y a.v 1 c.passed-b.result)
one c s h =
    let zero-here : (s : Sheet) (h : (let a = c.args in
    SuffixPre s a.plan.now a.units.now a.rows.now a.bar a.r a.i a.k a.l a.left a.from 0 a.y a.v))
    → (let a = c.args in
    PassedAs s c.passed-a.new.rows (parts_at s a.l a.left (drop a.i h.parts.divides.parts)) a.y a.v 0 c.passed-a.result) =
    λ s h. c.passed-a.ensures s h in
    c.passed-b.ensures s (suffix_from h _ 1 (omega arith) (zero-here s h).sound)

two : (c : After-passed-c) (s : Sheet) (h : (let a = c.args in
    SuffixPre s a.plan.now a.units.now a.rows.now a.bar a.r a.i a.k a.l a.left a.from 0 a.y a.v))
    → (let a = c.args in
    PassedAs s c.passed-c.new.rows (parts_at s a.l a.left (drop a.i h.parts.divides.parts)) a.y a.v 2 c.passed-c.result)
two c s h =
    let zero-here : (s : Sheet) (h : (let a = c.args in
    SuffixPre s a.plan.now a.units.now a.rows.now a.bar a.r a.i a.k a.l a.left a.from 0 a.y a.v))
    → (let a = c.args in
    PassedAs s c.passed-a.new.rows (parts_at s a.l a.left (drop a.i h.parts.divides.parts)) a.y a.v 0 c.passed-a.result) =
    λ s h. c.passed-a.ensures s h in
    let one-here : (s : Sheet) (h : (let a = c.args in
    SuffixPre s a.plan.now a.units.now a.rows.now a.bar a.r a.i a.k a.l a.left a.from 0 a.y a.v))
    → (let a = c.args in
    PassedAs s c.passed-b.new.rows (parts_at s a.l a.left (drop a.i h.parts.divides.parts)) a.y a.v 1 c.passed-b.result) =
    λ s h. c.passed-b.ensures s (suffix_from h _ 1 (omega arith) (zero-here s h).sound) in
    c.passed-c.ensures s (suffix_from h _ 2 (omega arith) (one-here s h).sound)

three : (c : After-passed-d) (s : Sheet) (h : (let a = c.args in
    SuffixPre s a.plan.now a.units.now a.rows.now a.bar a.r a.i a.k a.l a.left a.from 0 a.y a.v))
    → (let a = c.args in
    PassedAs s c.passed-d.new.rows (parts_at s a.l a.left (drop a.i h.parts.divides.parts)) a.y a.v 3 c.passed-d.result)
three c s h =
    let zero-here : (s : Sheet) (h : (let a = c.args in
    SuffixPre s a.plan.now a.units.now a.rows.now a.bar a.r a.i a.k a.l a.left a.from 0 a.y a.v))
    → (let a = c.args in
    PassedAs s c.passed-a.new.rows (parts_at s a.l a.left (drop a.i h.parts.divides.parts)) a.y a.v 0 c.passed-a.result) =
    λ s h. c.passed-a.ensures s h in
    let one-here : (s : Sheet) (h : (let a = c.args in
    SuffixPre s a.plan.now a.units.now a.rows.now a.bar a.r a.i a.k a.l a.left a.from 0 a.y a.v))
    → (let a = c.args in
    PassedAs s c.passed-b.new.rows (parts_at s a.l a.left (drop a.i h.parts.divides.parts)) a.y a.v 1 c.passed-b.result) =
    λ s h. c.passed-b.ensures s (suffix_from h _ 1 (omega arith) (zero-here s h).sound) in
    let two-here : (s : Sheet) (h : (let a = c.args in
    SuffixPre s a.plan.now a.units.now a.rows.now a.bar a.r a.i a.k a.l a.left a.from 0 a.y a.v))
    → (let a = c.args in
    PassedAs s c.passed-c.new.rows (parts_at s a.l a.left (drop a.i h.parts.divides.parts)) a.y a.v 2 c.passed-c.result) =
    λ s h. c.passed-c.ensures s (suffix_from h _ 2 (omega arith) (one-here s h).sound) in
    c.passed-d.ensures s (suffix_from h _ 3 (omega arith) (two-here s h).sound)

-- no part is left
pub returns-then-k-i : goal.returns-then-k-i
returns-then-k-i c = let taken = c.if-k-i.true in λ s h. suffix_none h taken

pub passed-a-requires : goal.passed-a-requires
passed-a-requires c =
    (omega (arith, c.if-k-i.false), c.requires)

pub passed-b-requires : goal.passed-b-requires
passed-b-requires c =
    let h = c.requires.1 in
    (omega (arith, c.if-k-i.false), (_, suffix_from h _ 1 (omega arith) (zero (goal.at.passed-b-requires c).After-passed-a _ h).sound))

pub passed-c-requires : goal.passed-c-requires
passed-c-requires c =
    let h = c.requires.1 in
    (omega (arith, c.if-k-i.false), (_, suffix_from h _ 2 (omega arith) (one (goal.at.passed-c-requires c).After-passed-b _ h).sound))

pub passed-d-requires : goal.passed-d-requires
passed-d-requires c =
    let h = c.requires.1 in
    (omega (arith, c.if-k-i.false), (_, suffix_from h _ 3 (omega arith) (two (goal.at.passed-d-requires c).After-passed-c _ h).sound))

pub shape_of-rows : goal.shape_of-rows
shape_of-rows c =
    let h = c.requires.1 in
    (three (goal.at.shape_of-rows c).After-passed-d _ h).sound.size ∙ sym h.parts.sound.size

-- the four are the vector
pub returns : goal.returns
returns c =
    λ s h. suffix_four (zero (goal.at.returns c).After-passed-a s h) (one (goal.at.returns c).After-passed-b s h) (two (goal.at.returns c).After-passed-c s h) (three (goal.at.returns c).After-passed-d s h)

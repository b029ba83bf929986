-- `read_tree` and `read_forest` meet their contracts, as one cycle of calls. The measure is twice the interval's length, and one more for a
-- row: a row's intervals are entered with a smaller measure, and a division's parts are shorter than its interval. The invariant of the
-- loop over a row: the first `j` intervals are read (`InRow`), and `left` is the left bound of the next. The needs of each member are met
-- in a file of its own. Assumes nothing.
use Prim.Native.Nat.{ℕ, ◌+◌, ◌≤◌, ◌<◌}
use mathlib.Core.Path.{◌≡◌, ap, ◌∙◌}
use Rattle.std.proofs.Common.{Some}
use native.Mathlib.Omega.{arith}
use borrow.Author.Rules.{rules}
use lib.ListN.{length, get_or}
use Rattle.sheet.specs.Sheet.{Sheet}
use Rattle.expansions.specs.Items.{item_of, LeafMade, DivisionMade}
use Rattle.pricing.specs.Clauses.{Room, ItemPre}
use Rattle.pricing.proofs.ForestSteps.{row_none, row_all, next_within, row_item, row_more, row_stuck}
use Rattle.pricing.proofs.TreeSteps.{item_at_lem, children_length, list_ends, leaf_told, division_told, rule_refused, leaf_room}
use Rattle.pricing.proofs.TreeSteps.{leaf_walked, parts_fall, arity_small, rule_room, kids_are, parts_entry, parts_walked}
use Rattle.pricing.proofs.+read_forest_read_tree.Goals.{read_tree-After-expand, read_tree-In-Division, read_tree-In-Leaf}
use Rattle.pricing.proofs.+read_forest_read_tree.Goals as goal

-- ---- read_forest

pub read_forest-loop-kid-init : goal.read_forest-loop-kid-init
read_forest-loop-kid-init t c = (omega arith, λ s h. row_none h)

-- an interval's measure is one less
pub read_forest-read_tree-requires : goal.read_forest-read_tree-requires
read_forest-read_tree-requires t c =
    let l = c.loop-kid in
    let h = c.requires.1 in
    let item = row_item h l.kid-index l.left l.next (l.invariant.1 _ h) c.loop-kid-test.true l.invariant.0 in
    (omega arith, (c.requires.0, item))

pub read_forest-overflow_add-left : goal.read_forest-overflow_add-left
read_forest-overflow_add-left t c =
    let l = c.loop-kid in
    let h = c.requires.1 in
    let near = next_within h l.kid-index l.left l.next (l.invariant.1 _ h) c.loop-kid-test.true l.invariant.0 in
    record { fits = omega arith }

-- the next interval has no tree
pub read_forest-returns-in_err-next : goal.read_forest-returns-in_err-next
read_forest-returns-in_err-next t c =
    let l = c.loop-kid in
    λ s h. rw c.from_residual.ensures (row_stuck h l.kid-index l.left l.next (l.invariant.1 s h) c.loop-kid-test.true l.invariant.0
    c.read_tree.result (c.read_tree.ensures s) c.in_err-next.was)

pub read_forest-loop-kid-preserved : goal.read_forest-loop-kid-preserved
read_forest-loop-kid-preserved t c =
    let l = c.loop-kid in
    let more = c.loop-kid-test.true in (
      omega arith,
      λ s h. row_more h l.kid-index l.left l.next (l.invariant.1 s h) more l.invariant.0 c.read_tree.result _
          (c.read_tree.ensures s) c.in_ok-next.was,
    )

-- all are read
pub read_forest-returns : goal.read_forest-returns
read_forest-returns t c =
    let l = c.loop-kid in
    λ s h. row_all h l.kid-index l.next (l.invariant.1 s h) (omega (arith, c.loop-kid-test.false)) (omega arith)

-- ---- read_tree

-- the list has a rule there
some_rule : (t : ℕ) (c : read_tree-After-expand t) → c.args.p.at < length c.args.list.now
some_rule t c = omega (arith, c.if-list-at.false)

-- it is a leaf rule, and the sums behind it fit
leaf_made : (t : ℕ) (c : read_tree-In-Leaf t) (s : Sheet) → (let a = c.args in
    ItemPre s a.rules.now a.children.now a.units.now a.list.now a.over a.p) → let a = c.args in
    LeafMade s (item_of a.nonterminal a.over) a.p.carried (get_or a.list.now a.p.at 0) c.in-Leaf.weight c.in-Leaf.early c.in-Leaf.late
    c.in-Leaf.distance
leaf_made t c s h =
    let some_rule-here : c.args.p.at < length c.args.list.now =
    omega (arith, c.if-list-at.false) in
    leaf_told h c.args.nonterminal (some_rule-here) c.expand.result (c.in_ok-x.was ∙ ap Some c.in-Leaf.is)
    (c.expand.ensures s)

leaf-fits : (t : ℕ) (c : read_tree-In-Leaf t) → Room c.args.p (c.in-Leaf.early + c.in-Leaf.late) c.in-Leaf.weight c.in-Leaf.distance
leaf-fits t c =
    let some_rule-here : c.args.p.at < length c.args.list.now =
    omega (arith, c.if-list-at.false) in
    let leaf_made-here : (s : Sheet) → (let a = c.args in
    ItemPre s a.rules.now a.children.now a.units.now a.list.now a.over a.p) → let a = c.args in
    LeafMade s (item_of a.nonterminal a.over) a.p.carried (get_or a.list.now a.p.at 0) c.in-Leaf.weight c.in-Leaf.early c.in-Leaf.late
    c.in-Leaf.distance =
    λ s h. leaf_told h c.args.nonterminal (some_rule-here) c.expand.result (c.in_ok-x.was ∙ ap Some c.in-Leaf.is)
    (c.expand.ensures s) in
    let h = c.requires.1 in
    leaf_room h c.args.nonterminal (some_rule-here) (leaf_made-here _ h)

-- it is a division rule, which stands in the table and has two to eight parts
division_made : (t : ℕ) (c : read_tree-In-Division t) (s : Sheet) → (let a = c.args in
    ItemPre s a.rules.now a.children.now a.units.now a.list.now a.over a.p) → let a = c.args in
    DivisionMade s (item_of a.nonterminal a.over) a.p.carried (get_or a.list.now a.p.at 0) c.in-Division.weight c.in-Division.arity
division_made t c s h =
    let some_rule-here : c.args.p.at < length c.args.list.now =
    omega (arith, c.if-list-at.false) in
    division_told h c.args.nonterminal (some_rule-here) c.expand.result
    (c.in_ok-x.was ∙ ap Some c.in-Division.is) (c.expand.ensures s)

division-fits : (t : ℕ) (c : read_tree-In-Division t) → let a = c.args in
    let arity = c.in-Division.arity in
    (2 ≤ arity) × (arity ≤ 8) × (get_or a.list.now a.p.at 0 < 64) × (length a.children.now ≡ 512)
division-fits t c =
    let some_rule-here : c.args.p.at < length c.args.list.now =
    omega (arith, c.if-list-at.false) in
    let division_made-here : (s : Sheet) → (let a = c.args in
    ItemPre s a.rules.now a.children.now a.units.now a.list.now a.over a.p) → let a = c.args in
    DivisionMade s (item_of a.nonterminal a.over) a.p.carried (get_or a.list.now a.p.at 0) c.in-Division.weight c.in-Division.arity =
    λ s h. division_told h c.args.nonterminal (some_rule-here) c.expand.result
    (c.in_ok-x.was ∙ ap Some c.in-Division.is) (c.expand.ensures s) in
    let h = c.requires.1 in
    let f = arity_small h c.args.nonterminal (some_rule-here) (division_made-here _ h) in
    (f.0, f.1, f.2, children_length h)

-- the list ends
pub read_tree-returns-then-list-at : goal.read_tree-returns-then-list-at
read_tree-returns-then-list-at t c =
    λ s h. list_ends h c.args.nonterminal (omega (arith, c.if-list-at.true))

pub read_tree-expand-requires : goal.read_tree-expand-requires
read_tree-expand-requires t c =
    (c.requires.0, item_at_lem c.requires.1)

pub read_tree-overflow_add-early : goal.read_tree-overflow_add-early
read_tree-overflow_add-early t c =
    let f = (leaf-fits t (goal.at.read_tree-overflow_add-early t c).In-Leaf).from in
    record { fits = omega arith }

pub read_tree-behind-requires : goal.read_tree-behind-requires
read_tree-behind-requires t c = leaf-fits t (goal.at.read_tree-behind-requires t c).In-Leaf

pub read_tree-nonzero_div-first : goal.read_tree-nonzero_div-first
read_tree-nonzero_div-first t c =
    let f = (division-fits t (goal.at.read_tree-nonzero_div-first t c).In-Division).0 in
    search rules

pub read_tree-overflow_cast-from : goal.read_tree-overflow_cast-from
read_tree-overflow_cast-from t c =
    let f = (division-fits t (goal.at.read_tree-overflow_cast-from t c).In-Division).2 in
    search rules

pub read_tree-overflow_mul-from : goal.read_tree-overflow_mul-from
read_tree-overflow_mul-from t c =
    let f = (division-fits t (goal.at.read_tree-overflow_mul-from t c).In-Division).2 in
    search rules

pub read_tree-overflow_cast-kids : goal.read_tree-overflow_cast-kids
read_tree-overflow_cast-kids t c =
    let f = (division-fits t (goal.at.read_tree-overflow_cast-kids t c).In-Division).1 in
    search rules

pub read_tree-overflow_add-kids : goal.read_tree-overflow_add-kids
read_tree-overflow_add-kids t c =
    let f = division-fits t (goal.at.read_tree-overflow_add-kids t c).In-Division in
    let g = f.1 in
    let i = f.2 in
    search rules

pub read_tree-slice_bounds-kids-end : goal.read_tree-slice_bounds-kids-end
read_tree-slice_bounds-kids-end t c =
    let f = division-fits t (goal.at.read_tree-slice_bounds-kids-end t c).In-Division in
    omega (arith, f.1, f.2, f.3)

pub read_tree-behind-next-requires : goal.read_tree-behind-next-requires
read_tree-behind-next-requires t c =
    let h = c.requires.1 in
    rule_room h c.args.nonterminal (some_rule t (goal.at.read_tree-behind-next-requires t c).After-expand)
    (division_made t (goal.at.read_tree-behind-next-requires t c).In-Division _ h)

-- the parts are shorter than the interval
pub read_tree-read_forest-requires : goal.read_tree-read_forest-requires
read_tree-read_forest-requires t c =
    let k = some_rule t (goal.at.read_tree-read_forest-requires t c).After-expand in
    let q = c.args.nonterminal in
    let h = c.requires.1 in
    let made = division_made t (goal.at.read_tree-read_forest-requires t c).In-Division _ h in (
      omega (arith, (parts_fall h q k made).0),
      (c.requires.0, parts_entry h q k made _ _ (kids_are h q k made) c.behind-next.ensures),
    )

-- the rule is refused
pub read_tree-returns-in_err-x : goal.read_tree-returns-in_err-x
read_tree-returns-in_err-x t c =
    λ s h. rw c.from_residual.ensures (rule_refused h c.args.nonterminal
    (some_rule t (goal.at.read_tree-returns-in_err-x t c).After-expand) c.expand.result c.in_err-x.was (c.expand.ensures s))

-- a leaf
pub read_tree-returns-in-Leaf : goal.read_tree-returns-in-Leaf
read_tree-returns-in-Leaf t c =
    λ s h. leaf_walked h c.args.nonterminal (some_rule t (goal.at.read_tree-returns-in-Leaf t c).After-expand)
    (leaf_made t (goal.at.read_tree-returns-in-Leaf t c).In-Leaf s h) _ c.behind.ensures

-- a division
pub read_tree-returns-in-Division : goal.read_tree-returns-in-Division
read_tree-returns-in-Division t c =
    let k = some_rule t (goal.at.read_tree-returns-in-Division t c).After-expand in
    let q = c.args.nonterminal in
    λ s h. let made = division_made t (goal.at.read_tree-returns-in-Division t c).In-Division s h in
    parts_walked h q k made _ _ (kids_are h q k made) c.behind-next.ensures c.read_forest.result (c.read_forest.ensures s)

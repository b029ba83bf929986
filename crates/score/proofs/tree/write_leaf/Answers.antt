-- `write_leaf` meets its contract: the line's bytes are those of the leaf, and there is room for their text. Assumes nothing.
use mathlib.Core.Path.{refl}
use native.Mathlib.Omega.{arith}
use Rattle.score.proofs.LeafSteps.{here, cells_size, few_placed, placed_in_table, in_table, count_within, count_is, leaf_written}
use borrow.Author.Rules.{rules}
use Rattle.score.proofs.tree.write_leaf.Goals as goal

pub place-placed-requires : goal.place-placed-requires
place-placed-requires c =
    (c.requires.0, here c.requires.1)

pub overflow_sub-p : goal.overflow_sub-p
overflow_sub-p c =
    let h = c.requires.1.stands.before in
    search rules

pub overflow_add-p : goal.overflow_add-p
overflow_add-p c =
    let place = c.place-placed in
    let h = c.requires.1 in
    let e = place.ensures _ (here h) in
    let f = few_placed h _ e in
    record { fits = omega arith }

pub leaf_line-count-requires : goal.leaf_line-count-requires
leaf_line-count-requires c =
    let place = c.place-placed in
    let h = c.requires.1 in
    let e = place.ensures _ (here h) in
    (few_placed h _ e, cells_size h, placed_in_table h _ e, refl)

pub slice_bounds-line-end : goal.slice_bounds-line-end
slice_bounds-line-end c =
    let h = c.requires.1 in
    let e = c.place-placed.ensures _ (here h) in
    count_within h _ e c.leaf_line-count.ensures

pub slice_bounds-write_line-end : goal.slice_bounds-write_line-end
slice_bounds-write_line-end c =
    let h = c.requires.1 in
    let e = c.place-placed.ensures _ (here h) in
    count_is h _ e c.leaf_line-count.ensures

pub overflow_add-result : goal.overflow_add-result
overflow_add-result c =
    let h = c.requires.1 in
    let e = c.place-placed.ensures _ (here h) in
    let f = in_table h _ e in
    record { fits = omega arith }

pub overflow_add-result-2 : goal.overflow_add-result-2
overflow_add-result-2 c =
    let h = c.requires.1 in
    let e = c.place-placed.ensures _ (here h) in
    let f = in_table h _ e in
    record { fits = omega arith }

pub returns : goal.returns
returns c =
    λ s h. leaf_written h _ (c.place-placed.ensures s (here h)) c.leaf_line-count.ensures _ _
    c.write_line-to.ensures

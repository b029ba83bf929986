-- `leaf_row` meets its contract: what the leaf places is counted by `place`, so few that sums fit, and the packed least leaf of its kind is
-- looked up; more than three late onsets leave no carry state. Assumes nothing.
use borrow.Author.Rules.{rules}
use Rattle.rows.specs.LeafLaws.{few_early, near, kind_asked, cost_most, leaf_row_is, leaf_row_none}
use Rattle.rows.proofs.leaf.leaf_row.Goals as goal

pub place-placed-requires : goal.place-placed-requires
place-placed-requires c = (c.requires.0, c.requires.1.entered.here)

pub overflow_add-c : goal.overflow_add-c
overflow_add-c c =
    let h = c.requires.1 in
    let few = few_early h (c.place-placed.ensures _ h.entered.here) in
    search rules

pub leaf_cell-w-requires : goal.leaf_cell-w-requires
leaf_cell-w-requires c =
    let h = c.requires.1 in
    kind_asked h (c.place-placed.ensures _ h.entered.here) c.token_of-kind.ensures

pub overflow_mul-placed : goal.overflow_mul-placed
overflow_mul-placed c =
    let h = c.requires.1 in
    let far = near h (c.place-placed.ensures _ h.entered.here) in
    search rules

pub overflow_add-w : goal.overflow_add-w
overflow_add-w c =
    let h = c.requires.1 in
    let placed = c.place-placed.ensures _ h.entered.here in
    let low = cost_most h placed c.token_of-kind.ensures c.leaf_cell-w.ensures in
    let far = near h placed in
    search rules

pub returns-then-late-lt4 : goal.returns-then-late-lt4
returns-then-late-lt4 c =
    let place = c.place-placed in
    let token-of = c.token_of-kind in
    let leaf_cell_lem = c.leaf_cell-w in
    let least = c.min-x in
    λ s h.
    leaf_row_is h (place.ensures s h.entered.here) token-of.ensures leaf_cell_lem.ensures least.ensures c.if-late-lt4.true

pub returns-else-late-lt4 : goal.returns-else-late-lt4
returns-else-late-lt4 c =
    let place = c.place-placed in
    let token-of = c.token_of-kind in
    let leaf_cell_lem = c.leaf_cell-w in
    λ s h. leaf_row_none h (place.ensures s h.entered.here) token-of.ensures leaf_cell_lem.ensures c.if-late-lt4.false

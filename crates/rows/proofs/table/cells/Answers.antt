-- `cells` meets its contract. An interval without an onset is a leaf; a row that bears the bar's stamp is the item's, since the table is
-- sound; else `fresh` gives it. Assumes nothing.
use native.Mathlib.Omega.{arith}
use Rattle.rows.specs.NameLaws.{stands_bar, stands-length, solve_room, solve_loaded}
use Rattle.rows.specs.CallLaws.{entry_near, entry_first, entry_asked, entry_leaf, entry_slot, entry_solve}
use Rattle.rows.proofs.table.cells.Goals as goal

pub length-len-requires : goal.length-len-requires
length-len-requires c =
    let e = c.requires.1 in
    (stands-length e.stands, (c.requires.0, e.stands.in_bar_lem.prepared))

pub overflow_add-left : goal.overflow_add-left
overflow_add-left c = omega (arith, entry_near c.requires.1 c.length-len.ensures)

pub offset_bounds-units-from : goal.offset_bounds-units-from
offset_bounds-units-from c = omega (arith, entry_first c.requires.1 c.length-len.ensures)

pub bounds-units-from : goal.bounds-units-from
bounds-units-from c = omega (arith, entry_first c.requires.1 c.length-len.ensures)

pub leaf_cell-requires : goal.leaf_cell-requires
leaf_cell-requires c =
    let length = c.length-len in
    entry_asked c.requires.1 length.ensures c.token_of-kind.ensures

pub returns-then-left-len : goal.returns-then-left-len
returns-then-left-len c =
    let length = c.length-len in
    let if1 = c.if-left-len in
    let leaf_cell_lem = c.leaf_cell in
    λ s e. entry_leaf e length.ensures if1.true c.token_of-kind.ensures leaf_cell_lem.ensures

pub place_of-at-requires : goal.place_of-at-requires
place_of-at-requires c =
    (c.requires.0, entry_slot c.requires.1 c.length-len.ensures c.if-left-len.false)

pub held-requires : goal.held-requires
held-requires c =
    let length = c.length-len in
    let if1 = c.if-left-len in
    let place_of = c.place_of-at in
    let e = c.requires.1 in
    (solve_room (entry_solve e length.ensures if1.false place_of.ensures) e.sound, stands_bar e.stands)

pub load-requires : goal.load-requires
load-requires c =
    let length = c.length-len in
    let if1 = c.if-left-len in
    let place_of = c.place_of-at in
    let e = c.requires.1 in
    solve_room (entry_solve e length.ensures if1.false place_of.ensures) e.sound

pub returns-then-held : goal.returns-then-held
returns-then-held c =
    let length = c.length-len in
    let if1 = c.if-left-len in
    let place_of = c.place_of-at in
    let held = c.held in
    let if2 = c.if-held in
    let load = c.load in
    λ s e. solve_loaded (entry_solve e length.ensures if1.false place_of.ensures) (held.ensures.0 if2.true) load.ensures

pub fresh-requires : goal.fresh-requires
fresh-requires c =
    let length = c.length-len in
    let if1 = c.if-left-len in
    let place_of = c.place_of-at in
    let e = c.requires.1 in
    (c.requires.0, entry_solve e length.ensures if1.false place_of.ensures)

pub returns : goal.returns
returns c =
    let length = c.length-len in
    let if1 = c.if-left-len in
    let place_of = c.place_of-at in
    let fresh = c.fresh in
    λ s e. fresh.ensures s (entry_solve e length.ensures if1.false place_of.ensures)

-- `root_row` meets its contract: an idle carry state has no tree, and any other the row of the item over the bar. Assumes nothing.
use Rattle.search.proofs.EnterSteps.{pass_low, pass_idle, pass_cells, pass_rooted}
use Rattle.search.proofs.bars.root_row.Goals as goal

pub idle-requires : goal.idle-requires
idle-requires c =
    let s = c.requires.1.0 in
    let h = c.requires.1.1 in
    (c.requires.0, pass_low h, (s, h.prepared))

pub returns-then-idle : goal.returns-then-idle
returns-then-idle c =
    let few = c.requires.0 in
    λ s h. pass_idle h few h.sound (c.idle.ensures s h.prepared c.if-idle.true)

pub cells-requires : goal.cells-requires
cells-requires c =
    let s = c.requires.1.0 in
    let h = c.requires.1.1 in
    (s, pass_cells h c.requires.0)

pub returns : goal.returns
returns c =
    let few = c.requires.0 in
    λ s h. pass_rooted h few (c.cells.ensures s (pass_cells h few))

-- `unit_at` meets its contract: the unit is that of the bar that is found. Assumes nothing.
use mathlib.Core.Path.{◌∙◌}
use Rattle.bar_lines.proofs.Cells.{searched, found_is}
use Rattle.bar_lines.proofs.clock.unit_at.Goals as goal

pub bar_from-bar-requires : goal.bar_from-bar-requires
bar_from-bar-requires c =
    let pre = c.requires in
    (_, searched _ _ pre.0 _ pre.2 pre.3 _ pre.1)

pub unit_within-requires : goal.unit_within-requires
unit_within-requires c =
    let pre = c.requires in
    (_, pre.0.lines, c.bar_from-bar.ensures _ (searched _ _ pre.0 _ pre.2 pre.3 _ pre.1))

pub returns : goal.returns
returns c =
    let pre = c.requires in
    let found = c.bar_from-bar.ensures _ (searched _ _ pre.0 _ pre.2 pre.3 _ pre.1) in
    c.unit_within.ensures _ pre.0.lines found ∙ found_is _ _ pre.0 _ pre.2 pre.3 _ found

-- `unit_within` meets its contract: the moment is in the bar, so neither difference is below 0, and its share is at most a bar. Assumes
-- nothing.
use native.Mathlib.Omega.{arith}
use Prim.Native.Nat.{◌+◌}
use mathlib.Core.Path.{◌∙◌}
use Rattle.bar_lines.proofs.Cells.{line_in_lem, cells_up, share_in, share_fits}
use Rattle.bar_lines.proofs.clock.unit_within.Goals as goal

pub overflow_sub-lasts : goal.overflow_sub-lasts
overflow_sub-lasts c =
    let (bars, good, found) = c.requires in
    let inside = found.inside in
    let up = cells_up bars _ good c.args.bar (c.args.bar + 1) (omega arith) (omega (arith, inside)) in
    omega (arith, up)

pub overflow_sub-since : goal.overflow_sub-since
overflow_sub-since c =
    let (bars, good, found) = c.requires in
    let begun = found.begun in
    let inside = found.inside in
    let is = line_in_lem bars c.args.lines.now c.args.bar (omega (arith, inside)) in
    omega (arith, is, begun)

pub unit_of-share-requires : goal.unit_of-share-requires
unit_of-share-requires c =
    let (bars, good, found) = c.requires in
    let inside = found.inside in
    let before = found.before in
    let up = cells_up bars _ good c.args.bar (c.args.bar + 1) (omega arith) (omega (arith, inside)) in
    let high = line_in_lem bars c.args.lines.now (c.args.bar + 1) (omega (arith, inside)) in
    omega (arith, up, high, before)

pub overflow_add-result : goal.overflow_add-result
overflow_add-result c =
    let (bars, good, found) = c.requires in
    let inside = found.inside in
    let few = good.sixty_four in
    let is = c.unit_of-share.ensures ∙ share_in bars _ good c.args.bar c.args.moment.0 inside in
    let most = share_fits bars _ good c.args.bar c.args.moment.0 found in
    record { fits = omega (arith, is, most, inside, few) }

pub returns : goal.returns
returns c bars good found =
    let is = c.unit_of-share.ensures ∙ share_in bars _ good c.args.bar c.args.moment.0 found.inside in
    omega (arith, is)

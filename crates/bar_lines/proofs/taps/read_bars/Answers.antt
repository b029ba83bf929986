-- `read_bars` meets its contract: taps are read, or the onsets follow at once. Assumes nothing.
use Rattle.bar_lines.proofs.TapLoop.{next_tapped, next_even}
use Rattle.bar_lines.proofs.taps.read_bars.Goals as goal

pub returns-then-duration-eq0 : goal.returns-then-duration-eq0
returns-then-duration-eq0 c =
    let pre = c.requires in
    next_tapped c.args.text.now c.args.at c.args.line _ _ pre.3 pre.4 c.if-duration-eq0.true _ c.read_taps.ensures

pub even_lines-lines-requires : goal.even_lines-lines-requires
even_lines-lines-requires c = let pre = c.requires in (pre.4, (pre.5 c.if-duration-eq0.false).1)

pub returns : goal.returns
returns c =
    let pre = c.requires in
    let some = c.if-duration-eq0.false in
    next_even c.args.text.now c.args.at c.args.line _ _ pre.0 pre.1 pre.2 pre.3 pre.4 some (pre.5 some) _ c.even_lines-lines.ensures

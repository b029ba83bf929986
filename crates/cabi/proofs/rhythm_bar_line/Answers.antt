-- `rhythm_bar_line` meets its contract: places behind the bar lines hold 0. Assumes nothing.
use mathlib.Core.Path.{ap}
use Rattle.cabi.specs.Entries.{bar_line_of}
use Rattle.cabi.proofs.Readings.{refusal_is, bar_line_is, bar_line_none}
use Rattle.cabi.proofs.rhythm_bar_line.Goals as goal

pub returns-in_default : goal.returns-in_default
returns-in_default c = ap (λ o. bar_line_of o c.args.i) (refusal_is c.args.text.now c.in_default.field-0 c.in_default.ensures)

pub returns-then-i-ge-BAR_LINES_MOST : goal.returns-then-i-ge-BAR_LINES_MOST
returns-then-i-ge-BAR_LINES_MOST c = bar_line_none c.args.text.now c.args.i c.if-i-ge-BAR_LINES_MOST.true

pub returns : goal.returns
returns c = bar_line_is c.args.text.now c.in-Ok.field-0 c.in-Ok.ensures c.args.i c.if-i-ge-BAR_LINES_MOST.false

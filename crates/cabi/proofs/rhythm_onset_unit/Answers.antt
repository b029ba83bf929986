-- `rhythm_onset_unit` meets its contract: places behind the onsets hold 0. Assumes nothing.
use mathlib.Core.Path.{ap}
use Rattle.cabi.specs.Entries.{unit_at}
use Rattle.cabi.proofs.Readings.{refusal_is, unit_is, unit_none}
use Rattle.cabi.proofs.rhythm_onset_unit.Goals as goal

pub returns-in_default : goal.returns-in_default
returns-in_default c = ap (λ o. unit_at o c.args.i) (refusal_is c.args.text.now c.in_default.field-0 c.in_default.ensures)

pub returns-then-i-ge-ONSETS_MOST : goal.returns-then-i-ge-ONSETS_MOST
returns-then-i-ge-ONSETS_MOST c = unit_none c.args.text.now c.args.i c.if-i-ge-ONSETS_MOST.true

pub returns : goal.returns
returns c = unit_is c.args.text.now c.in-Ok.field-0 c.in-Ok.ensures c.args.i c.if-i-ge-ONSETS_MOST.false

-- `check_room` meets its contract: each return has passed the demands before it. Assumes nothing.
use Rattle.sheet.specs.Reading.{room_refusal}
use Rattle.sheet.specs.Demands.{demands}
use Rattle.playing.proofs.onset.check_room.Goals as goal

pub returns-then-count-ge-ONSETS_MOST : goal.returns-then-count-ge-ONSETS_MOST
unfolding room_refusal
returns-then-count-ge-ONSETS_MOST c = search demands depth 10

pub returns-then-here-ge-BAR_ONSETS_MOST : goal.returns-then-here-ge-BAR_ONSETS_MOST
unfolding room_refusal
returns-then-here-ge-BAR_ONSETS_MOST c = search demands depth 10

pub returns : goal.returns
unfolding room_refusal
returns c = search demands depth 10

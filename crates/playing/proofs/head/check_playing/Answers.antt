-- `check_playing` meets its contract: each return has passed the demands before it. Assumes nothing.
use Rattle.sheet.specs.Reading.{playing_refusal}
use Rattle.sheet.specs.Demands.{demands}
use Rattle.playing.proofs.head.check_playing.Goals as goal

pub returns-then-l-ne6 : goal.returns-then-l-ne6
unfolding playing_refusal
returns-then-l-ne6 c b h = rw (← h.count) (search demands depth 10)

pub returns-then-bars-lt1 : goal.returns-then-bars-lt1
unfolding playing_refusal
returns-then-bars-lt1 c b h =
    rw (← h.count, ← c.byte_at-bars.ensures b h) (search demands depth 10)

pub returns-then-bars-gt-BARS_MOST : goal.returns-then-bars-gt-BARS_MOST
unfolding playing_refusal
returns-then-bars-gt-BARS_MOST c b h =
    rw (← h.count, ← c.byte_at-bars.ensures b h) (search demands depth 10)

pub returns-then-d-eq0 : goal.returns-then-d-eq0
unfolding playing_refusal
returns-then-d-eq0 c b h =
    rw (← h.count, ← c.byte_at-bars.ensures b h, ← c.four_at-d.ensures b h) (search demands depth 10)

pub returns-then-d-lt-BAR_SHORTEST : goal.returns-then-d-lt-BAR_SHORTEST
unfolding playing_refusal
returns-then-d-lt-BAR_SHORTEST c b h =
    rw (← h.count, ← c.byte_at-bars.ensures b h, ← c.four_at-d.ensures b h) (search demands depth 10)

pub returns-then-d-gt-BAR_LONGEST : goal.returns-then-d-gt-BAR_LONGEST
unfolding playing_refusal
returns-then-d-gt-BAR_LONGEST c b h =
    rw (← h.count, ← c.byte_at-bars.ensures b h, ← c.four_at-d.ensures b h) (search demands depth 12)

pub returns : goal.returns
unfolding playing_refusal
returns c b h =
    rw (← h.count, ← c.byte_at-bars.ensures b h, ← c.four_at-d.ensures b h) (search demands depth 12)

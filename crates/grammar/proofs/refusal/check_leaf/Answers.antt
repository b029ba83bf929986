-- `check_leaf` meets its contract: each return has passed the demands before it. Assumes nothing.
use Rattle.sheet.specs.Reading.{leaf_refusal}
use Rattle.sheet.specs.Demands.{demands}
use Rattle.grammar.proofs.refusal.check_leaf.Goals as goal

pub returns-then-l-ne5 : goal.returns-then-l-ne5
unfolding leaf_refusal
returns-then-l-ne5 c b h = rw (← h.count) (search demands depth 10)

pub returns-then-q-head : goal.returns-then-q-head
unfolding leaf_refusal
returns-then-q-head c b h =
    rw (← h.count, ← c.byte_at-head.ensures b h, ← c.byte_at-n.ensures b h) (search demands depth 10)

pub returns-then-n-gt-KIND_MOST : goal.returns-then-n-gt-KIND_MOST
unfolding leaf_refusal
returns-then-n-gt-KIND_MOST c b h =
    rw (← h.count, ← c.byte_at-head.ensures b h, ← c.byte_at-n.ensures b h) (search demands depth 10)

pub returns-then-count-ge-RULES_MOST : goal.returns-then-count-ge-RULES_MOST
unfolding leaf_refusal
returns-then-count-ge-RULES_MOST c b h =
    rw (← h.count, ← c.byte_at-head.ensures b h, ← c.byte_at-n.ensures b h) (search demands depth 10)

pub returns : goal.returns
unfolding leaf_refusal
returns c b h =
    rw (← h.count, ← c.byte_at-head.ensures b h, ← c.byte_at-n.ensures b h) (search demands depth 10)

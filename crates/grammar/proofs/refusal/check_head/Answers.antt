-- `check_head` meets its contract: each return has passed the demands before it. Assumes nothing.
use Rattle.sheet.specs.Reading.{head_refusal}
use Rattle.sheet.specs.Demands.{demands}
use Rattle.grammar.proofs.refusal.check_head.Goals as goal

pub returns-then-l-ne5 : goal.returns-then-l-ne5
unfolding head_refusal
returns-then-l-ne5 c b h = rw (← h.count) (search demands depth 10)

pub returns-then-nonterminals-lt1 : goal.returns-then-nonterminals-lt1
unfolding head_refusal
returns-then-nonterminals-lt1 c b h =
    rw (← h.count, ← c.byte_at-nonterminals.ensures b h, ← c.byte_at-start.ensures b h) (search demands depth 10)

pub returns-then-nonterminals-gt16 : goal.returns-then-nonterminals-gt16
unfolding head_refusal
returns-then-nonterminals-gt16 c b h =
    rw (← h.count, ← c.byte_at-nonterminals.ensures b h, ← c.byte_at-start.ensures b h) (search demands depth 10)

pub returns-then-nonterminals-start : goal.returns-then-nonterminals-start
unfolding head_refusal
returns-then-nonterminals-start c b h =
    rw (← h.count, ← c.byte_at-nonterminals.ensures b h, ← c.byte_at-start.ensures b h) (search demands depth 10)

pub returns : goal.returns
unfolding head_refusal
returns c b h =
    rw (← h.count, ← c.byte_at-nonterminals.ensures b h, ← c.byte_at-start.ensures b h) (search demands depth 10)

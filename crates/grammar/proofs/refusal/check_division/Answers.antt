-- `check_division` meets its contract: each return has passed the demands before it. Assumes nothing.
use mathlib.Core.Path.{sym, ◌∙◌}
use Rattle.sheet.specs.Reading.{division_refusal}
use Rattle.sheet.specs.Demands.{demands, pass_below, fail_below}
use Rattle.grammar.proofs.refusal.check_division.Goals as goal

pub returns-then-l-lt5 : goal.returns-then-l-lt5
unfolding division_refusal
returns-then-l-lt5 c b h = rw (← h.count) (search demands depth 10)

pub returns-then-k-lt2 : goal.returns-then-k-lt2
unfolding division_refusal
returns-then-k-lt2 c b h =
    rw (← h.count, ← c.byte_at-head.ensures b h, ← c.byte_at-k.ensures b h) (search demands depth 10)

pub returns-then-k-gt-PARTS_MOST : goal.returns-then-k-gt-PARTS_MOST
unfolding division_refusal
returns-then-k-gt-PARTS_MOST c b h =
    rw (← h.count, ← c.byte_at-head.ensures b h, ← c.byte_at-k.ensures b h) (search demands depth 10)

pub returns-then-l-k : goal.returns-then-l-k
unfolding division_refusal
returns-then-l-k c b h =
    rw (← h.count, ← c.byte_at-head.ensures b h, ← c.byte_at-k.ensures b h) (search demands depth 10)

pub returns-then-q-head : goal.returns-then-q-head
unfolding division_refusal
returns-then-q-head c b h =
    rw (← h.count, ← c.byte_at-head.ensures b h, ← c.byte_at-k.ensures b h) (search demands depth 10)

pub returns-then-not-all_below : goal.returns-then-not-all_below
unfolding division_refusal
returns-then-not-all_below c b h =
    rw (← h.count, ← c.byte_at-head.ensures b h, ← c.byte_at-k.ensures b h)
    (search (
      demands,
      fail_below,
      sym (c.all_below.ensures b h) ∙ c.if-not-all_below.true,
      c.if-q-head.false,
      c.if-l-k.false,
      c.if-k-gt-PARTS_MOST.false,
      c.if-k-lt2.false,
      c.if-l-lt5.false,
    ) depth 10)

pub returns-then-count-ge-RULES_MOST : goal.returns-then-count-ge-RULES_MOST
unfolding division_refusal
returns-then-count-ge-RULES_MOST c b h =
    rw (← h.count, ← c.byte_at-head.ensures b h, ← c.byte_at-k.ensures b h)
    (search (
      demands,
      pass_below,
      sym (c.all_below.ensures b h) ∙ c.if-not-all_below.false,
      c.if-count-ge-RULES_MOST.true,
      c.if-q-head.false,
      c.if-l-k.false,
      c.if-k-gt-PARTS_MOST.false,
      c.if-k-lt2.false,
      c.if-l-lt5.false,
    ) depth 10)

pub returns : goal.returns
unfolding division_refusal
returns c b h =
    rw (← h.count, ← c.byte_at-head.ensures b h, ← c.byte_at-k.ensures b h)
    (search (
      demands,
      pass_below,
      sym (c.all_below.ensures b h) ∙ c.if-not-all_below.false,
      c.if-count-ge-RULES_MOST.false,
      c.if-q-head.false,
      c.if-l-k.false,
      c.if-k-gt-PARTS_MOST.false,
      c.if-k-lt2.false,
      c.if-l-lt5.false,
    ) depth 10)

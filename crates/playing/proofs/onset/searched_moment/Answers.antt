-- `searched_moment` meets its contract: each return has passed the demands before it. The one test of the end tells of the time and of the
-- unit (`end_reached`, `end_not_reached`). Assumes nothing.
use Prim.Native.Nat.{ℕ, ◌-◌}
use mathlib.Core.Path.{ap, ◌∙◌}
use Rattle.bar_lines.specs.ClockLaws.{reached_before}
use Rattle.playing.proofs.Moments.{inside, early, first_line, past, before_end}
use Rattle.playing.proofs.onset.searched_moment.Goals as goal

-- before the first bar line
pub returns-then-moment-clock : goal.returns-then-moment-clock
returns-then-moment-clock c last up = let pre = c.requires in early _ _ pre.0 _ last up c.if-moment-clock.true

pub unit_at-requires : goal.unit_at-requires
unit_at-requires c =
    let begins = c.if-moment-clock.false in
    let ends = (before_end _ _ c.requires.0 c.args.moment.0 begins c.if-clock-moment.false).0 in
    let (last, up, is) = c.requires.1 in (
      c.requires.0,
      reached_before _ _ c.requires.0 last _ _ up ends (c.bar_before.ensures ∙ ap (λ (x : ℕ). x - 1) is),
      begins,
      ends,
    )

-- at or past the end
pub returns-then-clock-moment : goal.returns-then-clock-moment
returns-then-clock-moment c last up = let pre = c.requires in past _ _ pre.0 _ c.if-moment-clock.false last up c.if-clock-moment.true

-- before it
pub returns : goal.returns
returns c last up =
    let begins = c.if-moment-clock.false in
    let within = before_end _ _ c.requires.0 c.args.moment.0 begins c.if-clock-moment.false in
    (inside _ _ last _ up (first_line _ _ c.requires.0 _ begins) within, c.unit_at.ensures)

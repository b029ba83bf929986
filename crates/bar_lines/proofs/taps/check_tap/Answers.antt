-- `check_tap` meets its contract: kind, count and step are asked one after the other. Assumes nothing.
use native.Mathlib.Omega.{arith}
use Prim.Native.Nat.{◌-◌}
use mathlib.Core.Path.{sym, ap, ◌∙◌}
use lib.ListN.{get_or}
use Rattle.sheet.specs.Reading.{step_refusal}
use Rattle.bar_lines.proofs.TapLoop.{other_line, other_count, first_tap, later_tap}
use Rattle.bar_lines.proofs.taps.check_tap.Goals as goal

pub returns-then-l : goal.returns-then-l
returns-then-l c b taps h count latest g bars = other_line g bars taps b (λ z. c.if-l.true (h.kind ∙ z))

pub returns-then-l-ne5 : goal.returns-then-l-ne5
returns-then-l-ne5 c b taps h count latest g bars =
    other_count g bars taps b (sym h.kind ∙ c.if-l.false) (λ z. c.if-l-ne5.true (h.count ∙ z))

pub returns-then-count-eq0 : goal.returns-then-count-eq0
returns-then-count-eq0 c b taps h count latest g bars =
    first_tap g bars taps b (sym h.kind ∙ c.if-l.false) (sym h.count ∙ c.if-l-ne5.false) (sym count ∙ c.if-count-eq0.true)

pub returns : goal.returns
returns c b taps h count latest g bars =
    let some = c.if-count-eq0.false in
    let before = latest (omega (arith, some)) ∙ ap (λ n. get_or taps (n - 1) 0) count in
    c.check_step.ensures ∙ (λ j. step_refusal (before j) (c.four_at.ensures b h j))
    ∙ later_tap g bars taps b (sym h.kind ∙ c.if-l.false) (sym h.count ∙ c.if-l-ne5.false) (λ z. some (count ∙ z))

-- `even_step` meets its contract: a line that is not left is of the right form, its moment is before the end of bars of one duration, and
-- there is room for it. Assumes nothing.
use native.Mathlib.Omega.{arith}
use mathlib.Core.Path.{refl, sym, ◌∙◌}
use mathlib.Core.List.{List}
use Rattle.std.proofs.Common.{Result, Ok, Err}
use Rattle.std.specs.Option.{IfSome}
use Rattle.std.specs.Result.{result_ok}
use Rattle.sheet.specs.declared.clock.Micros.{Micros}
use Rattle.sheet.specs.declared.refusal.Refusal.{Refusal}
use Rattle.bar_lines.specs.Lines.{ClockOf}
use Rattle.bar_lines.specs.ClockLaws.{even_begins, even_ends, even_asks, even_is}
use Rattle.playing.specs.declared.onset.OnsetStep.{OnsetStep}
use Rattle.playing.specs.Clauses.{StepPlaced, StepTaken}
use Rattle.playing.proofs.Moments.{inside}
use Rattle.playing.proofs.OnsetSteps.{step_placed}
use Rattle.playing.proofs.onset.even_step.Goals.{After-placed_step}
use Rattle.playing.proofs.onset.even_step.Goals as goal

pub unit_of-unit-requires : goal.unit_of-unit-requires
unit_of-unit-requires c =
    let (cells, clock) = c.requires in
    even_asks _ _ clock _ (omega (arith, c.if-even-t.false))

-- where there is room the line is taken
taken : (c : After-placed_step) (r : Result OnsetStep Refusal)
    → StepPlaced c.args.count c.args.latest c.four_at.result c.unit_of-unit.result.0 r
    → IfSome (result_ok r) (λ r. (cells : List Micros) → ClockOf cells c.args.clock
    → StepTaken cells c.args.clock c.args.count c.args.latest c.args.l r)
taken c (Ok r) placed = λ cells clock.
    let args = c.args in
    let t = c.four_at.result in
    let up = c.if-t-before.false in
    let before = c.if-even-t.false in
    let form = c.in-Ok.ensures in
    record {
      filled = λ none. let count = form.1 refl in omega (arith, none, count);
      step = λ b h g p last good eb en es.
          step_placed g _ _ p last b good _ _ _ eb en es (sym h.kind ∙ c.if-l.false) (sym (form.0 b h)) t _
          (c.four_at.ensures b h)
          (sym (inside _ _ args.latest.time.0 t (omega (arith, up)) (even_begins _ _ clock t (omega (arith, before)))
          (even_ends _ _ clock t (omega (arith, before)))))
          (c.unit_of-unit.ensures ∙ even_is _ _ clock t (omega (arith, before))) (Ok r) placed;
    }
taken c (Err e) placed = tt

pub returns : goal.returns
returns c = rw c.ok.ensures.value (taken (goal.at.returns c).After-placed_step c.placed_step.result c.placed_step.ensures)

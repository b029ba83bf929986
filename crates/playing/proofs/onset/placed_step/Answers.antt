-- `placed_step` meets its contract. Assumes nothing.
use native.Mathlib.Omega.{arith}
use Prim.Native.Nat.{ℕ, ◌+◌}
use mathlib.Core.Path.{refl, sym, ap, ◌∙◌}
use Rattle.std.proofs.lemmas.Result.{err_from_is_err_and}
use Rattle.sheet.specs.Sheet.{bar_of}
use Rattle.sheet.specs.Reading.{room_refusal}
use Rattle.sheet.specs.Held.{micros}
use Rattle.sheet.specs.PlayingLaws.{room_passed}
use Rattle.playing.proofs.onset.placed_step.Goals as goal

-- for want of room
pub returns-in_err-check_room : goal.returns-in_err-check_room
returns-in_err-check_room c =
    let p = err_from_is_err_and c.from_residual.result c.from_residual.ensures.1 in
    rw (p.1, p.2) (c.in_err-check_room.ensures ∙ ap (room_refusal _) c.run_in-here.ensures)

pub overflow_add-result : goal.overflow_add-result
overflow_add-result c =
    let few = (room_passed _ _ (sym c.in_ok-check_room.ensures)).1 in
    record { fits = omega (arith, few) }

pub returns : goal.returns
returns c =
    let here = c.run_in-here.ensures in
    let args = c.args in
    record {
      number = c.in_ok-check_room.ensures ∙ ap (room_refusal args.count) here;
      unit = refl;
      latest = λ j. record { time = micros args.t.0; bar = bar_of args.unit.0; run = ap (λ (k : ℕ). k + 1) here j };
    }

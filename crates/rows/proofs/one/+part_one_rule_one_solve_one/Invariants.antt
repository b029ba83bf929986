use Prim.Native.Nat.{◌+◌, ◌*◌}
use Rattle.plan.specs.Plan.{length_cell}
use Rattle.sheet.specs.Sheet.{Sheet}
use Rattle.rows.specs.SolveLaws.{Done}
use Rattle.rows.specs.One.{pair_row, OneEntry}
use Rattle.rows.proofs.one.+part_one_rule_one_solve_one.Given as goal

abbrev pub decreases-part_one : goal.decreases-part_one
decreases-part_one l = 3 * length_cell l.plan.now l.l + 1

abbrev pub decreases-rule_one : goal.decreases-rule_one
decreases-rule_one l = 3 * length_cell l.plan.now l.l + 2

abbrev pub decreases-solve_one : goal.decreases-solve_one
decreases-solve_one l = 3 * length_cell l.plan.now l.l

abbrev pub invariant-solve_one-loop-n : goal.invariant-solve_one-loop-n
invariant-solve_one-loop-n l =
    (s : Sheet) (e : OneEntry s l.plan l.units l.initial.rows l.bar l.q l.l l.left l.from l.at)
    → Done e.entry l.rows l.n (pair_row (record { zero = l.zero; one = l.one }))

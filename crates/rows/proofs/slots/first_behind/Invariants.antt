-- `first_behind` meets its contract. The loop's invariant: of any sheet whose units the table holds, the place is no farther than that of
-- the first onset at or behind `right`; the table has an onset before `right` only in places before that one. Assumes nothing.
use Prim.Native.Nat.{ℕ, ◌-◌, ◌≤◌}
use Rattle.sheet.specs.Sheet.{Sheet}
use Rattle.expansions.specs.Items.{first_at}
use Rattle.rows.specs.OnsetLaws.{Behind}
use Rattle.rows.proofs.slots.first_behind.Given as goal

abbrev pub invariant-loop-i : goal.invariant-loop-i
invariant-loop-i l = (l.i ≤ 512) × ((s : Sheet) (left : ℕ) → Behind s l.units l.from left l.end → l.i ≤ first_at s l.end)

abbrev pub decreases-loop-i : goal.decreases-loop-i
decreases-loop-i l = 513 - l.i

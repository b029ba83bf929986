-- `inside` is safe. The loop's invariant: of the first onsets as many are counted at most. Assumes nothing.
use Rattle.std.proofs.Common.{◌≤◌}
use Rattle.listing.proofs.items.inside.Given as goal

abbrev pub invariant-loop-unit : goal.invariant-loop-unit
invariant-loop-unit l = (l.early ≤ l.unit-index) × (l.late ≤ l.unit-index)

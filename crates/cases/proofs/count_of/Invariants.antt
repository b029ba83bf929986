-- `count_of` is safe: the count is at most the number of elements met. Assumes nothing.
use Rattle.std.proofs.Common.{◌≤◌}
use Rattle.cases.proofs.count_of.Given as goal

abbrev pub invariant-loop-held : goal.invariant-loop-held
invariant-loop-held g l = l.count ≤ l.held-index

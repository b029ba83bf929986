-- `in_range` meets its contract: each way through the `&&` is the definition at the test that was made. Assumes nothing.
use mathlib.Core.Path.{refl}
use borrow.Author.Tests.{le-leb, lt-leb}
use Rattle.tempo.specs.Tempo.{in_range}
use Rattle.tempo.proofs.between.in_range.Goals as goal

pub returns-then-a-ge-BAR_SHORTEST : goal.returns-then-a-ge-BAR_SHORTEST
unfolding in_range
returns-then-a-ge-BAR_SHORTEST c = simp (le-leb _ _ c.if-a-ge-BAR_SHORTEST.true) refl

pub returns-else-a-ge-BAR_SHORTEST : goal.returns-else-a-ge-BAR_SHORTEST
unfolding in_range
returns-else-a-ge-BAR_SHORTEST c = simp (lt-leb _ _ c.if-a-ge-BAR_SHORTEST.false) refl

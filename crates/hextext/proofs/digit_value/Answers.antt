-- `hextext::digit_value` meets its contract. Assumes nothing.
use borrow.Author.Tests.{le-leb, lt-leb}
use Rattle.hextext.specs.Text.{value}
use Rattle.hextext.proofs.digit_value.Goals as goal

pub returns-then-b-le57 : goal.returns-then-b-le57
unfolding value
returns-then-b-le57 c = simp (le-leb _ _ c.if-b-le57.true)

pub returns-else-b-le57 : goal.returns-else-b-le57
unfolding value
returns-else-b-le57 c = simp (lt-leb _ _ c.if-b-le57.false)

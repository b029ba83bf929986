-- `check_end` meets its contract. Assumes nothing.
use borrow.Author.Rules.{rules}
use borrow.Author.Tests.{lt-ltb, le-ltb}
use Rattle.grammar.proofs.refusal.check_end.Goals as goal

pub returns-then-count-lt1 : goal.returns-then-count-lt1
returns-then-count-lt1 c = simp (le-ltb 0 c.args.count (search rules))

pub returns : goal.returns
returns c = simp (lt-ltb 0 c.args.count (search rules))

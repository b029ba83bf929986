-- `sizes::most_in_bar` meets its contract. The loop's invariant: of the first `i` onsets of any good playing that the table holds, `run`
-- are in `bar`, none is in a later bar, and the most in a bar is `most`. Units never fall, so that the next onset is in `bar` or in a bar
-- that has none yet. Assumes nothing.
use Prim.Native.Nat.{◌≤◌}
use Rattle.sizes.proofs.BarSteps.{CountedOf}
use Rattle.sizes.proofs.most_in_bar.Given as goal

abbrev pub invariant-loop-i : goal.invariant-loop-i
invariant-loop-i l = (l.run ≤ l.i) × (l.most ≤ l.i) × CountedOf l.p l.most l.run l.bar l.i

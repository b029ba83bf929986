-- `Digits::new` meets its contract, the ghost field. The loop's invariant: the digits of the numbers below n stand in both halves of the
-- table. Assumes nothing.
use Prim.Native.Nat.{◌≤◌}
use mathlib.Core.Path.{◌≡◌}
use lib.ListN.{length}
use Rattle.hextext.proofs.DigitSteps.{Half}
use Rattle.hextext.proofs.digits.Digits.new.Given as goal

abbrev pub invariant-loop-n : goal.invariant-loop-n
invariant-loop-n l = (l.n ≤ 16) × (length l.cells ≡ 512) × Half 16 0 l.n l.cells × Half 1 256 l.n l.cells

-- `hextext::digit_of` meets its contract: a number below 10 is a figure and any other a letter, as in `digit_of`. Assumes nothing.
use mathlib.Core.Path.{sym}
use native.Mathlib.Omega.{arith}
use Rattle.hextext.specs.WrittenLaws.{digit_of_num, digit_of_letter}
use Rattle.hextext.proofs.digit_of.Goals as goal

pub returns-then-n-lt10 : goal.returns-then-n-lt10
returns-then-n-lt10 c = sym (digit_of_num _ (omega arith))

pub returns-else-n-lt10 : goal.returns-else-n-lt10
returns-else-n-lt10 c = sym (digit_of_letter _ (omega arith))

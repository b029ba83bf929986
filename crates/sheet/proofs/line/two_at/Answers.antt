-- `sheet::two_at` meets its contract. Assumes nothing.
use Prim.Native.Nat.{◌+◌, ◌*◌}
use mathlib.Core.Path.{◌∙◌}
use Rattle.sheet.specs.Reading.{two}
use Rattle.sheet.proofs.line.two_at.Goals as goal

pub returns : goal.returns
unfolding two
returns c b h = c.from_be_bytes.ensures ∙ (λ j. c.byte_at.ensures b h j * 256 + c.byte_at-2.ensures b h j)

-- `hextext::seven_at` meets its contract: seven pairs closed by 0A are the line, and any other line is `line_at`'s. Assumes nothing.
use mathlib.Core.Path.{ap, ◌∙◌}
use native.Mathlib.Omega.{arith}
use borrow.Author.Rules.{rules}
use Rattle.hextext.specs.Packed.{line_if}
use Rattle.hextext.specs.PackedLaws.{line_if_is}
use Rattle.hextext.proofs.SevenSteps.{seven_is}
use Rattle.hextext.proofs.seven.seven_at.Goals as goal

pub returns : goal.returns
returns c =
    let text = c.args.text.now in
    line_if_is (λ e. omega (arith, e))
    ∙ ap line_if
    (seven_is text c.args.at (search rules) c.if-text-at-ne-CLOSE.false _ _ _ _ c.four_at-first.ensures
    c.four_at-second.ensures c.four_at-third.ensures c.pair-last.ensures.0 (search rules) (search rules)
    (search rules) (search rules))

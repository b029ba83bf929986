-- `Digits::pair` meets its contract: the table has its rule. Assumes nothing.
use Prim.Native.Nat.{◌+◌}
use mathlib.Core.Path.{◌∙◌}
use borrow.Author.Rules.{rules}
use Rattle.hextext.proofs.digits.Digits.pair.Goals as goal

pub returns : goal.returns
returns c =
    let rule = c.args.self.now.table in (
      λ j. (c.from-upper.ensures ∙ (rule _ (search rules)).0) j + (c.from-lower.ensures ∙ (rule _ (search rules)).1) j,
      search rules,
    )

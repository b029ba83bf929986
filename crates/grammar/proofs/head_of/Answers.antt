-- `head_of` meets its contract: the grammar of zeros with the three fields of the line. Assumes nothing.
use Rattle.sheet.specs.Reading.{head_of}
use Rattle.sheet.specs.Held.{grammar_table}
use Rattle.grammar.proofs.head_of.Goals as goal

pub returns : goal.returns
unfolding grammar_table head_of
returns c b h =
    let e = c.no_grammar-g.ensures in
    λ j. record {
      nonterminals = c.byte_at.ensures b h j;
      start = c.byte_at-2.ensures b h j;
      multiplier = c.two_at.ensures b h j;
      count = (e j).count;
      rules = (e j).rules;
      children = (e j).children;
    }

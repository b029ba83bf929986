-- `clock_of` meets its contract. Assumes nothing.
use native.Mathlib.Omega.{arith}
use mathlib.Core.Path.{refl, sym}
use Rattle.bar_lines.proofs.Cells.{line_in_lem, duration_most, even_or_tapped}
use Rattle.bar_lines.proofs.clock.clock_of.Goals as goal

pub first_past_end-end-requires : goal.first_past_end-end-requires
first_past_end-end-requires c = c.requires.lines

pub even_end-even-requires : goal.even_end-even-requires
even_end-even-requires c = let pre = c.requires in (pre.lines.one, pre.lines.sixty_four, duration_most _ _ _ pre)

pub returns : goal.returns
returns c =
    let pre = c.requires in (
      refl,
      refl,
      record {
        lines = pre.lines;
        even = pre.even;
        even_end = even_or_tapped _ _ _ pre _ _ c.even_end-even.ensures c.first_past_end-end.ensures;
        first = sym (line_in_lem c.args.bars _ 0 (omega arith));
        end = c.first_past_end-end.ensures;
      },
    )

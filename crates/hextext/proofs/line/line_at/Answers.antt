use Prim.Native.Nat.{◌+◌}
use mathlib.Core.Path.{refl, sym, ap, ◌∙◌}
use native.Mathlib.Omega.{arith}
use lib.ListN.{get_or}
use borrow.Author.Rules.{rules}
use Rattle.hextext.proofs.PackSteps.{packs_none, packs_pair, packs_count, spelled_end, no_pair_end, no_pair_two}
use Rattle.hextext.proofs.DigitSteps.{pair_other}
use Rattle.hextext.specs.Packed.{no_line, line_if}
use Rattle.hextext.specs.PackedLaws.{line_none, line_if_not}
use Rattle.hextext.proofs.line.line_at.Goals as goal

-- the text is empty
pub returns-then-text-eq0 : goal.returns-then-text-eq0
returns-then-text-eq0 c = line_if_not no_line refl ∙ ap line_if (sym (line_none _ _ (search rules)))

pub loop-i-init : goal.loop-i-init
loop-i-init c = packs_none _ _

-- two bytes that are not both digits
pub returns-then-b : goal.returns-then-b
returns-then-b c =
    let text = c.args.text.now in
    let i = c.loop-i.i in
    let packs = c.loop-i.invariant in
    let other = pair_other (get_or text i 0) (get_or text (i + 1) 0) (omega (arith, c.pair-b.ensures)) in
    c.closed.ensures packs.bs packs.is ∙ ap line_if (spelled_end packs.spelled (no_pair_two text i (search rules) other))

pub with_byte-l-requires : goal.with_byte-l-requires
with_byte-l-requires c =
    let loop = c.loop-i in
    let few = packs_count loop.invariant in
    search rules

pub loop-i-preserved : goal.loop-i-preserved
loop-i-preserved c =
    let packs = c.loop-i.invariant in
    packs_pair packs (search rules) _ (sym c.pair-b.ensures.0) (search rules) _
    (c.with_byte-l.ensures packs.bs packs.is) _ (omega arith)

-- fewer than two bytes are left
pub returns : goal.returns
returns c =
    let packs = c.loop-i.invariant in
    c.closed-2.ensures packs.bs packs.is
    ∙ ap line_if (spelled_end packs.spelled (no_pair_end c.args.text.now c.loop-i.i (search rules)))

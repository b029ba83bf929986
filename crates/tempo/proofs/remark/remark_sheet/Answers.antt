-- `remark_sheet` meets its contract: where no bar follows the record is one of zeros, and else the two bars last from line to line.
-- Assumes nothing.
use mathlib.Core.Path.{sym, ap, ◌∙◌}
use native.Mathlib.Omega.{arith}
use lib.Ieee
use Rattle.tempo.specs.Tempo.{in_range, record_of, remark_with}
use Rattle.tempo.specs.TempoLaws.{record_inside, record_last}
use Rattle.tempo.specs.Clauses.{lasts, lasting_is}
use Rattle.tempo.proofs.remark.remark_sheet.Goals as goal

pub overflow_sub-last : goal.overflow_sub-last
overflow_sub-last c = let (t, held) = c.requires in held.one

pub returns-then-last-i : goal.returns-then-last-i
unfolding in_range Ieee.of_bits
returns-then-last-i c t held =
    let last = c.if-last-i.true in
    let one = held.one in
    ap remark_with (sym (record_last _ t _ (omega (arith, last, one))))

-- the bar's own duration, and the next bar's
pub lasting-own-requires : goal.lasting-own-requires
lasting-own-requires c =
    let (t, held) = c.requires in
    let before = c.if-last-i.false in
    let most = held.sixty_four in
    (omega (arith, before, most), lasts _ t _ held _ (omega (arith, before)))

pub lasting-next-requires : goal.lasting-next-requires
lasting-next-requires c =
    let (t, held) = c.requires in
    let before = c.if-last-i.false in
    let most = held.sixty_four in
    (omega (arith, before, most), lasts _ t _ held _ (omega (arith, before)))

pub returns : goal.returns
returns c t held =
    let before = c.if-last-i.false in
    let a1 = c.lasting-own.ensures ∙ lasting_is _ t _ held _ (omega (arith, before)) in
    let a2 = c.lasting-next.ensures ∙ lasting_is _ t _ held _ (omega (arith, before)) in
    c.remark_between.ensures ∙ (λ i. remark_with (record_of (a1 i) (a2 i)))
    ∙ ap remark_with (sym (record_inside _ t _ (omega (arith, before))))

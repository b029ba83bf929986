-- `onset_step` meets its contract: form, moment and room are asked one after the other. Assumes nothing.
use mathlib.Core.Path.{sym, ◌∙◌}
use Rattle.std.proofs.lemmas.Result.{err_from_is_err_and}
use Rattle.sheet.specs.Refusal.{number_some}
use Rattle.playing.specs.Clauses.{tapped_in}
use Rattle.playing.proofs.OnsetSteps.{other_line, by_form, by_moment, moment_is, step_placed}
use Rattle.playing.proofs.onset.onset_step.Goals as goal

-- a line of another kind
pub returns-then-l : goal.returns-then-l
returns-then-l c b h g p last good eb en es =
    c.other_refusal.ensures b h.kind ∙ sym (other_line g _ _ p last b (λ z. c.if-l.true (h.kind ∙ z)))

-- refused by its form
pub returns-in_err-check_form : goal.returns-in_err-check_form
returns-in_err-check_form c b h g p last good eb en es =
    let q = err_from_is_err_and c.from_residual.result c.from_residual.ensures.1 in
    let form = c.in_err-check_form.ensures.0 b h in
    rw (q.1, q.2)
    (form ∙ sym (by_form g _ _ p last b (sym h.kind ∙ c.if-l.false) (λ z. number_some _ (form ∙ z))))

pub moment_of-requires : goal.moment_of-requires
moment_of-requires c = c.requires

-- refused by its moment
pub returns-in_err-unit : goal.returns-in_err-unit
returns-in_err-unit c b h g p last good eb en es =
    let q = err_from_is_err_and c.from_residual-in_err-unit.result c.from_residual-in_err-unit.ensures.1 in
    let tapped = tapped_in c.args.clock in
    let moment = c.in_err-unit.ensures ∙ moment_is g tapped _ p last b good _ _ _ eb en es _ (c.four_at.ensures b h) in
    let formed = sym (c.in_ok-check_form.ensures.0 b h) in
    rw (q.1, q.2)
    (moment ∙ sym (by_moment g _ _ p last b (sym h.kind ∙ c.if-l.false) formed (λ z. number_some _ (moment ∙ z))))

-- by the room for it
pub returns : goal.returns
returns c b h g p last good eb en es =
    let moment = c.in_ok-unit.ensures in
    step_placed g _ _ p last b good _ _ _ eb en es (sym h.kind ∙ c.if-l.false)
    (sym (c.in_ok-check_form.ensures.0 b h)) _ _ (c.four_at.ensures b h) (sym moment.0) moment.1 c.placed_step.result c.placed_step.ensures

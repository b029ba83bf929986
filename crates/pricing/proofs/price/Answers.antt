-- `price` meets its contract: reading's refusal, or what `price_sheet` gives of the sheet that the text means. Assumes nothing.
use mathlib.Core.Path.{◌≡◌, sym, ap}
use Rattle.std.proofs.lemmas.Result.{err_from_is_err_and}
use Rattle.sheet.specs.Refusal.{outcome_of}
use Rattle.sheet.proofs.AcceptedLaws.{on_refused, on_held, held_sheet}
use Rattle.pricing.specs.Pricing.{price_sheet, price_text, priced_of}
use Rattle.pricing.proofs.price.Goals as goal

pub returns-in_err-r : goal.returns-in_err-r
unfolding price_text
returns-in_err-r c =
    let q = err_from_is_err_and c.from_residual.result c.from_residual.ensures.1 in
    rw (q.1, q.2) (ap priced_of (sym (on_refused _ (λ s. price_sheet s c.args.list.now) c.in_err-r.field-0.0 c.in_err-r.ensures)))

pub price_sheet-requires : goal.price_sheet-requires
price_sheet-requires c = held_sheet _ c.in_ok-r.r c.in_ok-r.ensures

pub returns : goal.returns
unfolding price_text
returns c =
    on_held _ (λ s. price_sheet s c.args.list.now) (λ o. outcome_of c.price_sheet.result ≡ priced_of o) c.in_ok-r.r c.in_ok-r.ensures
    c.price_sheet.ensures

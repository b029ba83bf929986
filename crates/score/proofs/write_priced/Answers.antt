-- `write_priced` meets its contract: the price's refusal; 13 where the slice is shorter than the text; the text. Assumes nothing.
use mathlib.Core.Path.{sym, ap, ◌∙◌}
use Rattle.std.proofs.lemmas.Result.{err_from_is_err_and}
use Rattle.sheet.specs.Sheet.{Sheet}
use Rattle.sheet.specs.Refusal.{outcome_of}
use Rattle.score.specs.Clauses.{PricedPre}
use Rattle.score.proofs.WriteSteps.{OwnPrice, price_given, sheet_refused, few_leaves, short, text_pre, sheet_written}
use Rattle.score.proofs.write_priced.Goals.{In_ok-figures}
use Rattle.score.proofs.write_priced.Goals as goal

pub returns-in_err-figures : goal.returns-in_err-figures
returns-in_err-figures c =
    let q = err_from_is_err_and c.from_residual.result c.from_residual.ensures.1 in
    rw (q.1, q.2)
    (λ s h. sheet_refused s c.args.list.now c.in_err-figures.field-0.0 (sym (ap outcome_of c.in_err-figures.was) ∙ h.own) c.args.score.now)

-- the figures are the tree's own
own : (c : In_ok-figures) (s : Sheet) → PricedPre s c.args.grammar c.args.playing c.args.list.now c.args.price
    → OwnPrice s c.args.list.now c.in_ok-figures.figures
own c s h = price_given s c.args.list.now _ (sym (ap outcome_of c.in_ok-figures.was) ∙ h.own)

pub text_size-requires : goal.text_size-requires
text_size-requires c =
    let h = c.requires.1 in
    let t = own (goal.at.text_size-requires c).In_ok-figures c.requires.0 h in
    few_leaves h.held t _ c.pack_rules-rules.ensures _ c.count_leaves-leaves.ensures

pub returns-then-score-text_size : goal.returns-then-score-text_size
returns-then-score-text_size c =
    rw c.at.ensures
    (λ s h.
    let t = own (goal.at.returns-then-score-text_size c).In_ok-figures s h in
    short h.held t _ c.pack_rules-rules.ensures _ c.count_leaves-leaves.ensures _ _
    c.text_size.ensures c.if-score-text_size.true)

pub write_text-bytes-requires : goal.write_text-bytes-requires
write_text-bytes-requires c =
    let s = c.requires.0 in
    let h = c.requires.1 in
    let t = own (goal.at.write_text-bytes-requires c).In_ok-figures s h in (
      s,
      text_pre h.held t _ c.pack_rules-rules.ensures _ c.count_leaves-leaves.ensures _ _
          c.text_size.ensures c.if-score-text_size.false,
    )

pub returns : goal.returns
returns c =
    λ s h.
    let t = own (goal.at.returns c).In_ok-figures s h in
    sheet_written h.held t _ c.pack_rules-rules.ensures _ c.count_leaves-leaves.ensures _ _ _ _
    c.text_size.ensures c.if-score-text_size.false
    (c.write_text-bytes.ensures s
    (text_pre h.held t _ c.pack_rules-rules.ensures _ c.count_leaves-leaves.ensures _ _
    c.text_size.ensures c.if-score-text_size.false))

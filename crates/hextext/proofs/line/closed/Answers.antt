-- `hextext::closed` meets its contract. Assumes nothing.
use Prim.Native.Nat.{◌+◌}
use mathlib.Core.Path.{◌≡◌, refl, sym, ap, ◌∙◌}
use lib.ListN.{length}
use borrow.Author.Tests.{eq-eqb, ne_eqb}
use Rattle.std.proofs.Common.{Some}
use Rattle.hextext.specs.declared.line.Line.{Line}
use Rattle.hextext.specs.Packed.{packed, no_line, line_if}
use Rattle.hextext.specs.PackedLaws.{line_if_is, line_if_not}
use Rattle.hextext.proofs.PackSteps.{closed_empty, closed_open, closed_line_lem, closes_past, closes_at}
use borrow.Author.Rules.{rules}
use Rattle.hextext.proofs.line.closed.Goals as goal

-- a line of no byte
pub returns-then-l-eq0 : goal.returns-then-l-eq0
unfolding packed
returns-then-l-eq0 c bs e =
    line_if_not no_line refl ∙ ap line_if (sym (closed_empty bs _ _ (sym (ap (λ (l : Line). l.count) e) ∙ c.if-l-eq0.true)))

-- the text ends
pub returns-then-text-i : goal.returns-then-text-i
returns-then-text-i c bs e =
    line_if_not no_line refl ∙ ap line_if (sym (closed_open bs _ _ (closes_past c.args.text.now c.args.i (search rules))))

-- another byte is next
pub returns-then-text-i-ne-CLOSE : goal.returns-then-text-i-ne-CLOSE
returns-then-text-i-ne-CLOSE c bs e =
    let here = closes_at c.args.text.now c.args.i (search rules) in
    line_if_not no_line refl ∙ ap line_if (sym (closed_open bs _ _ (here ∙ ne_eqb _ 10 c.if-text-i-ne-CLOSE.true)))

-- byte 0A is
pub returns : goal.returns
unfolding packed
returns c bs e =
    let here = closes_at c.args.text.now c.args.i (search rules) in
    let some : length bs ≡ 0 → ⊥ = λ z. c.if-l-eq0.false (ap (λ (l : Line). l.count) e ∙ z) in
    (λ j. Some (record { kind = (e j).kind; count = (e j).count; front = (e j).front; tail = (e j).tail; next = c.args.i + 1 }))
    ∙ line_if_is {m = packed bs (c.args.i + 1)} some
    ∙ ap line_if (sym (closed_line_lem bs _ _ some (here ∙ eq-eqb _ 10 c.if-text-i-ne-CLOSE.false)))

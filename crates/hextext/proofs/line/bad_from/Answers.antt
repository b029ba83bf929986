use mathlib.Core.Path.{refl, sym, ◌∙◌}
use native.Mathlib.Omega.{arith}
use borrow.Author.Rules.{rules}
use Rattle.hextext.proofs.BadSteps.{bad_past, bad_stop, bad_next}
use Rattle.hextext.specs.Laws.{line_falls, line_size_pos}
use Rattle.hextext.specs.PackedLaws.{line_next, line_if_some, line_if_none}
use Rattle.hextext.proofs.line.bad_from.Goals as goal

pub loop-at-init : goal.loop-at-init
loop-at-init c = (c.requires, omega arith, refl)

pub overflow_add-line : goal.overflow_add-line
overflow_add-line c =
    let loop = c.loop-at in
    omega (arith, loop.invariant.0)

pub loop-at-smaller : goal.loop-at-smaller
loop-at-smaller c =
    let (is, filled) = line_if_some (sym c.in-Some.is ∙ c.line_at.ensures) in
    line_falls _ _ (search rules) _ (line_next _ _ _ is filled)

pub loop-at-preserved : goal.loop-at-preserved
loop-at-preserved c =
    let text = c.args.text.now in
    let (is, filled) = line_if_some (sym c.in-Some.is ∙ c.line_at.ensures) in
    let next = line_next _ _ _ is filled in
    let further = line_size_pos text c.loop-at.at (search rules) in
    (omega (arith, next, c.loop-at.invariant.0), omega (arith, c.loop-at.invariant.1), c.loop-at.invariant.2 ∙ bad_next _ _ _ is filled _)

pub returns-in_default-clause-number : goal.returns-in_default-clause-number
returns-in_default-clause-number c =
    let none = line_if_none _ (sym c.in_default.is ∙ c.line_at.ensures) in
    sym (c.loop-at.invariant.2 ∙ bad_stop _ _ _ refl _ (search rules) none)

pub returns-in_default-clause-some : goal.returns-in_default-clause-some
returns-in_default-clause-some c some = omega (arith, c.loop-at.invariant.1)

pub returns-clause-number : goal.returns-clause-number
returns-clause-number c =
    let text = c.args.text.now in
    sym (c.loop-at.invariant.2 ∙ bad_past c.loop-at.line text c.loop-at.at (search rules))

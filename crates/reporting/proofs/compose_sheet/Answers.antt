-- `compose_sheet` meets its contract: the line of a refusal of finding, or of 13; else the score lines of the tree found, whose price is
-- the answer of finding. Assumes nothing.
use mathlib.Core.Path.{◌≡◌, refl, ap, subst, ◌∙◌}
use Prim.Native.Nat.{ℕ}
use lib.ListN.{length}
use Rattle.std.proofs.Common.{Ok}
use Rattle.sheet.specs.Sheet.{Sheet}
use Rattle.sheet.specs.Accepted.{SheetHeld}
use Rattle.finding.specs.Finding.{find_sheet, Gives}
use Rattle.reporting.specs.Reporting.{refusal_line}
use Rattle.reporting.proofs.ReportSteps.{refusal_reported, nodes_within, list_size, priced_pre, short_reported, score_reported}
use Rattle.reporting.proofs.compose_sheet.Goals.{In-Ok}
use Rattle.reporting.proofs.compose_sheet.Goals as goal

-- what finding gave of a tree
given : (c : In-Ok) (s : Sheet) → SheetHeld s c.args.grammar c.args.playing
    → Gives (find_sheet s (length c.args.tree.now) (length c.args.work.now)) c.args.tree.now c.find_sheet.new.tree
    c.args.work.now c.find_sheet.new.work (Ok c.in-Ok.found)
given c s h = c.in-Ok.ensures s h

pub returns-in-Err : goal.returns-in-Err
returns-in-Err c =
    λ s h. refusal_reported h c.in-Err.e (c.in-Err.ensures s h) _ _ _
    (c.refuse.ensures.1 ∙ ap (λ (k : ℕ). refusal_line k c.in-Err.e.line) c.number.ensures) _ c.refuse.ensures.0

pub slice_bounds-write_priced-end : goal.slice_bounds-write_priced-end
slice_bounds-write_priced-end c =
    nodes_within c.requires.1 _ (given (goal.at.slice_bounds-write_priced-end c).In-Ok c.requires.0 c.requires.1)

pub slice_bounds-write_priced-end-2 : goal.slice_bounds-write_priced-end-2
slice_bounds-write_priced-end-2 c =
    list_size c.requires.1 _ (given (goal.at.slice_bounds-write_priced-end-2 c).In-Ok c.requires.0 c.requires.1)

pub write_priced-requires : goal.write_priced-requires
write_priced-requires c =
    let s = c.requires.0 in
    let h = c.requires.1 in
    (s, priced_pre h _ (given (goal.at.write_priced-requires c).In-Ok s h))

pub returns-in-Err-write_priced : goal.returns-in-Err-write_priced
returns-in-Err-write_priced c =
    λ s h.
    let f = given (goal.at.returns-in-Err-write_priced c).In-Ok s h in
    short_reported h _ f c.args.score.now _ c.write_priced.result (c.write_priced.ensures s (priced_pre h _ f))
    c.in-Err-write_priced.short c.in-Err-write_priced.is _ _
    (c.refuse-in-Err-write_priced.ensures.1
    ∙ ap (λ (k : ℕ). refusal_line k c.in-Err-write_priced.short.line) c.number-in-Err-write_priced.ensures)
    _ c.refuse-in-Err-write_priced.ensures.0

pub returns-in-Ok-write_priced : goal.returns-in-Ok-write_priced
returns-in-Ok-write_priced c =
    λ s h.
    let f = given (goal.at.returns-in-Ok-write_priced c).In-Ok s h in
    score_reported h _ f c.args.score.now _ c.write_priced.result (c.write_priced.ensures s (priced_pre h _ f))
    c.in-Ok-write_priced.bytes c.in-Ok-write_priced.is _ _ refl

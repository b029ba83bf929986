-- `passed` meets its contract: an idle carry state is passed by no least list, and any other is told by the vector over the parts. Assumes
-- nothing.
use mathlib.Core.Path.{sym, ◌∙◌}
use Rattle.rows.specs.PartLaws.{parted_low}
use Rattle.building.proofs.SuffixSteps.{passed_idle, passed_parts}
use Rattle.building.proofs.passed.Goals as goal

pub idle-requires : goal.idle-requires
idle-requires c =
    let s = c.requires.1.0 in
    let h = c.requires.1.1 in
    (h.parts.few, h.low_row, (s, h.parts.in_bar_lem.prepared))

pub returns-then-idle : goal.returns-then-idle
returns-then-idle c =
    let taken = c.if-idle.true in
    λ s h. passed_idle h c.requires.0 (c.idle.ensures s h.parts.in_bar_lem.prepared taken)

pub parts-x-requires : goal.parts-x-requires
parts-x-requires c =
    let s = c.requires.1.0 in
    let h = c.requires.1.1 in
    (s, h.parts)

pub dot-requires : goal.dot-requires
dot-requires c =
    let s = c.requires.1.0 in
    let h = c.requires.1.1 in
    (parted_low h.parts.divides.rule (c.parts-x.ensures s h.parts), h.low)

pub shape_of-rows : goal.shape_of-rows
shape_of-rows c =
    let s = c.requires.1.0 in
    let h = c.requires.1.1 in
    (c.parts-x.ensures s h.parts).sound.size ∙ sym h.parts.sound.size

pub returns : goal.returns
returns c =
    λ s h. passed_parts h (c.parts-x.ensures s h.parts) c.dot.ensures

-- `write_text` meets its contract: the head's line has room, and the leaves are written behind it. Assumes nothing.
use Rattle.score.proofs.TextSteps.{few_onsets, bars_given, text_done}
use Rattle.score.proofs.write_text.Goals as goal

pub pack_units-units-requires : goal.pack_units-units-requires
pack_units-units-requires c =
    few_onsets c.requires.1

pub write_bars-requires : goal.write_bars-requires
write_bars-requires c =
    let s = c.requires.0 in
    let h = c.requires.1 in (
      s,
      bars_given h _ c.head_line-head.ensures _ _ c.write_line-to.ensures _
          (c.pack_units-units.ensures s.playing h.good h.playing),
    )

pub returns : goal.returns
returns c =
    λ s h. text_done h _ c.head_line-head.ensures _ _ c.write_line-to.ensures _ _
    (c.write_bars.ensures s (bars_given h _ c.head_line-head.ensures _ _ c.write_line-to.ensures _
    (c.pack_units-units.ensures s.playing h.good h.playing)))

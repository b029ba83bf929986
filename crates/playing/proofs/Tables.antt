-- One onset more, as the code's table holds it. Assumes nothing.
use Prim.Native.Nat.{ℕ, ◌+◌, ◌<◌}
use mathlib.Core.Path.{◌≡◌, sym, ap, ◌∙◌}
use mathlib.Core.List.{[], ◌∷◌}
use lib.ListN.{length, set, length-append}
use Rattle.slices.specs.Pad.{pad_map_more}
use Rattle.sheet.specs.declared.clock.Units.{Units}
use Rattle.sheet.specs.declared.table.PlayingTable.{PlayingTable}
use Rattle.sheet.specs.Sheet.{Onset, Playing}
use Rattle.sheet.specs.Reading.{with_onset}
use Rattle.sheet.specs.Held.{units, units_of, pitch_of, playing_table}

-- a table with one onset more
pub onset_stored : (p : Playing) (t : PlayingTable) (o : Onset) (n : ℕ) (u : Units) (x : ℕ)
    → t ≡ playing_table p → n ≡ length p.onsets → n < 512 → u ≡ units_of o → x ≡ o.pitch
    → record { bars = t.bars; count = n + 1; units = set t.units n u; pitches = set t.pitches n x } ≡ playing_table (with_onset p o)
unfolding playing_table with_onset
onset_stored p t o n u x e en room eu ex =
    λ j. record {
      bars = (e j).bars;
      count = (ap (λ (k : ℕ). k + 1) en ∙ sym (length-append p.onsets (o ∷ []))) j;
      units =
          (ap (set t.units n) eu
          ∙ pad_map_more 512 (units 0) units_of p.onsets o t.units n (ap (λ (y : PlayingTable). y.units) e) (sym en) room) j;
      pitches =
          (ap (set t.pitches n) ex
          ∙ pad_map_more 512 0 pitch_of p.onsets o t.pitches n (ap (λ (y : PlayingTable). y.pitches) e) (sym en) room) j;
    }

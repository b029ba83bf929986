-- What the functions over bar lines are given: the bar lines of an accepted sheet as reading holds them (`accepted_timing`).
use Rattle.std.specs.Prelude.{ℕ, ◌+◌, ◌-◌, ◌≤◌, ◌<◌, ◌≡◌, refl, List, map, get_or, Ok}
use Rattle.std.proofs.Math.Path.{ap}
use Rattle.std.proofs.Common.{◌∙◌, arith}
use Rattle.std.proofs.Math.ListN.{get_or-map}
use Rattle.slices.specs.Pad.{get_or-pad}
use Rattle.sheet.specs.declared.clock.Micros.{Micros}
use Rattle.sheet.specs.declared.table.TimingTable.{TimingTable}
use Rattle.sheet.specs.declared.table.Reading.{Reading}
use Rattle.sheet.specs.Sheet.{Timing, TimedSheet, line_at, lasting}
use Rattle.sheet.specs.Outcome.{Outcome, refused, accepted, accepted_not_refused, accepted_value}
use Rattle.sheet.specs.Reading.{read_sheet}
use Rattle.sheet.specs.Held.{micros, playing_table, timing_table, tables, reading_of, Reads}
use Rattle.sheet.specs.Good.{GoodTiming}
use Rattle.sheet.proofs.GoodLaws.{good, good_timing}

-- the moment at place i of the bar lines
abbrev pub moment_in : TimingTable → (i : ℕ) → ℕ
moment_in table i = (get_or table.lines i (micros 0)).0

-- a table that holds the bar lines of so many bars
pub record TimingHeld (bars : ℕ) (timing : Timing) (table : TimingTable) : Type 0 where
  pub one : 1 ≤ bars
  pub sixty_four : bars ≤ 64
  pub good : GoodTiming bars timing
  pub held : table ≡ timing_table timing

-- a reading of a text that is accepted, with what the text means
pub record TimingRead (text : List ℕ) (r : Reading) : Type 0 where
  pub means : TimedSheet
  pub accepts : read_sheet text ≡ accepted means
  pub bars : r.playing.bars ≡ means.sheet.playing.bars
  pub timing : TimingHeld r.playing.bars means.timing r.timing

pub accepted_timing : (text : List ℕ) (r : Reading) → Reads text (Ok r) → TimingRead text r
unfolding tables playing_table
accepted_timing text r e = go (read_sheet text) refl
  where
    go : (o : Outcome TimedSheet) → read_sheet text ≡ o → TimingRead text r
    go (refused k n) q = absurd (accepted_not_refused (e ∙ ap reading_of q))
    go (accepted x) q =
        let h : r ≡ tables x = accepted_value (e ∙ ap reading_of q) in
        let same = ap (λ (y : Reading). y.playing.bars) h in
        let onsets = (good text x q).onsets in
        record {
          means = x;
          accepts = q;
          bars = same;
          timing = record {
            one = rw same onsets.one;
            sixty_four = rw same onsets.sixty_four;
            good = rw same (good_timing text x q);
            held = ap (λ (y : Reading). y.timing) h;
          };
        }

-- each bar lasts from its bar line to the next, which is not before it
module _ (bars : ℕ) (timing : Timing) (table : TimingTable) (h : TimingHeld bars timing table) where
  moment_is : (i : ℕ) → i < 65 → moment_in table i ≡ line_at timing i
  unfolding timing_table
  moment_is i small =
      ap (λ (x : TimingTable). moment_in x i) h.held
      ∙ ap (λ (m : Micros). m.0) (get_or-pad 65 (micros 0) (map micros timing.bar_lines) i small
      ∙ get_or-map micros timing.bar_lines i 0)

  module _ (b : ℕ) (inside : b < bars) where
    pub lasts : moment_in table b ≤ moment_in table (b + 1)
    lasts =
        let few = h.sixty_four in
        let begins = moment_is b (omega (arith, few, inside)) in
        let ends = moment_is (b + 1) (omega (arith, few, inside)) in
        let step = h.good.steps.shortest b (let n = h.good.count in omega (arith, n, inside)) in
        omega (arith, begins, ends, step)

    pub lasting_is : moment_in table (b + 1) - moment_in table b ≡ lasting timing b
    lasting_is =
        let few = h.sixty_four in
        let begins = moment_is b (omega (arith, few, inside)) in
        let ends = moment_is (b + 1) (omega (arith, few, inside)) in
        λ i. ends i - begins i

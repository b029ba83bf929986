-- What holds of a sheet in the course of reading it.
use Rattle.std.specs.Prelude.{ℕ, ◌≤◌, List, length}
use Rattle.slices.specs.Every.{Every}
use Rattle.sheet.specs.Sheet.{Onset, Playing, Timing, unit_in}
use Rattle.sheet.specs.Reading.{Progress, nothing, in_rules, in_taps, in_onsets}
use Rattle.sheet.specs.Good.{GoodRules, GoodOnsets, GoodSteps, GoodTiming}

-- a playing in the course of reading: no onset is later than the last one's time
pub record GoodSoFar (timing : Timing) (p : Playing) (last : ℕ) : Type 0 where
  pub time : GoodTiming p.bars timing
  pub onsets : GoodOnsets p
  pub before : Every (λ (o : Onset). o.unit ≤ unit_in timing last) p.onsets

-- taps in the course of reading: there are B + 1 behind the last
pub record GoodTaps (bars : ℕ) (taps : List ℕ) : Type 0 where
  pub one : 1 ≤ bars
  pub sixty_four : bars ≤ 64
  pub missing : length taps ≤ bars
  pub steps : GoodSteps taps

-- what holds of what has been read
abbrev pub GoodProgress : Progress → Type 0
GoodProgress nothing = Unit {0}
GoodProgress (in_rules g) = GoodRules g
GoodProgress (in_taps g bars taps) = GoodRules g × (1 ≤ length g.rules) × GoodTaps bars taps
GoodProgress (in_onsets g tapped timing p last) = GoodRules g × (1 ≤ length g.rules) × GoodSoFar timing p last

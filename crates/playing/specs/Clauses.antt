-- What the steps of reading a playing promise.
use Rattle.std.specs.Prelude.{ℕ, ◌+◌, ◌≤◌, ◌<◌, ◌≡◌, Bool, cond, List, length, drop, eqb, Result, Ok, Err}
use Rattle.hextext.specs.declared.line.Line.{Line}
use Rattle.sheet.specs.Sheet.{Grammar, Playing, Timing, TimedSheet, no_playing, unit_in, bar_of, in_bar}
use Rattle.sheet.specs.Outcome.{Outcome, accepted}
use Rattle.sheet.specs.Reading.{moment_refusal, room_refusal, in_rules, in_onsets, refusal, with_onset, onset_of, four}
use Rattle.sheet.specs.declared.clock.Micros.{Micros}
use Rattle.sheet.specs.declared.clock.Units.{Units}
use Rattle.sheet.specs.declared.refusal.Refusal.{Refusal}
use Rattle.sheet.specs.declared.refusal.Stop.{Stop}
use Rattle.sheet.specs.Refusal.{number_of}
use Rattle.sheet.specs.Rest.{read_rest, Stopped}
use Rattle.sheet.specs.Held.{LineHeld, micros, timing_table, playing_table}
use Rattle.sheet.specs.Good.{GoodRules}
use Rattle.sheet.specs.SoFar.{GoodSoFar}
use Rattle.sheet.specs.declared.table.PlayingTable.{PlayingTable}
use Rattle.bar_lines.specs.declared.clock.Clock.{Clock}
use Rattle.bar_lines.specs.Lines.{lines_in}
use Rattle.playing.specs.declared.onset.Latest.{Latest}
use Rattle.playing.specs.declared.onset.OnsetStep.{OnsetStep}
use Rattle.playing.specs.declared.Take.{Take}

-- the timing that a clock and the cells of its bar lines tell, and whether the bars are tapped
abbrev pub timing_in : List Micros → Clock → Timing
timing_in cells c = lines_in c.bars cells

abbrev pub tapped_in : Clock → Bool
tapped_in c = eqb c.duration.0 0

-- how many onsets are in bar b, where `run` are in `bar`, the last that has any
unfoldable pub run_in : (bar run b : ℕ) → ℕ
run_in bar run b = cond (eqb b bar) run 0

-- what the next onset is held against, after onsets of which the last is at time `last`
abbrev pub latest_of : Timing → Playing → (last : ℕ) → Latest
latest_of timing p last =
    record {
      time = micros last;
      bar = bar_of (unit_in timing last);
      run = in_bar (bar_of (unit_in timing last)) p.onsets;
    }

-- `bar` is that of the unit of a moment not behind t
abbrev pub LastIn : (cells : List Micros) → Clock → (bar t : ℕ) → Type 0
LastIn cells c bar t = (last : ℕ) × (last ≤ t) × (bar ≡ bar_of (unit_in (timing_in cells c) last))

-- the bar of the last onset is that of its time's unit
abbrev pub LatestIn : (cells : List Micros) → Clock → Latest → Type 0
LatestIn cells c s = s.bar ≡ bar_of (unit_in (timing_in cells c) s.time.0)

-- a moment: its unit, or its refusal
abbrev pub MomentOf : (cells : List Micros) → Clock → (last t : ℕ) → Result Units Refusal → Type 0
MomentOf cells c last t (Ok u) = (0 ≡ moment_refusal c.bars (timing_in cells c) last t) × (u.0 ≡ unit_in (timing_in cells c) t)
MomentOf cells c last t (Err r) = number_of r ≡ moment_refusal c.bars (timing_in cells c) last t

-- an onset line that is not refused: its unit, and what the next onset is held against
pub record OnsetAdded (g : Grammar) (tapped : Bool) (timing : Timing) (p : Playing) (last : ℕ) (b : List ℕ)
    (r : OnsetStep) : Type 0 where
  pub number : 0 ≡ refusal (in_onsets g tapped timing p last) b
  pub unit : r.unit.0 ≡ unit_in timing (four b 1)
  pub latest : r.latest ≡ latest_of timing (with_onset p (onset_of timing b)) (four b 1)

-- an onset line: what it adds, or its refusal
abbrev pub OnsetStepped : Grammar → (tapped : Bool) → Timing → Playing → (last : ℕ) → List ℕ → Result OnsetStep Refusal → Type 0
OnsetStepped g tapped timing p last b (Ok r) = OnsetAdded g tapped timing p last b r
OnsetStepped g tapped timing p last b (Err e) = number_of e ≡ refusal (in_onsets g tapped timing p last) b

-- the same of any good playing whose numbers are those handed over
abbrev pub OnsetStepOf : (bars : ℕ) → (tapped : Bool) → Timing → (count : ℕ) → Latest → List ℕ → Result OnsetStep Refusal → Type 0
OnsetStepOf bars tapped timing count s b r =
    (g : Grammar) (p : Playing) (last : ℕ) → GoodSoFar timing p last → bars ≡ p.bars → count ≡ length p.onsets
    → s ≡ latest_of timing p last → OnsetStepped g tapped timing p last b r

-- there is room for an onset at moment t and unit u, after `count` onsets: what the next onset is held against
pub record StepRoom (count : ℕ) (s : Latest) (t u : ℕ) (r : OnsetStep) : Type 0 where
  pub number : 0 ≡ room_refusal count (run_in s.bar s.run (bar_of u))
  pub unit : r.unit.0 ≡ u
  pub latest : r.latest ≡ record { time = micros t; bar = bar_of u; run = run_in s.bar s.run (bar_of u) + 1 }

-- such an onset, or the refusal for want of room
abbrev pub StepPlaced : (count : ℕ) → Latest → (t u : ℕ) → Result OnsetStep Refusal → Type 0
StepPlaced count s t u (Ok r) = StepRoom count s t u r
StepPlaced count s t u (Err e) = number_of e ≡ room_refusal count (run_in s.bar s.run (bar_of u))

-- a line that adds an onset
pub record StepTaken (cells : List Micros) (c : Clock) (count : ℕ) (s : Latest) (l : Line) (r : OnsetStep) : Type 0 where
  pub filled : l.count ≡ 0 → ⊥
  pub step : (b : List ℕ) → LineHeld l b → OnsetStepOf c.bars (tapped_in c) (timing_in cells c) count s b (Ok r)

-- of the lines from line n, at place `at`, on, those before line n', at place at', have been read as k onsets
pub record OnsetsSoFar (t : List ℕ) (at n : ℕ) (c : Clock) (cells : List Micros)
    (table : PlayingTable) (s : Latest) (at' n' k : ℕ) : Type 0 where
  pub playing : Playing
  pub last : ℕ
  pub good : GoodSoFar (timing_in cells c) playing last
  pub bars_are : c.bars ≡ playing.bars
  pub count : k ≡ length playing.onsets
  pub table_is : table ≡ playing_table playing
  pub latest : s ≡ latest_of (timing_in cells c) playing last
  pub within : at' ≤ length t
  pub line : n' ≤ at' + 1
  pub numbered : 0 < n'
  pub rest : (g : Grammar)
      → read_rest (in_onsets g (tapped_in c) (timing_in cells c) (no_playing c.bars) 0) n (drop at t)
      ≡ read_rest (in_onsets g (tapped_in c) (timing_in cells c) playing last) n' (drop at' t)

-- a playing and its timing as they were read behind the grammar g: what the text comes to
pub record TakeDone (o : Outcome TimedSheet) (g : Grammar) (r : Take) : Type 0 where
  pub playing : Playing
  pub timing : Timing
  pub table : r.playing ≡ playing_table playing
  pub timing_table_lem : r.timing ≡ timing_table timing
  pub sheet : o ≡ accepted (record { sheet = record { grammar = g; playing = playing }; timing = timing })

-- reading a playing off the text t, which comes to o
abbrev pub TakeRead : (t : List ℕ) → Outcome TimedSheet → Grammar → Result Take Stop → Type 0
TakeRead t o g (Ok r) = TakeDone o g r
TakeRead t o g (Err e) = Stopped t o e

-- reading the onsets from line n, at place `at`, on, behind bar lines that cells hold
abbrev pub OnsetsRead : (t : List ℕ) (at n : ℕ) → Grammar → Clock → (cells : List Micros) → Result Take Stop → Type 0
OnsetsRead t at n g c cells r =
    TakeRead t (read_rest (in_onsets g (tapped_in c) (timing_in cells c) (no_playing c.bars) 0) n (drop at t)) g r

-- reading the playing from line n, at place `at`, on, which is the `45` line l behind a grammar with a rule
abbrev pub PlayingRead : (t : List ℕ) (at n : ℕ) → Line → Grammar → Result Take Stop → Type 0
PlayingRead t at n l g r =
    GoodRules g → 1 ≤ length g.rules → l.kind ≡ 0x45 → TakeRead t (read_rest (in_rules g) n (drop at t)) g r

-- The loop over the onset lines: what holds where some have been read, how a line keeps it, and how it ends. Assumes nothing.
use Prim.Native.Nat.{ℕ, ◌+◌, ◌<◌, ◌≤◌}
use mathlib.Core.Path.{◌≡◌, refl, sym, ap, subst, ◌∙◌}
use mathlib.Core.Bool.{Bool}
use mathlib.Core.List.{List, [], ◌∷◌}
use native.Mathlib.Nat.{le_trans, le_of_eq}
use native.Mathlib.Omega.{arith}
use lib.ListN.{length, drop, set, length-append}
use Rattle.hextext.specs.declared.line.Line.{Line}
use Rattle.hextext.specs.Text.{line_bytes}
use Rattle.hextext.specs.Packed.{line_read}
use Rattle.hextext.specs.Laws.{line_within, line_size_pos}
use Rattle.hextext.specs.PackedLaws.{line_next}
use Rattle.sheet.specs.declared.clock.Micros.{Micros}
use Rattle.sheet.specs.declared.table.PlayingTable.{PlayingTable}
use Rattle.playing.specs.declared.onset.Latest.{Latest}
use Rattle.playing.specs.declared.onset.OnsetStep.{OnsetStep}
use Rattle.playing.specs.declared.Take.{Take}
use Rattle.sheet.specs.Sheet.{Grammar, Playing, Timing, no_playing, unit_in, bar_of, in_bar}
use Rattle.std.proofs.Common.{Ok, Err}
use Rattle.sheet.specs.declared.refusal.Refusal.{Refusal}
use Rattle.sheet.specs.Refusal.{number_of, number_some}
use Rattle.sheet.specs.Outcome.{accepted}
use Rattle.sheet.specs.Reading.{byte, four, onset_refusal, onset_of, with_onset, in_onsets, after}
use Rattle.sheet.specs.Rest.{read_rest, stopped, rest_end, rest_past, rest_bad, rest_stop, rest_held, rest_on}
use Rattle.sheet.specs.Held.{LineHeld, units, playing_table, timing_table, no_grammar, micros}
use Rattle.sheet.proofs.BarLines.{first_bar, rises}
use Rattle.sheet.specs.Laws.{end_without, end_with}
use Rattle.sheet.specs.PlayingLaws.{onset_passed, onset_line}
use Rattle.sheet.proofs.GoodBars.{good_none}
use Rattle.sheet.proofs.GoodLines.{good_onset}
use Rattle.bar_lines.specs.declared.clock.Clock.{Clock}
use Rattle.bar_lines.specs.Lines.{ClockOf}
use Rattle.playing.specs.Clauses.{timing_in, tapped_in, LatestIn, OnsetsSoFar, OnsetAdded, OnsetStepOf, TakeDone}
use Rattle.playing.proofs.Tables.{onset_stored}

-- none yet
pub onsets_none : (t : List ℕ) (at n : ℕ) (c : Clock) (cells : List Micros) (table : PlayingTable) (s : Latest) → at ≤ length t
    → n ≤ at + 1 → 0 < n → ClockOf cells c → table ≡ playing_table (no_playing c.bars)
    → s ≡ record { time = micros 0; bar = 0; run = 0 } → OnsetsSoFar t at n c cells table s at n 0
unfolding in_bar
onsets_none t at n c cells table s w l pos clock e none =
    let lines = clock.lines in
    let timing = timing_in cells c in
    record {
      playing = no_playing c.bars;
      last = 0;
      good = record { time = lines.time; onsets = good_none c.bars lines.one lines.sixty_four; before = tt };
      bars_are = refl;
      count = refl;
      table_is = e;
      latest =
          none
          ∙ (λ j. record {
            time = micros 0;
            bar = first_bar timing c.bars lines.time.count (rises c.bars timing lines.time) lines.one j;
            run = 0;
          });
      within = w;
      line = l;
      numbered = pos;
      rest = λ g. refl;
    }

-- another name for the number of the next line
pub renumbered : {t : List ℕ} {at n : ℕ} {c : Clock} {cells : List Micros} {table : PlayingTable} {s : Latest} {at' n' m k : ℕ} → n' ≡ m
    → OnsetsSoFar t at n c cells table s at' n' k → OnsetsSoFar t at n c cells table s at' m k
renumbered {t} {at} {n} {c} {cells} {table} {s} {at'} {n'} {m} {k} e h =
    subst (λ (j : ℕ). OnsetsSoFar t at n c cells table s at' j k) e h

module _ {t : List ℕ} {at n : ℕ} {c : Clock} {cells : List Micros} {table : PlayingTable} {s : Latest} {at' n' k : ℕ}
    (h : OnsetsSoFar t at n c cells table s at' n' k) where
  abbrev timing : Timing
  timing = timing_in cells c

  abbrev tapped : Bool
  tapped = tapped_in c

  abbrev p : Playing
  p = h.playing

  abbrev b : List ℕ
  b = line_bytes (drop at' t)

  -- reading stops at line n' with number m
  abbrev Stops : Grammar → ℕ → Type 0
  Stops g m = read_rest (in_onsets g tapped timing (no_playing c.bars) 0) n (drop at t) ≡ stopped m n' (drop at' t)

  -- the bar of the last onset is that of its time's unit
  pub latest_in : LatestIn cells c s
  latest_in = let e = h.latest in ap (λ (x : Latest). x.bar) e ∙ ap (λ (x : Latest). bar_of (unit_in timing x.time.0)) (sym e)

  -- another line is read
  module _ (inside : at' < length t) (l : Line) (is : l ≡ line_read t at') where
    -- a bad one
    pub onsets_bad : (g : Grammar) → l.count ≡ 0 → (m : ℕ) → Stops g m
    onsets_bad g e m = h.rest g ∙ rest_bad t at' inside l is (in_onsets g tapped timing p h.last) n' h.numbered e m

    -- one that is well formed
    module _ (filled : l.count ≡ 0 → ⊥) where
      line_held : LineHeld l b
      line_held = rest_held t at' inside l is filled

      -- and refused
      pub onsets_stop : (g : Grammar) (e : Refusal) → ((d : List ℕ) → LineHeld l d → OnsetStepOf c.bars tapped timing k s d (Err e))
          → Stops g (number_of e)
      onsets_stop g e told =
          h.rest g
          ∙ rest_stop t at' inside l is (in_onsets g tapped timing p h.last) n' (number_of e)
          (told b line_held g p h.last h.good h.bars_are h.count h.latest) (number_some e)

      -- or taken
      module _ (r : OnsetStep) (told : (d : List ℕ) → LineHeld l d → OnsetStepOf c.bars tapped timing k s d (Ok r)) where
        added : (g : Grammar) → OnsetAdded g tapped timing p h.last b r
        added g = told b line_held g p h.last h.good h.bars_are h.count h.latest

        met : onset_refusal timing p h.last b ≡ 0
        met = (onset_line no_grammar tapped timing p h.last b (sym (added no_grammar).number)).1

        pub onsets_room : k < 512
        onsets_room = let m = (onset_passed timing p h.last b met).room in omega (arith, h.count)

        onward : (g : Grammar)
            → read_rest (in_onsets g tapped timing p h.last) n' (drop at' t)
            ≡ read_rest (in_onsets g tapped timing (with_onset p (onset_of timing b)) (four b 1)) (n' + 1) (drop l.next t)
        unfolding after
        onward g = rest_on t at' inside l is (in_onsets g tapped timing p h.last) n' filled (sym (added g).number)

        pub onsets_more : (pitch : ℕ) → ((d : List ℕ) → LineHeld l d → pitch ≡ byte d 5) → (table' : PlayingTable)
            → table' ≡ record {
              bars = table.bars;
              count = k + 1;
              units = set table.units k r.unit;
              pitches = set table.pitches k pitch;
            }
            → OnsetsSoFar t at n c cells table' r.latest l.next (n' + 1) (k + 1)
        unfolding onset_of with_onset
        onsets_more pitch pitch-is table' e =
            let o = onset_of timing b in
            let unit = (added no_grammar).unit in
            let next = line_next t at' l is filled in
            let m = line_size_pos t at' inside in
            record {
              playing = with_onset p o;
              last = four b 1;
              good = good_onset timing p h.last b h.good met;
              bars_are = h.bars_are;
              count = ap (λ (x : ℕ). x + 1) h.count ∙ sym (length-append p.onsets (o ∷ []));
              table_is =
                  e ∙ onset_stored p table o k r.unit _ h.table_is h.count onsets_room (λ j. units (unit j))
                  (pitch-is b line_held);
              latest = (added no_grammar).latest;
              within = le_trans (le_of_eq next) (line_within t at' (omega arith));
              line = omega (arith, h.line, next);
              numbered = omega arith;
              rest = λ g. h.rest g ∙ onward g;
            }

  -- no line is left
  module _ (past : length t ≤ at') (g : Grammar) where
    -- before the first onset
    pub onsets_missing : k ≡ 0 → Stops g 3
    onsets_missing e =
        h.rest g
        ∙ rest_end (in_onsets g tapped timing p h.last) n' t at' 3 past (end_without g tapped timing p h.last n' (sym h.count ∙ e))

    -- after it
    pub onsets_done : (k ≡ 0 → ⊥) → read_rest (in_onsets g tapped timing (no_playing c.bars) 0) n (drop at t) ≡ accepted
        (record { sheet = record { grammar = g; playing = p }; timing = timing })
    onsets_done f =
        h.rest g ∙ rest_past (in_onsets g tapped timing p h.last) n' t at' past
        ∙ end_with g tapped timing p h.last n' (λ e. f (h.count ∙ e))

    -- and what is returned then
    pub take_done : (k ≡ 0 → ⊥) → (r : Take) → r.playing ≡ table → r.timing ≡ timing_table timing
        → TakeDone (read_rest (in_onsets g tapped timing (no_playing c.bars) 0) n (drop at t)) g r
    take_done f r e time =
        record { playing = p; timing = timing; table = e ∙ h.table_is; timing_table_lem = time; sheet = onsets_done f }

-- What the entries need of a reading, which is refused or accepted. Assumes nothing.
use Prim.Native.Nat.{ℕ, ◌≤◌, ◌<◌}
use mathlib.Core.Path.{◌≡◌, refl, sym, ap, ◌∙◌}
use mathlib.Core.List.{List, [], ◌∷◌, map}
use native.Mathlib.Omega.{arith}
use native.Mathlib.Nat.{le_trans}
use lib.ListN.{get_or, get_or-map, get_or-eq_default}
use Rattle.slices.specs.Pad.{get_or-pad}
use Rattle.sheet.specs.declared.table.Reading.{Reading}
use Rattle.sheet.specs.declared.clock.Micros.{Micros}
use Rattle.sheet.specs.declared.clock.Units.{Units}
use Rattle.sheet.specs.Sheet.{Onset, Sheet, TimedSheet}
use Rattle.std.proofs.Common.{Ok, Err}
use Rattle.sheet.specs.declared.refusal.Refused.{Refused}
use Rattle.sheet.specs.Outcome.{Outcome, refused, accepted, number_in, line_in, value_in, accepted_value, accepted_not_refused}
use Rattle.sheet.specs.Refusal.{number_of}
use Rattle.sheet.specs.Reading.{read_sheet}
use Rattle.sheet.specs.Held.{micros, units, units_of, grammar_table, playing_table, timing_table, tables, reading_of, Reads}
use Rattle.sheet.specs.Good.{Good}
use Rattle.sheet.proofs.GoodLaws.{good, good_timing}
use Rattle.sheet.specs.Bounds.{refused_within}
use Rattle.sheet.proofs.AcceptedLaws.{refused_reading, accepted_reading}
use Rattle.sizes.specs.Sizes.{work_cells, tree_bytes}
use Rattle.score.specs.Writing.{written_of}
use Rattle.cabi.specs.Entries.{write_cells, check_of, work_of, tree_of, no_onset, unit_at, bar_line_of}

-- by whether a text is refused
module _ (t : List ℕ) where
  by_outcome : (P : Outcome TimedSheet → Type 0) → ((k n : ℕ) → read_sheet t ≡ refused k n → P (refused k n))
      → ((x : TimedSheet) → read_sheet t ≡ accepted x → P (accepted x)) → P (read_sheet t)
  by_outcome P f g = go (read_sheet t) refl
    where
      go : (o : Outcome TimedSheet) → read_sheet t ≡ o → P o
      go (refused k n) q = f k n q
      go (accepted x) q = g x q

  -- past the places of a table there is no onset, and no bar line
  pub unit_none : (i : ℕ) → 512 ≤ i → 0 ≡ unit_at (read_sheet t) i
  unit_none i h =
      by_outcome (λ (o : Outcome TimedSheet). 0 ≡ unit_at o i) (λ k n q. refl)
      (λ x q. sym (ap (λ (o : Onset). o.unit) (get_or-eq_default x.sheet.playing.onsets no_onset {n = i}
      (le_trans (good t x q).onsets.most h))))

  pub bar_line_none : (i : ℕ) → 65 ≤ i → 0 ≡ bar_line_of (read_sheet t) i
  bar_line_none i h =
      by_outcome (λ (o : Outcome TimedSheet). 0 ≡ bar_line_of o i) (λ k n q. refl)
      (λ x q.
      let count = (good_timing t x q).count in
      let few = (good t x q).onsets.sixty_four in
      sym (get_or-eq_default x.timing.bar_lines 0 {n = i} (omega (arith, count, few, h))))

-- a text that is refused
module _ (t : List ℕ) (e : Refused) (h : Reads t (Err e)) where
  pub refusal_is : refused (number_of e.refusal) e.line ≡ read_sheet t
  refusal_is = sym (refused_reading t e h)

  pub line_small : e.line ≤ 16385
  line_small = (refused_within t _ _ (refused_reading t e h)).1

-- a text that means a sheet
module _ (t : List ℕ) (r : Reading) (h : Reads t (Ok r)) where
  -- it has no refusal
  pub accepted_is : 0 ≡ check_of (read_sheet t)
  accepted_is = let (s, a, held) = accepted_reading t r h in sym (ap check_of a.1)

  -- the counts are within the tables
  pub counts : (r.grammar.count ≤ 64) × (r.playing.count ≤ 512)
  unfolding grammar_table playing_table
  counts =
      let (s, a, held) = accepted_reading t r h in
      (rw held.grammar held.good.rules.most, rw held.playing held.good.onsets.most)

  -- the required lengths are its sheet's
  pub work_is : (n : ℕ)
      → ((s : Sheet) → Good s → r.grammar ≡ grammar_table s.grammar → r.playing ≡ playing_table s.playing
      → n ≡ work_cells s)
      → n ≡ work_of (read_sheet t)
  work_is n f = let (s, a, held) = accepted_reading t r h in f s held.good held.grammar held.playing ∙ sym (ap work_of a.1)

  pub tree_is : (n : ℕ) → ((s : Sheet) → r.playing ≡ playing_table s.playing → n ≡ tree_bytes s) → n ≡ tree_of (read_sheet t)
  tree_is n f = let (s, a, held) = accepted_reading t r h in f s held.playing ∙ sym (ap tree_of a.1)

  -- a place of the units
  pub unit_is : (i : ℕ) → i < 512 → (get_or r.playing.units i (units 0)).0 ≡ unit_at (read_sheet t) i
  unfolding tables playing_table
  unit_is i few =
      by_outcome t (λ (o : Outcome TimedSheet). accepted r ≡ reading_of o → (get_or r.playing.units i (units 0)).0 ≡ unit_at o i)
      (λ k n q e. absurd (accepted_not_refused e))
      (λ x q e. ap (λ (y : Reading). (get_or y.playing.units i (units 0)).0) (accepted_value e)
      ∙ ap (λ (u : Units). u.0) (get_or-pad 512 (units 0) (map units_of x.sheet.playing.onsets) i few
      ∙ get_or-map units_of x.sheet.playing.onsets i no_onset))
      h

  -- and of the bar lines
  pub bar_line_is : (i : ℕ) → i < 65 → (get_or r.timing.lines i (micros 0)).0 ≡ bar_line_of (read_sheet t) i
  unfolding tables timing_table
  bar_line_is i few =
      by_outcome t (λ (o : Outcome TimedSheet). accepted r ≡ reading_of o → (get_or r.timing.lines i (micros 0)).0 ≡ bar_line_of o i)
      (λ k n q e. absurd (accepted_not_refused e))
      (λ x q e. ap (λ (y : Reading). (get_or y.timing.lines i (micros 0)).0) (accepted_value e)
      ∙ ap (λ (m : Micros). m.0) (get_or-pad 65 (micros 0) (map micros x.timing.bar_lines) i few
      ∙ get_or-map micros x.timing.bar_lines i 0))
      h

-- the numbers of a score by its byte count
abbrev pub count_cells : Outcome ℕ → List ℕ
count_cells o = number_in o ∷ line_in o ∷ value_in 0 o ∷ []

pub cells_written : (o : Outcome (List ℕ)) → count_cells (written_of o) ≡ write_cells o
cells_written (refused k n) = refl
cells_written (accepted t) = refl

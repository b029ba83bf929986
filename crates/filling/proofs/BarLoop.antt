-- The onsets of a bar met one after another, from the bar's first on: what holds where some have been met, and how one more keeps it.
-- Assumes nothing.
use Rattle.std.specs.Prelude.{◌≡◌, ℕ, ◌+◌, ◌*◌, ◌<◌, ◌≤◌, List, Option, length, slice_index_or}
use Rattle.std.proofs.Common.{arith}
use Rattle.sheet.specs.Sheet.{Sheet, bar_units}
use Rattle.expansions.specs.Items.{first_at}
use Rattle.expansions.specs.Places.{first_most}
use Rattle.rows.specs.declared.slots.Bar.{Bar}
use Rattle.rows.specs.OnsetLaws.{Behind, behind_start, behind_more}
use Rattle.rows.specs.Slots.{Sound}
use Rattle.filling.specs.Filling.{FillEntry, OnsetFilled}
use Rattle.filling.specs.OnsetLaws.{bar_number}

module _ {s : Sheet} {plan us : List ℕ} {order : Option (List ℕ)} {rows : List ℕ} {bar : Bar}
    (e : FillEntry s plan us order rows bar) where
  -- the first i onsets of the piece are met, from the bar's first on
  pub record BarTo (now pairs : List ℕ) (i : ℕ) : Type 0 where
    pub behind : bar.first ≤ i
    pub within : i ≤ first_at s (bar.number * bar_units + bar_units)
    pub sound : Sound s now
    pub size : length pairs ≡ 2688

  search : Behind s us bar.first (bar.number * bar_units) (bar.number * bar_units + bar_units)
  search = record {
    held = e.in_bar_lem.onsets;
    first = e.in_bar_lem.bar_first;
    ahead = omega arith;
    near = omega (arith, bar_number e);
  }

  pub bar_begin : {pairs : List ℕ} → length pairs ≡ 2688 → BarTo rows pairs bar.first
  bar_begin size = record { behind = omega arith; within = behind_start search; sound = e.sound; size = size }

  pub bar_place : {now pairs : List ℕ} {i : ℕ} → BarTo now pairs i → i ≤ 512
  bar_place {i = i} p =
      omega (arith, p.within, first_most s e.in_bar_lem.onsets.good (bar.number * bar_units + bar_units))

  module _ {now pairs : List ℕ} {i : ℕ} (p : BarTo now pairs i) (before : slice_index_or us i 0 < 20160 * bar.number + 20160) where
    next : (i + 1 ≤ first_at s (bar.number * bar_units + bar_units)) × (i + 1 ≤ 512)
    next = behind_more search i p.within (omega arith)

    pub bar_next : i + 1 ≤ 512
    bar_next = next.1

    pub bar_more : {after cells : List ℕ} → OnsetFilled s after cells → BarTo after cells (i + 1)
    bar_more told = record { behind = omega (arith, p.behind); within = next.0; sound = told.sound; size = told.size }

-- All lengths of an onset, from the shortest to the longest, and all onsets of a bar. Assumes nothing.
use Rattle.std.specs.Prelude.{◌≡◌, ℕ, ◌+◌, ◌-◌, ◌*◌, ◌<◌, ◌≤◌, List, length, Option, Some}
use Rattle.std.proofs.Common.{subst, ap, ◌∙◌, arith}
use Rattle.sheet.specs.Sheet.{Sheet, bar_units}
use Rattle.expansions.specs.Items.{first_at}
use Rattle.expansions.specs.Tables.{UnitsHeld, last_unit}
use Rattle.plan.specs.Plan.{lengths, lengths_cell}
use Rattle.rows.specs.declared.slots.Bar.{Bar}
use Rattle.rows.specs.PartLaws.{FirstBehind}
use Rattle.filling.specs.Filling.{FillEntry, Filled, AtEntry, FilledAt, OnsetEntry, OnsetFilled}

-- ---- the lengths of an onset

module _ {s : Sheet} {plan us order rows pairs : List ℕ} {bar : Bar} {from : ℕ}
    (e : OnsetEntry s plan us order rows pairs bar from) where
  -- behind the last length nothing is to be filled
  pub onset_begin : {best : List ℕ} {l : ℕ} → l ≡ lengths_cell plan → length best ≡ 32
      → (l ≤ lengths s) × FilledAt s order rows pairs best bar from l
  onset_begin {best} {l} is size =
      let all : l ≡ lengths s = is ∙ e.of_bar.in_bar_lem.prepared.lengths_are in (
        omega arith,
        record {
          sound = e.sound;
          filled = record { size = e.size; cell = λ i left h lone. absurd (omega (arith, lone.length_in)) };
          size = size;
        },
      )

  module _ {now cells best : List ℕ} {l : ℕ} (begun : 0 < from) (some_left : 0 < l)
      (p : (l ≤ lengths s) × FilledAt s order now cells best bar from l) where
    pub onset_asked : AtEntry s plan us order now cells best bar from (l - 1)
    onset_asked = record {
      of_bar = e.of_bar;
      begun = begun;
      ordered = e.ordered;
      sound = p.1.sound;
      length_in = omega (arith, p.0);
      filled = subst (Filled s order cells bar from) (omega arith) p.1.filled;
      size = p.1.size;
    }

    pub onset_more : {after more best' : List ℕ} → FilledAt s order after more best' bar from (l - 1)
        → (l - 1 ≤ lengths s) × FilledAt s order after more best' bar from (l - 1)
    onset_more told = (omega (arith, p.0), told)

-- ---- the onsets of a bar

module _ {s : Sheet} {plan us order rows : List ℕ} {bar : Bar} where
  -- where there is an order it is known whole
  pub bar_given : {given : Option (List ℕ)} → given ≡ Some order → FillEntry s plan us given rows bar
      → FillEntry s plan us (Some order) rows bar
  bar_given is = subst (λ (o : Option (List ℕ)). FillEntry s plan us o rows bar) is

-- whether there is an order or not, a bar's number is below 64
module _ {s : Sheet} {plan us : List ℕ} {order : Option (List ℕ)} {rows : List ℕ} {bar : Bar}
    (e : FillEntry s plan us order rows bar) where
  pub bar_number : bar.number < 64
  bar_number = omega (arith, e.in_bar_lem.bar_in, e.in_bar_lem.onsets.good.sixty_four)

module _ {s : Sheet} {plan us order rows : List ℕ} {bar : Bar} (e : FillEntry s plan us (Some order) rows bar) where
  -- the place of the first onset behind the bar is looked for
  module _ {right : ℕ} (er : right ≡ bar_units * bar.number + bar_units) where
    pub bar_search : (t : Sheet) × (left : ℕ) × UnitsHeld t us × (bar.first ≡ first_at t left) × (left ≤ right)
        × (right ≤ last_unit)
    bar_search =
        (s, bar.number * bar_units, e.in_bar_lem.onsets, e.in_bar_lem.bar_first, omega (arith, er), omega (arith, er, bar_number e))

    pub bar_end : {to : ℕ} → FirstBehind us bar.first right to → to ≡ first_at s (bar.number * bar_units + bar_units)
    bar_end told =
        told s (bar.number * bar_units) e.in_bar_lem.onsets e.in_bar_lem.bar_first (omega (arith, er)) (omega (arith, er, bar_number e))
        ∙ ap (λ (u : ℕ). first_at s u) (omega (arith, er))

  -- an onset before it is of the bar
  pub bar_asked : {now pairs : List ℕ} {i to : ℕ} → to ≡ first_at s (bar.number * bar_units + bar_units) → bar.first ≤ i
      → i < to → OnsetFilled s now pairs → OnsetEntry s plan us order now pairs bar i
  bar_asked et behind before p = record {
    of_bar = record { in_bar_lem = e.in_bar_lem; behind = behind; before = omega (arith, et) };
    ordered = e.ordered;
    sound = p.sound;
    size = p.size;
  }

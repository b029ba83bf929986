-- The interval of a length around an onset of a bar: it is the last multiple of the length at or before the onset, and the cells beside the
-- onset in the table of units say whether it is the only one inside. Assumes nothing.
use Rattle.std.specs.Prelude.{◌≡◌, ℕ, ◌+◌, ◌-◌, ◌*◌, ◌/◌, ◌%◌, ◌<◌, ◌≤◌, Bool, true, false, List, slice_index, slice_index_or, refl}
use Rattle.std.proofs.Common.{sym, ap, subst, ◌∙◌, div-add-mod', mod-lt, mul-le-mul_right, arith}
use Rattle.std.proofs.Math.Decide.{dec_lt, ℕ_discrete}
use Rattle.sheet.specs.declared.clock.Units.{Units}
use Rattle.sheet.specs.Sheet.{Sheet, bar_units}
use Rattle.sheet.specs.Good.{GoodOnsets}
use Rattle.sheet.specs.Held.{units}
use Rattle.trees.proofs.IntervalLaws.{named}
use Rattle.sizes.specs.SizesLaws.{length-divides}
use Rattle.expansions.specs.Tables.{last_unit}
use Rattle.expansions.specs.Items.{first_at}
use Rattle.expansions.specs.Places.{first_most, first_next}
use Rattle.plan.specs.Plan.{lengths, length_at}
use Rattle.plan.specs.PlanLaws.{length_is, length_positive}
use Rattle.rows.specs.declared.slots.Bar.{Bar}
use Rattle.rows.specs.OnsetLaws.{unit_at, unit_behind, unit_before, place_is, first_later}
use Rattle.rows.specs.Slots.{item_at}
use Rattle.rows.specs.OnePartLaws.{part_of_unit, one_onset, one_unit}
use Rattle.filling.specs.Filling.{OfBar, Lone, LoneBy}
use Rattle.filling.specs.FallLaws.{unit_later}

-- what a test of it told, by its outcome
module _ {us : List ℕ} {first from left right : ℕ} {x : Bool} (told : LoneBy us first from left right x) where
  pub lone_yes : x ≡ true → LoneBy us first from left right true
  lone_yes e = subst (LoneBy us first from left right) e told

  pub lone_no : x ≡ false → LoneBy us first from left right false
  lone_no e = subst (LoneBy us first from left right) e told

module _ {s : Sheet} {plan us : List ℕ} {bar : Bar} {from : ℕ} (o : OfBar s plan us bar from) where
  abbrev good : GoodOnsets s.playing
  good = o.in_bar_lem.onsets.good

  abbrev start : ℕ
  start = bar.number * bar_units

  abbrev unit : ℕ
  unit = unit_at s from

  pub of_bar_number : bar.number < 64
  of_bar_number = omega (arith, o.in_bar_lem.bar_in, good.sixty_four)

  pub of_bar_place : from < 512
  of_bar_place = omega (arith, o.before, first_most s good (start + bar_units))

  cells : (i : ℕ) → slice_index us i ≡ unit_at s i
  cells i = ap (λ xs. slice_index xs i) o.in_bar_lem.onsets.cells

  pub of_bar_unit : slice_index_or us from 0 ≡ unit
  of_bar_unit = cells from

  -- the onset lies in the bar
  pub unit_low : start ≤ unit
  unit_low =
      omega (
        arith,
        unit_behind s good start (omega (arith, of_bar_number)),
        unit_later s good (first_at s start) from (omega (arith, o.behind, o.in_bar_lem.bar_first)) (omega (arith, of_bar_place)),
      )

  unit_high : unit < start + bar_units
  unit_high = unit_before s good (start + bar_units) from (omega (arith, of_bar_number)) o.before

  module _ {l : ℕ} (below : l < lengths s) where
    abbrev p : ℕ
    p = length_at s l

    positive : 0 < p
    positive = length_positive s o.in_bar_lem.prepared.good l below

    -- how far the onset is behind the left bound, and the left bound
    abbrev pub along : ℕ
    along = (unit - start) % p

    abbrev pub bound : ℕ
    bound = unit - along

    along_less : along < p
    along_less = mod-lt (unit - start) positive

    whole : (unit - start) / p * p + along ≡ unit - start
    whole = div-add-mod' (unit - start) p

    bound_is : bound ≡ start + (unit - start) / p * p
    bound_is = omega (arith, whole, unit_low)

    pub bound_along : (along ≤ unit) × (along ≤ p) × (along ≡ unit - bound)
    bound_along = (omega (arith, whole, unit_low), omega (arith, along_less), omega (arith, whole, unit_low))

    ends : bound + p ≤ start + bar_units
    ends = go (length-divides s.grammar.rules p (length_is s o.in_bar_lem.prepared.good l below))
      where
        go : (k : ℕ) × (k * p ≡ 20160) → bound + p ≤ start + bar_units
        go (k, e) =
            let within = (part_of_unit start p k unit unit_low (omega (arith, unit_high))).0 in
            omega (arith, bound_is, mul-le-mul_right p within)

    pub bound_near : bound + p ≤ last_unit
    bound_near = omega (arith, ends, of_bar_number)

    -- every interval of the length in which the onset is the only one begins there
    pub lone_left : {left : Units} → Lone s bar l left from → left.0 ≡ bound
    lone_left {left} a =
        let near : left.0 + p ≤ last_unit = omega (arith, (a.aligned 0).ends, of_bar_number) in
        let lies = one_unit s good left.0 p near a.one in
        let same : unit_at s (first_at s left.0) ≡ unit = ap (unit_at s) (sym a.first) in
        named start (item_at s 0 l left) (unit - start) (a.aligned 0) (omega (arith, lies.0, same, unit_low))
        (omega (arith, lies.1, same, unit_low))
        ∙ sym bound_is

    -- the cells beside the onset say that it is alone
    pub lone_there : 0 < from → LoneBy us bar.first from bound (bound + p) true → Lone s bar l (units bound) from
    lone_there begun told =
        record {
          length_in = below;
          aligned = λ q. record { times = (unit - start) / p; is = bound_is; ends = ends };
          first = first;
          begun = begun;
          one = one_onset s good bound p bound_near (omega (arith, ap (unit_at s) (sym first), along_less, bound_along.2))
              (omega (arith, (told.yes refl).0, cells (from + 1), ap (λ (i : ℕ). unit_at s (i + 1)) (sym first)));
        }
      where
        least : from ≤ first_at s bound
        least = elim (ℕ_discrete from bar.first) [
          | yes e ↦
              omega (arith, e, o.in_bar_lem.bar_first, first_later s good start bound (omega (arith, bound_is)))
          | no n ↦ elim (dec_lt (from - 1) (first_at s bound)) [
            | yes h ↦ omega (arith, o.behind)
            | no h ↦
                absurd (omega (
                  arith,
                  (told.yes refl).1 n,
                  cells (from - 1),
                  unit_behind s good bound (omega (arith, bound_near)),
                  unit_later s good (first_at s bound) (from - 1) (omega arith) (omega (arith, of_bar_place)),
                ))
          ]
        ]

        first : from ≡ first_at s bound
        first = place_is s good bound from (omega (arith, bound_near)) least (omega arith)

    -- or that it is not
    pub lone_nowhere : {left : Units} → LoneBy us bar.first from bound (bound + p) false → Lone s bar l left from → ⊥
    lone_nowhere {left} told a =
        let is = lone_left a in
        let near : left.0 + p ≤ last_unit = omega (arith, (a.aligned 0).ends, of_bar_number) in
        let next : first_at s (left.0 + p) ≡ from + 1 = omega (arith, first_next s good left.0 p, a.one, a.first) in
        told.no refl
        (omega (arith, is, cells (from + 1), unit_behind s good (left.0 + p) near, ap (unit_at s) next))
        (λ n.
        omega (
          arith,
          is,
          cells (from - 1),
          unit_before s good left.0 (from - 1) (omega arith) (omega (arith, a.first, o.behind)),
        ))

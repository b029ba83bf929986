-- One length more of an onset: where it is alone in the interval, its leaves, then all rules, then its rows are stored; where it is not,
-- there is nothing to fill. Assumes nothing.
use Rattle.std.specs.Prelude.{◌≡◌, ℕ, zero, suc, ◌+◌, ◌-◌, ◌*◌, ◌%◌, ◌<◌, ◌≤◌, true, false, List, length, slice_index, slice_index_or, refl}
use Rattle.std.proofs.Common.{sym, ap, ◌∙◌, add-zero, arith}
use Rattle.std.proofs.Math.Decide.{dec_lt}
use Rattle.sheet.specs.declared.clock.Units.{Units}
use Rattle.sheet.specs.Sheet.{Sheet}
use Rattle.sheet.specs.Held.{units}
use Rattle.trees.specs.ValidTrees.{rule_at}
use Rattle.trees.proofs.RoomLaws.{good_division}
use Rattle.expansions.specs.Tables.{last_unit}
use Rattle.plan.specs.Plan.{Prepared, length_at, length_cell, arity_of}
use Rattle.plan.specs.PlanLaws.{lengths_most, length_positive}
use Rattle.rows.specs.declared.slots.Bar.{Bar}
use Rattle.rows.specs.OnsetLaws.{unit_at}
use Rattle.rows.specs.PackedLaws.{packed_cell}
use Rattle.rows.specs.PackedTurnLaws.{packed_to}
use Rattle.rows.specs.Slots.{item_at, slot_in}
use Rattle.rows.specs.One.{OneEntry}
use Rattle.rows.specs.OneCallLaws.{leaf_one_told}
use Rattle.filling.specs.Order.{used_in}
use Rattle.filling.specs.Filling.{Lone, Met, Best, Solved, LoneBy, LeavesTo, LengthEntry, KeepEntry, KeptTo, AtEntry, FilledAt}
use Rattle.filling.specs.RuleLaws.{lone_stands}
use Rattle.filling.specs.BestLaws.{packed_least}
use Rattle.filling.specs.LoneLaws.{bound, along, of_bar_unit, unit_low, bound_along, bound_near, lone_left, lone_there, lone_nowhere}

module _ {s : Sheet} {plan us order rows pairs best : List ℕ} {bar : Bar} {from l : ℕ}
    (e : AtEntry s plan us order rows pairs best bar from l) where
  abbrev planned : Prepared s plan
  planned = e.of_bar.in_bar_lem.prepared

  pub at-length : l < 84
  at-length = omega (arith, e.length_in, lengths_most s)

  pub at_few : used_in order ≤ 16
  at_few = omega (arith, e.ordered.used.most, planned.good.sixteen)

  pub at_unit : 20160 * bar.number ≤ slice_index us from
  at_unit = omega (arith, of_bar_unit e.of_bar, unit_low e.of_bar)

  module _ {len d left : ℕ} (el : len ≡ length_cell plan l) (ed : d ≡ (slice_index us from - 20160 * bar.number) % len)
      (ee : left ≡ slice_index us from - d) where
    len_is : len ≡ length_at s l
    len_is = el ∙ planned.length-at l at-length

    pub at_positive : 0 < len
    at_positive = omega (arith, len_is, length_positive s planned.good l e.length_in)

    along_is : d ≡ along e.of_bar e.length_in
    along_is =
        let off : slice_index_or us from 0 - 20160 * bar.number ≡ unit_at s from - bar.number * 20160 =
        omega (arith, of_bar_unit e.of_bar) in
        ed ∙ ap (λ (n : ℕ). n % len) off ∙ ap (λ (n : ℕ). (unit_at s from - bar.number * 20160) % n) len_is

    left_is : left ≡ bound e.of_bar e.length_in
    left_is = omega (arith, ee, along_is, of_bar_unit e.of_bar)

    right_is : left + len ≡ bound e.of_bar e.length_in + length_at s l
    right_is = omega (arith, left_is, len_is)

    pub at_along : d ≤ slice_index us from
    at_along = omega (arith, along_is, (bound_along e.of_bar e.length_in).0, of_bar_unit e.of_bar)

    pub at_near : left + len ≤ last_unit
    at_near = omega (arith, right_is, bound_near e.of_bar e.length_in)

    -- the onset is not alone
    pub at_idle : LoneBy us bar.first from left (left + len) false → FilledAt s order rows pairs best bar from l
    at_idle told = record {
      sound = e.sound;
      filled = record { size = e.filled.size; cell = cell };
      size = e.size;
    }
      where
        told' : LoneBy us bar.first from (bound e.of_bar e.length_in) (bound e.of_bar e.length_in + length_at s l) false
        told' = rw (sym right_is, sym left_is) told

        cell : (i : ℕ) (lo : Units) → l ≤ i → Lone s bar i lo from → (q m : ℕ) → q < used_in order → m < 2
            → slice_index pairs (32 * i + 2 * q + m) ≡ packed_cell s (item_at s q i lo) 0 m
        cell i lo h lone q m hq hm = elim (dec_lt l i) [
          | yes less ↦ e.filled.cell i lo (omega arith) lone q m hq hm
          | no more ↦
              let same : i ≡ l = omega arith in
              let here : Lone s bar l lo from = rw same at lone in
              absurd (lone_nowhere e.of_bar e.length_in told' here)
        ]

    -- it is
    module _ (told : LoneBy us bar.first from left (left + len) true) where
      there : Lone s bar l (units left) from
      there =
          rw left_is
          (lone_there e.of_bar e.length_in e.begun (rw (sym right_is, sym left_is) told))

      along_behind : d ≡ slice_index us from - left
      along_behind = omega (arith, ee, at_along)

      pub leaves_asked : (used_in order ≤ 16) × (length best ≡ 32) × (d ≤ len) × (len ≤ last_unit) × ((s : Sheet) × Prepared s plan)
      leaves_asked = (
        at_few,
        e.size,
        omega (arith, along_is, (bound_along e.of_bar e.length_in).1, len_is),
        omega (arith, at_near),
        (s, planned),
      )

      -- the leaves
      module _ {now : List ℕ} (leaves : LeavesTo plan now len d (used_in order)) where
        one_entry : (q : ℕ) → q < used_in order
            → OneEntry s plan us rows bar q l (units left) from (4 * slot_in s bar.number q l (from - bar.first) 0)
        one_entry q h = record {
          entry = record {
            entry = record {
              stands = lone_stands e.of_bar.in_bar_lem there (omega (arith, e.ordered.used.most));
              few = omega arith;
              sound = e.sound;
            };
            inhabited = omega (arith, there.one);
            place = refl;
          };
          begun = e.begun;
          one = there.one;
        }

        leaf_cell_lem : (q m : ℕ) → q < used_in order → m < 2 → slice_index now (2 * q + m) ≡ packed_to s (item_at s q l (units left)) 0 0 m
        leaf_cell_lem q zero h k =
            ap (λ (i : ℕ). slice_index now i) (add-zero (2 * q))
            ∙ ap (λ v. slice_index v 0) (leaf_one_told (one_entry q h) el along_behind (leaves.leaf q h)).is
        leaf_cell_lem q (suc zero) h k = ap (λ v. slice_index v 1) (leaf_one_told (one_entry q h) el along_behind (leaves.leaf q h)).is
        leaf_cell_lem q (suc (suc m)) h k = let no_more : ⊥ = omega arith in absurd no_more

        never : (r : ℕ) → arity_of (rule_at s r) < 2 → Met s now l (units left) r
        never r h = record {
          low = λ q w ks rule. absurd (omega (arith, ap arity_of rule, (good_division s planned.good r q w ks rule).two));
        }

        best_begin : Best s order now l (units left) 2
        best_begin = record {
          size = leaves.size;
          least = λ q m hq hm. omega (
            arith,
            leaf_cell_lem q m hq hm,
            packed_least s planned.good (item_at s q l (units left)) 0 m (omega arith) (omega arith),
          );
          leaf = λ q m hq hm. omega (arith, leaf_cell_lem q m hq hm);
          met = never;
        }

        pub length_asked : LengthEntry s plan order pairs now l d
        length_asked = record {
          us = us;
          bar = bar;
          left = units left;
          from = from;
          in_bar_lem = e.of_bar.in_bar_lem;
          lone = there;
          ordered = e.ordered;
          along = omega (arith, along_behind, of_bar_unit e.of_bar);
          filled = e.filled;
          done = best_begin;
        }

        -- what `fill_length` tells
        pub length_told : {after : List ℕ}
            → ((t : Sheet) (a : LengthEntry t plan order pairs now l d) → Solved t order after l a.left)
            → Solved s order after l (units left)
        unfolding length_asked
        length_told solved = solved s length_asked

      -- all rules
      module _ {now : List ℕ} (solved : Solved s order now l (units left)) where
        pub keep_asked : KeepEntry s plan order rows pairs now bar l from
        keep_asked = record {
          us = us;
          left = units left;
          in_bar_lem = e.of_bar.in_bar_lem;
          lone = there;
          ordered = e.ordered;
          size = e.filled.size;
          solved = solved;
          sound = e.sound;
        }

        -- and what `keep` tells
        pub at_told : {after cells : List ℕ}
            → ((t : Sheet) → KeepEntry t plan order rows pairs now bar l from → KeptTo t after pairs cells now l (used_in order))
            → FilledAt s order after cells now bar from l
        at_told {after} {cells} told = record {
          sound = k.sound;
          filled = record { size = k.size; cell = cell };
          size = solved.size;
        }
          where
            k : KeptTo s after pairs cells now l (used_in order)
            k = told s keep_asked

            own : (q m : ℕ) → q < used_in order → m < 2
                → slice_index cells (32 * l + 2 * q + m) ≡ packed_cell s (item_at s q l (units left)) 0 m
            own q m hq hm = k.cell q m hq hm ∙ solved.cell q m hq hm

            cell : (i : ℕ) (lo : Units) → l ≤ i → Lone s bar i lo from → (q m : ℕ) → q < used_in order → m < 2
                → slice_index cells (32 * i + 2 * q + m) ≡ packed_cell s (item_at s q i lo) 0 m
            cell i lo h lone q m hq hm = elim (dec_lt l i) [
              | yes less ↦ k.kept (32 * i + 2 * q + m) (omega arith) ∙ e.filled.cell i lo (omega arith) lone q m hq hm
              | no more ↦
                  let same : i ≡ l = omega arith in
                  let here : Lone s bar l lo from = rw same at lone in
                  let begins : left ≡ lo.0 = left_is ∙ sym (lone_left e.of_bar e.length_in here) in
                  rw same
                  (own q m hq hm
                  ∙ ap (λ (x : ℕ). packed_cell s (record { nonterminal = q; left = x; len = length_at s l }) 0 m) begins)
            ]

-- All rules at one interval with one onset: where a length has parts, the part with the onset is behind it and so filled, and where it has
-- none no rule of that arity divides it. Assumes nothing.
use Rattle.std.specs.Prelude.{◌≡◌, ℕ, ◌+◌, ◌-◌, ◌*◌, ◌/◌, ◌%◌, ◌<◌, ◌≤◌, List, length, refl}
use Rattle.std.proofs.Common.{sym, ap, subst, ◌∙◌, arith}
use Rattle.std.proofs.Math.Option.{Option, none, some}
use Rattle.std.proofs.Math.Nat.{mul-mod_right, mul-div_cancel_left}
use Rattle.sheet.specs.Sheet.{Rule, division, leaf, Sheet, bar_units}
use Rattle.sheet.specs.Good.{GoodRules}
use Rattle.sheet.specs.Held.{units}
use Rattle.trees.specs.ValidTrees.{rule_at}
use Rattle.trees.proofs.RoomLaws.{good_division}
use Rattle.trees.specs.Intervals.{Aligned}
use Rattle.trees.proofs.IntervalLaws.{aligned_part}
use Rattle.plan.specs.declared.Split.{Split}
use Rattle.plan.specs.Plan.{Prepared, lengths, length_at, length_cell, arity_of, HasParts, NoParts, NoDivision}
use Rattle.plan.specs.PlanLaws.{lengths_most, length_positive, part_listed}
use Rattle.rows.specs.OnsetLaws.{unit_at}
use Rattle.rows.specs.Slots.{item_at}
use Rattle.rows.specs.OnePartLaws.{OneAt, one_at, one_first}
use Rattle.filling.specs.Filling.{Lone, Best, Solved, ArityEntry, LengthEntry}
use Rattle.filling.specs.FallLaws.{part_behind}
use Rattle.filling.specs.RuleLaws.{lone_near}
use Rattle.filling.specs.BestLaws.{arity_idle, best_all}

-- no rule has more than 8 parts
arity_most : (s : Sheet) → GoodRules s.grammar → (r : ℕ) → arity_of (rule_at s r) < 9
arity_most s good r = go (rule_at s r) refl
  where
    go : (o : Option Rule) → rule_at s r ≡ o → arity_of (rule_at s r) < 9
    go none is = rw is (omega arith)
    go (some (leaf h w n)) is = rw is (omega arith)
    go (some (division h w ks)) is = omega (arith, ap arity_of is, (good_division s good r h w ks is).eight)

module _ {s : Sheet} {plan order pairs best : List ℕ} {l d : ℕ} (e : LengthEntry s plan order pairs best l d) where
  abbrev planned : Prepared s plan
  planned = e.in_bar_lem.prepared

  pub length_asked : l < 84
  length_asked = omega (arith, e.lone.length_in, lengths_most s)

  -- all rules are met
  pub length_end : {now : List ℕ} {k : ℕ} → k ≡ 9 → Best s order now l e.left k → Solved s order now l e.left
  length_end {now} {k} is b =
      best_all b planned.good (λ r. omega (arith, arity_most s planned.good r))

  module _ {k : ℕ} (two : 2 ≤ k) (eight : k ≤ 8) where
    -- there is no part
    pub length_idle : {now : List ℕ} → NoParts s l k → Best s order now l e.left k → Best s order now l e.left (k + 1)
    length_idle {now} no_parts b = arity_idle b idle
      where
        idle : (r q w : ℕ) (ks : List ℕ) → rule_at s r ≡ some (division q w ks) → length ks ≡ k → NoDivision s q l r
        idle r q w ks rule many v js rule' divided = go (part_listed s planned.good r l q v js e.lone.length_in rule' divided)
          where
            same : length js ≡ k
            same = sym (ap arity_of rule') ∙ ap arity_of rule ∙ many

            go : (i : ℕ) × (i < lengths s) × (length_at s l ≡ length js * length_at s i) → ⊥
            go (i, less, whole) = no_parts two eight i less (whole ∙ ap (λ (n : ℕ). n * length_at s i) same)

    -- there is one
    module _ {x : Split} (told : HasParts s l k x) where
      abbrev h : ℕ
      h = x.part

      pub part-length : h < 84
      part-length = omega (arith, told.shorter, lengths_most s)

      module _ {len j : ℕ} (el : len ≡ length_cell plan h) (ej : j ≡ d / len) where
        len_is : len ≡ length_at s h
        len_is = el ∙ planned.length-at h part-length

        pub part_positive : 0 < len
        part_positive = omega (arith, len_is, length_positive s planned.good h told.shorter)

        j_is : j ≡ (unit_at s e.from - e.left.0) / length_at s h
        j_is = ej ∙ ap (λ (n : ℕ). d / n) len_is ∙ ap (λ (n : ℕ). n / length_at s h) e.along

        there : OneAt s e.left.0 (length_at s h) k j
        there =
            subst (OneAt s e.left.0 (length_at s h) k)
            (sym (j_is ∙ ap (λ (i : ℕ). (unit_at s i - e.left.0) / length_at s h) e.lone.first))
            (one_at s e.in_bar_lem.onsets.good e.left.0 (length_at s l) (lone_near e.in_bar_lem e.lone) e.lone.one
            (length_at s h) k told.whole (omega (arith, e.lone.first, e.lone.begun)))

        pub part_few : j < 8
        part_few = omega (arith, there.within)

        aligned : (q : ℕ) → Aligned (e.bar.number * bar_units) (item_at s q h (units (e.left.0 + j * length_at s h)))
        aligned q =
            let part : length_at s l / k ≡ length_at s h =
            ap (λ (n : ℕ). n / k) told.whole ∙ mul-div_cancel_left (length_at s h) (omega arith) in
            let even : length_at s l % k ≡ 0 = ap (λ (n : ℕ). n % k) told.whole ∙ mul-mod_right k (length_at s h) in
            subst (λ (p : ℕ). Aligned (e.bar.number * bar_units) (record { nonterminal = q; left = e.left.0 + j * p; len = p })) part
            (aligned_part (e.bar.number * bar_units) (item_at s q l e.left) k j q (e.lone.aligned q) even there.within)

        part_lone : Lone s e.bar h (units (e.left.0 + j * length_at s h)) e.from
        part_lone = record {
          length_in = told.shorter;
          aligned = aligned;
          first = e.lone.first ∙ sym (one_first s e.in_bar_lem.onsets.good e.left.0 (length_at s h) k j there);
          begun = e.lone.begun;
          one = there.here;
        }

        pub arity_asked : {now : List ℕ} → Best s order now l e.left k → ArityEntry s plan order pairs now k h j
        arity_asked b = record {
          known = record {
            us = e.us;
            bar = e.bar;
            l = l;
            left = e.left;
            from = e.from;
            in_bar_lem = e.in_bar_lem;
            lone = e.lone;
            used = e.ordered.used;
            part_in = told.shorter;
            whole = told.whole;
            part = j_is;
            size = e.filled.size;
            cell = λ q m hq hm. e.filled.cell h (units (e.left.0 + j * length_at s h))
                (omega (arith, part_behind s planned.good l h k e.lone.length_in told.shorter two told.whole))
                part_lone q m hq hm;
          };
          ordered = e.ordered;
          two = two;
          eight = eight;
          done = b;
        }

        pub arity_told : {now after : List ℕ} (b : Best s order now l e.left k)
            → Best s order after (arity_asked b).known.l (arity_asked b).known.left (k + 1) → Best s order after l e.left (k + 1)
        unfolding arity_asked
        arity_told b told = told

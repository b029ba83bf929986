-- What a rule comes to at an interval with one onset, by the cells of the part that has the onset. Assumes nothing.
use Rattle.std.specs.Prelude.{◌≡◌, ℕ, ◌+◌, ◌-◌, ◌*◌, ◌/◌, ◌<◌, ◌≤◌, List, length, slice_index}
use Rattle.std.proofs.Common.{sym, ap, subst, ◌∙◌, arith}
use Rattle.std.proofs.Math.Option.{some}
use Rattle.sheet.specs.declared.clock.Units.{Units}
use Rattle.sheet.specs.Sheet.{division, Sheet}
use Rattle.derivations.specs.Derivation.{Item}
use Rattle.trees.specs.ValidTrees.{rule_at}
use Rattle.trees.specs.LeastTotal.{cell_of}
use Rattle.expansions.specs.Tables.{last_unit}
use Rattle.expansions.specs.Items.{first_at}
use Rattle.plan.specs.Plan.{Prepared, length_at, child_cell, Divides}
use Rattle.plan.specs.PlanLaws.{lengths_most, child_at}
use Rattle.rows.specs.declared.one.Pair.{Pair}
use Rattle.rows.specs.declared.slots.Bar.{Bar}
use Rattle.rows.specs.OnsetLaws.{unit_at}
use Rattle.rows.specs.PackedLaws.{packed_cell, packed_cell_most, packed_cell_is}
use Rattle.rows.specs.Slots.{InBar, Stands}
use Rattle.rows.specs.NameLaws.{stands_near}
use Rattle.rows.specs.OnePartLaws.{OneAt, one_at}
use Rattle.rows.specs.OneTurnLaws.{part_at}
use Rattle.filling.specs.OrderLaws.{division_below, division_arity}
use Rattle.filling.specs.Pairs.{pair_at, cell_in, pair_cell}
use Rattle.rows.specs.One.{by_way, WayEntry, Comes}
use Rattle.rows.specs.WayLaws.{way_comes}
use Rattle.filling.specs.Filling.{Lone, RuleEntry}

-- an interval with one onset stands, under each nonterminal
module _ {s : Sheet} {plan us : List ℕ} {bar : Bar} {l : ℕ} {left : Units} {from : ℕ} (in_bar_lem : InBar s plan us bar)
    (lone : Lone s bar l left from) where
  pub lone_stands : {q : ℕ} → q < s.grammar.nonterminals → Stands s plan us bar q l left from
  lone_stands {q} h = record {
    in_bar_lem = in_bar_lem;
    nonterminal = h;
    length_in = lone.length_in;
    aligned = lone.aligned q;
    first = lone.first;
  }

  pub lone_near : left.0 + length_at s l ≤ last_unit
  lone_near = stands_near (lone_stands in_bar_lem.prepared.good.start)

module _ {s : Sheet} {plan pairs : List ℕ} {r h j : ℕ} (e : RuleEntry s plan pairs r h j) where
  abbrev left : ℕ
  left = e.known.left.0

  abbrev parts : List ℕ
  parts = e.rule.parts

  abbrev planned : Prepared s plan
  planned = e.known.in_bar_lem.prepared

  rule_is : rule_at s r ≡ some (division e.rule.head e.rule.weight parts)
  rule_is = e.rule.rule

  -- part j has the onset
  there : OneAt s left (length_at s h) (length parts) j
  there =
      subst (OneAt s left (length_at s h) (length parts)) (sym is)
      (one_at s e.known.in_bar_lem.onsets.good left (length_at s e.known.l) (lone_near e.known.in_bar_lem e.known.lone)
      e.known.lone.one (length_at s h) (length parts)
      (e.known.whole ∙ ap (λ (n : ℕ). n * length_at s h) (sym e.rule.count))
      (omega (arith, e.known.lone.first, e.known.lone.begun)))
    where
      is : j ≡ (unit_at s (first_at s left) - left) / length_at s h
      is = e.known.part ∙ ap (λ (i : ℕ). (unit_at s i - left) / length_at s h) e.known.lone.first

  pub rule_asked : (r < 64) × (j < 8)
  rule_asked =
      (division_below planned e.rule, omega (arith, there.within, e.rule.count, (division_arity planned e.rule).1))

  abbrev divides : Divides s e.rule.head e.known.l r e.k h
  divides = record {
    weight = e.rule.weight;
    parts = parts;
    rule = rule_is;
    count = e.rule.count;
    shorter = e.known.part_in;
    whole = e.known.whole;
  }

  module _ {q : ℕ} (eq : q ≡ child_cell plan r j) where
    child_is : q ≡ slice_index parts j
    child_is = eq ∙ child_at s plan planned r e.rule.head e.rule.weight parts rule_is j there.within

    child_used : q < e.u
    child_used =
        omega (
          arith,
          child_is,
          e.known.used.part r e.rule.head e.rule.weight parts rule_asked.0 rule_is j there.within,
        )

    -- its cells stand in the scratch array
    pub rule_place : (32 * h + 2 * q + 1 < length pairs) × (32 * h + 2 * q + 1 < 2688)
    rule_place =
        let below : 32 * h + 2 * q + 1 < 2688 =
        omega (arith, child_used, e.known.used.most, planned.good.sixteen, e.known.part_in, lengths_most s) in
        (omega (arith, below, e.known.size), below)

    abbrev part : Item
    part = part_at left (length_at s h) parts j

    cell_is : (m : ℕ) → m < 2 → slice_index pairs (32 * h + 2 * q + m) ≡ packed_cell s part 0 m
    cell_is m k =
        e.known.cell q m child_used k
        ∙ ap (λ (n : ℕ). packed_cell s (record { nonterminal = n; left = left + j * length_at s h; len = length_at s h }) 0 m) child_is

    module _ {y : Pair} (ey : y ≡ pair_at pairs (32 * h + 2 * q)) where
      pair_is : (m : ℕ) → m < 2 → cell_in y m ≡ packed_cell s part 0 m
      pair_is m k = ap (λ (z : Pair). cell_in z m) ey ∙ pair_cell pairs (32 * h + 2 * q) m k ∙ cell_is m k

      pub rule_way : WayEntry s plan r j y
      rule_way = record {
        prepared = planned;
        head = e.rule.head;
        weight = e.rule.weight;
        parts = parts;
        rule = rule_is;
        within = there.within;
        zero_low = omega (arith, pair_is 0 (omega arith), packed_cell_most s part 0 0);
        one_low = omega (arith, pair_is 1 (omega arith), packed_cell_most s part 0 1);
      }

      total : (m : ℕ) → m < 2 → cell_in y m / 64 ≡ cell_of s part 0 m
      total m k = ap (λ (n : ℕ). n / 64) (pair_is m k) ∙ packed_cell_is s planned.good part 0 m (omega arith) (omega arith)

      -- what the rule comes to
      pub rule_told : {x : Pair} → x ≡ by_way plan r j y → Comes s e.rule.head e.known.l e.known.left r x
      rule_told ex =
          way_comes planned e.rule.head e.known.l e.known.left divides (omega (arith, e.known.lone.one)) there y
          (total 0 (omega arith)) (total 1 (omega arith)) ex

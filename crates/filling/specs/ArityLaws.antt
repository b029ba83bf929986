-- One turn of the loop over the rules of one arity: the rule at the place divides the interval, and the cells of its head are lowered by
-- what it comes to. Assumes nothing.
use Rattle.std.specs.Prelude.{◌≡◌, ℕ, ◌+◌, ◌*◌, ◌%◌, ◌<◌, ◌≤◌, List, length, slice_index}
use Rattle.std.proofs.Common.{sym, ap, subst, ◌∙◌, arith}
use Rattle.std.proofs.Math.Option.{some}
use Rattle.std.proofs.Math.Decide.{dec_lt}
use Rattle.slices.specs.Lookup.{some_below}
use Rattle.sheet.specs.declared.clock.Units.{Units}
use Rattle.sheet.specs.Sheet.{division, Sheet}
use Rattle.trees.specs.ValidTrees.{rule_at}
use Rattle.plan.specs.Plan.{Prepared}
use Rattle.rows.specs.declared.one.Pair.{Pair}
use Rattle.filling.specs.declared.order.Named.{Named}
use Rattle.filling.specs.Order.{IsDivision, named_of, Names, Section, first_of, used_in}
use Rattle.filling.specs.OrderLaws.{division_below}
use Rattle.filling.specs.Pairs.{pair_at, put_pair, lesser_pair}
use Rattle.rows.specs.One.{Comes}
use Rattle.filling.specs.Filling.{Met, Best, RuleEntry, ArityEntry, ArityTo}
use Rattle.filling.specs.BestLaws.{best_more, rule_met, best_lower, arity_end}

module _ {s : Sheet} {plan order pairs best : List ℕ} {k h j : ℕ} (e : ArityEntry s plan order pairs best k h j) where
  abbrev planned : Prepared s plan
  planned = e.known.in_bar_lem.prepared

  abbrev pub l : ℕ
  l = e.known.l

  abbrev pub left : Units
  left = e.known.left

  section : Section s order k (first_of order k) (first_of order (k + 1)) 64
  section = e.ordered.section k e.two e.eight

  arity_few : used_in order ≤ 16
  arity_few = omega (arith, e.ordered.used.most, planned.good.sixteen)

  -- the rules of more parts begin where these end
  module _ {end : ℕ} (end_is : end ≡ first_of order (k + 1)) where
    pub arity_most : end ≤ 64
    arity_most = omega (arith, end_is, section.most)

    -- no rule yet
    pub arity_begin : {n : ℕ} → n ≡ first_of order k → (first_of order k ≤ n) × ArityTo s order best l left k n
    arity_begin {n} is = (omega arith, record { done = e.done; met = λ i lo hi. absurd (omega arith) })

    -- all rules
    pub arity_all : {now : List ℕ} {n : ℕ} → end ≤ n → ArityTo s order now l left k n → Best s order now l left (k + 1)
    arity_all past a = arity_end planned e.ordered e.two e.eight (omega (arith, end_is)) a

    module _ {n : ℕ} (lo : first_of order k ≤ n) (hi : n < end) {x : Named} (ex : x ≡ named_of (slice_index order n)) where
      names : Names s k (slice_index order n)
      names = section.each n lo (omega (arith, end_is))

      rule_is : x.rule ≡ slice_index order n % 64
      rule_is = ap (λ (z : Named). z.rule) ex

      pub rule : IsDivision s x.rule k
      rule = subst (λ (r : ℕ). IsDivision s r k) (sym rule_is) names.rule

      head_is : x.head ≡ rule.head
      head_is =
          ap (λ (z : Named). z.head) ex
          ∙ names.head rule.head rule.weight rule.parts (ap (rule_at s) (sym rule_is) ∙ rule.rule)

      arity_head : x.head < used_in order
      arity_head =
          omega (
            arith,
            head_is,
            e.ordered.used.head x.rule rule.head rule.weight rule.parts (division_below planned rule) rule.rule,
          )

      -- its cells are among those of the nonterminals in use
      pub arity_room : {now : List ℕ} → ArityTo s order now l left k n → 2 * x.head + 1 < length now
      arity_room a = omega (arith, a.done.size, arity_head, arity_few)

      abbrev pub arity_asked : RuleEntry s plan pairs x.rule h j
      arity_asked = record { u = used_in order; k = k; known = e.known; rule = rule }

      module _ {now : List ℕ} {y : Pair} (a : ArityTo s order now l left k n) (comes : Comes s rule.head l left x.rule y) where
        comes_head : Comes s x.head l left x.rule y
        comes_head = subst (λ (q : ℕ). Comes s q l left x.rule y) (sym head_is) comes

        rule_in_lem : x.rule < length s.grammar.rules
        rule_in_lem = some_below s.grammar.rules x.rule _ rule.rule

        abbrev less : List ℕ
        less = put_pair now (2 * x.head) (lesser_pair (pair_at now (2 * x.head)) y)

        pub arity_more : {after : List ℕ} → after ≡ less → (first_of order k ≤ n + 1) × ArityTo s order after l left k (n + 1)
        arity_more {after} same = (
          omega arith,
          subst (λ (cells : List ℕ). ArityTo s order cells l left k (n + 1)) (sym same) (record {
            done = best_more a.done planned.good arity_few arity_head rule_in_lem comes_head;
            met = met;
          }),
        )
          where
            is : rule_at s x.rule ≡ some (division x.head rule.weight rule.parts)
            is = rule.rule ∙ ap (λ (q : ℕ). some (division q rule.weight rule.parts)) (sym head_is)

            own : Met s less l left x.rule
            own = rule_met a.done planned.good arity_few arity_head rule_in_lem comes_head rule.weight rule.parts is

            met : (i : ℕ) → first_of order k ≤ i → i < n + 1 → Met s less l left (slice_index order i % 64)
            met i m z = elim (dec_lt i n) [
              | yes b ↦ best_lower a.done planned.good arity_few arity_head rule_in_lem comes_head (a.met i m b)
              | no b ↦
                  let here : i ≡ n = omega arith in
                  rw here (subst (Met s less l left) rule_is own)
            ]

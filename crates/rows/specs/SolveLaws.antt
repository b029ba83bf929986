-- `solve` goes over the divisions of its nonterminal, place after place, and asks `parts` of each. Assumes nothing.
use Rattle.std.specs.Prelude.{ℕ, ◌+◌, ◌≤◌, ◌<◌, ◌≡◌, refl, List, Option}
use Rattle.std.proofs.Common.{sym, subst, mul-le-mul_right, arith}
use Rattle.sheet.specs.declared.clock.Units.{Units}
use Rattle.sheet.specs.Sheet.{Sheet}
use Rattle.trees.proofs.RoomLaws.{good_division}
use Rattle.plan.specs.Plan.{length_at, length_cell, rule_in, first_cell, last_cell, rule_count, Prepared}
use Rattle.plan.specs.Plan.{DivisionAt, Divides, SplitAt}
use Rattle.plan.specs.declared.Split.{Split}
use Rattle.plan.specs.HeadLaws.{last_most, Passed, passed_none, place_below, passed_gap, passed_more, passed_all}
use Rattle.plan.specs.PlanLaws.{lengths_most, length_positive}
use Rattle.rows.specs.declared.slots.Bar.{Bar}
use Rattle.rows.specs.Slots.{item_at, Sound}
use Rattle.rows.specs.Rows.{Row, SolveEntry, PartsEntry}
use Rattle.rows.specs.NameLaws.{stands-length, stands_head}
use Rattle.rows.specs.TurnLaws.{Ruled, ruled_past, ruled_all}

module _ {s : Sheet} {plan units rows : List ℕ} {bar : Bar} {q l : ℕ} {left : Units} {from c at : ℕ}
    (e : SolveEntry s plan units rows bar q l left from c at) where
  abbrev prepared : Prepared s plan
  prepared = e.entry.stands.in_bar_lem.prepared

  abbrev head : q < 16
  head = stands_head e.entry.stands

  -- the loop is over places
  pub last_in : {n : ℕ} → n ≡ last_cell plan q → n ≤ 64
  last_in k = omega (arith, k, last_most prepared head)

  -- the divisions before place n are done: they are those of the first r rules
  pub record Done (now : List ℕ) (n : ℕ) (o : List ℕ) : Type 0 where
    pub r : ℕ
    pub passed : Passed prepared head n r
    pub ruled : Ruled s now (item_at s q l left) c r o

  pub rules_begin : {n : ℕ} {now o : List ℕ} → n ≡ first_cell plan q → Ruled s now (item_at s q l left) c 0 o → Done now n o
  rules_begin k p = record { r = 0; passed = passed_none prepared head k; ruled = p }

  module _ {n : ℕ} {now o : List ℕ} (done : Done now n o) where
    -- the rule at place n is the next: between it and those done there is no division of the nonterminal
    module _ {last : ℕ} (k : last ≡ last_cell plan q) (less : n < last) where
      less_last : n < last_cell plan q
      less_last = omega (arith, k)

      pub place_in : n < 64
      place_in = omega (arith, last_in k)

      pub division_at : DivisionAt plan q n
      division_at = record { head = head; begun = done.passed.begun; less = less_last }

      module _ {rule : ℕ} (is : rule ≡ rule_in plan n) where
        pub rule_below : rule < 64
        rule_below = omega (arith, is, place_below prepared head done.passed.begun less_last, prepared.good.most)

        pub split_told : (x : Option Split) → SplitAt s q l (rule_in plan n) x → SplitAt s q l rule x
        split_told x = subst (λ (r : ℕ). SplitAt s q l r x) (sym is)

        pub rules_here : Ruled s now (item_at s q l left) c rule o
        rules_here =
            let least : done.r ≤ rule = omega (arith, is, done.passed.above n (omega arith) less_last) in
            ruled_past s q l left done.ruled rule least
            (λ i low below w ks there _. passed_gap prepared head done.passed less_last i low (omega (arith, is)) w ks there)

        pub rules_next : {after o' : List ℕ} → Ruled s after (item_at s q l left) c (rule + 1) o' → Done after (n + 1) o'
        rules_next p = record {
          r = rule + 1;
          passed =
              subst (λ (r : ℕ). Passed prepared head (n + 1) (r + 1)) (sym is) (passed_more prepared head done.passed less_last);
          ruled = p;
        }

    -- behind the last place there is none
    pub rules_end : {last : ℕ} → last ≡ last_cell plan q → last ≤ n → Row s now (item_at s q l left) c o
    rules_end {last} k past =
        let over : last_cell plan q ≤ n = omega (arith, k) in
        ruled_all prepared.good e.entry.few refl
        (ruled_past s q l left done.ruled (rule_count s) done.passed.most
        (λ i least _ w ks rule _. passed_all prepared head done.passed over i least w ks rule))

  module _ {r k h : ℕ} (d : Divides s q l r k h) where
    pub parts_entry : {now : List ℕ} → Sound s now → PartsEntry s plan units now bar r 0 k h left from c
    parts_entry sound = record {
      in_bar_lem = e.entry.stands.in_bar_lem;
      q = q;
      whole = l;
      start = left.0;
      divides = d;
      whole_in = e.entry.stands.length_in;
      aligned = e.entry.stands.aligned;
      part_in = omega arith;
      left_is = omega arith;
      first = e.entry.stands.first;
      few = e.entry.few;
      sound = sound;
    }

    -- parts are shorter: there are two or more, and an interval has a length
    pub parts_shorter : length_cell plan h < length_cell plan l
    parts_shorter =
        let two = (good_division s prepared.good r q d.weight d.parts d.rule).two in
        omega (
          arith,
          prepared.length-at h (omega (arith, d.shorter, lengths_most s)),
          prepared.length-at l (stands-length e.entry.stands),
          d.whole,
          mul-le-mul_right {m = 2} {n = k} (length_at s h) (omega (arith, two, d.count)),
          length_positive s prepared.good h d.shorter,
        )

-- What the functions that solve rows with one onset ask of each other and tell each other.
use Rattle.std.specs.Prelude.{ℕ, ◌+◌, ◌-◌, ◌*◌, ◌/◌, ◌%◌, ◌≤◌, ◌<◌, min, ◌≡◌, refl, List, length, get_or}
use Rattle.std.proofs.Common.{sym, ap, subst, ◌∙◌, arith}
use Rattle.std.proofs.Math.Decide.{dec_lt}
use Rattle.slices.specs.Lookup.{some_below}
use Rattle.sheet.specs.declared.clock.Units.{Units}
use Rattle.sheet.specs.Sheet.{Sheet}
use Rattle.sheet.specs.Good.{GoodRules, GoodOnsets}
use Rattle.sheet.specs.Held.{units}
use Rattle.derivations.specs.Derivation.{Item}
use Rattle.trees.specs.ValidTrees.{token}
use Rattle.trees.specs.Instance.{onsets_in}
use Rattle.trees.specs.LeastTotal.{NONE, cell_of}
use Rattle.expansions.specs.Tables.{last_unit}
use Rattle.expansions.specs.Items.{first_at}
use Rattle.expansions.specs.Places.{first_most, first_next}
use Rattle.plan.specs.Plan.{Prepared, rule_count, length_at, length_cell, leaf_cell, child_cell, Divides}
use Rattle.plan.specs.Layout.{kinds}
use Rattle.plan.specs.Packed.{packed_leaf}
use Rattle.plan.specs.PlanLaws.{lengths_most, length_positive, child_at}
use Rattle.rows.specs.declared.slots.Bar.{Bar}
use Rattle.rows.specs.declared.one.Pair.{Pair}
use Rattle.rows.specs.VectorLaws.{four}
use Rattle.rows.specs.OnsetLaws.{unit_at, unit_before}
use Rattle.rows.specs.PackedLaws.{packed_cell, packed_leaf_total, packed_cell_is}
use Rattle.rows.specs.Memo.{MARK}
use Rattle.rows.specs.Slots.{item_at, Stands, Inhabited, Sound, SlotEntry}
use Rattle.rows.specs.Rows.{Row, SolveEntry, PartsEntry}
use Rattle.rows.specs.NameLaws.{stands_near, stands_head, stands_len, slot_entry, solve_loaded}
use Rattle.rows.specs.PartLaws.{rule_below, parts-length, parts_eight, next_near, next_stands}
use Rattle.rows.specs.PackedTurnLaws.{packed_to, packed_none}
use Rattle.rows.specs.TurnLaws.{Ruled, row_cells_low}
use Rattle.rows.specs.CallLaws.{PlaceOf}
use Rattle.rows.specs.OnePartLaws.{OneAt, one_onset, one_unit, one_at, one_first}
use Rattle.rows.specs.OneTurnLaws.{part_at, packed_one_none, packed_to_none}
use Rattle.rows.specs.OneTurnLaws.{leaf_one_early, leaf_one_late}
use Rattle.rows.specs.One.{pair_row, by_way, AloneEntry, OnePart, OneEntry, LeafOne, WayEntry, Comes, OneRule}
use Rattle.rows.specs.WayLaws.{way_comes}

-- ---- `alone` looks at the onset behind the first

module _ {s : Sheet} {plan us : List ℕ} {l : ℕ} {left : Units} {from : ℕ} (e : AloneEntry s plan us l left from) where
  pub alone_length : l < 84
  alone_length = omega (arith, e.length_in, lengths_most s)

  cells : (i : ℕ) → get_or us i 0 ≡ unit_at s i
  cells i = ap (λ xs. get_or xs i 0) e.onsets.cells

  pub alone_next : from + 1 ≤ 512
  alone_next =
      let good = e.onsets.good in
      omega (
        arith,
        e.first,
        e.inhabited,
        first_next s good left.0 (length_at s l),
        first_most s good (left.0 + length_at s l),
      )

  module _ {len : Units} (el : len.0 ≡ length_cell plan l) where
    same_len : len.0 ≡ length_at s l
    same_len = el ∙ e.prepared.length-at l alone_length

    pub alone_near : left.0 + len.0 ≤ last_unit
    alone_near = omega (arith, same_len, e.near)

    pub alone_one : left.0 + len.0 ≤ get_or us (from + 1) 0 → onsets_in s left.0 (length_at s l) ≡ 1
    alone_one h =
        let good = e.onsets.good in
        let n = length_at s l in
        one_onset s good left.0 n e.near
        (unit_before s good (left.0 + n) (first_at s left.0) e.near (omega (arith, first_next s good left.0 n, e.inhabited)))
        (omega (arith, same_len, cells (from + 1), ap (λ (i : ℕ). unit_at s (i + 1)) e.first))

-- ---- rows by their cells 0 and 1

module _ {s : Sheet} {rows : List ℕ} {g : Item} (good : GoodRules s.grammar) (one : onsets_in s g.left g.len ≡ 1) where
  -- of a row that is loaded
  pub pair_loaded : {r : List ℕ} {x : Pair} → Row s rows g 0 r → x.zero ≡ get_or r 0 0 → x.one ≡ get_or r 1 0 → Row s rows g 0 (pair_row x)
  pair_loaded row ez eo = record {
    is = four (ez ∙ ap (λ v. get_or v 0 0) row.is) (eo ∙ ap (λ v. get_or v 1 0) row.is)
        (sym (packed_one_none s g one good 2 (omega arith) (omega arith)))
        (sym (packed_one_none s g one good 3 (omega arith) (omega arith)));
    sound = row.sound;
  }

  -- of a row that is solved
  pub pair_ruled : {n : ℕ} {x : Pair} → n ≤ rule_count s → x.zero ≡ packed_to s g 0 n 0 → x.one ≡ packed_to s g 0 n 1 → Sound s rows
      → Ruled s rows g 0 n (pair_row x)
  pair_ruled {n} few ez eo sound = record {
    is = four ez eo (sym (packed_to_none s g one good n 2 few (omega arith) (omega arith)))
        (sym (packed_to_none s g one good n 3 few (omega arith) (omega arith)));
    sound = sound;
  }

-- ---- `part_one` calls `place_of` and `solve_one`

module _ {s : Sheet} {plan us rows : List ℕ} {bar : Bar} {q l : ℕ} {left : Units} {from : ℕ}
    (h : OnePart s plan us rows bar q l left from) where
  some_inside : Inhabited s l left
  some_inside = omega (arith, h.one)

  pub part_slot : SlotEntry s plan bar q l from 0
  part_slot = slot_entry h.stands some_inside (omega arith)

  module _ {at : ℕ} (told : PlaceOf plan bar q l from 0 at) where
    pub part_solve : OneEntry s plan us rows bar q l left from at
    part_solve = record {
      entry = record {
        entry = record { stands = h.stands; few = omega arith; sound = h.sound };
        inhabited = some_inside;
        place = told s part_slot;
      };
      begun = h.begun;
      one = h.one;
    }

    -- the row has the bar's stamp
    pub part_loaded : {x : Pair} → get_or rows at 0 / MARK ≡ bar.number + 1 → x.zero ≡ get_or rows at 0 % MARK
        → x.one ≡ get_or rows (at + 1) 0 → Row s rows (item_at s q l left) 0 (pair_row x)
    part_loaded stamp ez eo =
        pair_loaded h.stands.in_bar_lem.prepared.good h.one (solve_loaded part_solve.entry stamp refl) ez eo

-- ---- `solve_one` calls `leaf_one` and `rule_one`

module _ {s : Sheet} {plan us rows : List ℕ} {bar : Bar} {q l : ℕ} {left : Units} {from at : ℕ}
    (e : OneEntry s plan us rows bar q l left from at) where
  abbrev stands : Stands s plan us bar q l left from
  stands = e.entry.entry.stands

  abbrev onsets : GoodOnsets s.playing
  onsets = stands.in_bar_lem.onsets.good

  abbrev prepared : Prepared s plan
  prepared = stands.in_bar_lem.prepared

  pub one_place : from ≤ 512
  one_place = omega (arith, stands.first, first_most s onsets left.0)

  unit_is : get_or us from 0 ≡ unit_at s (first_at s left.0)
  unit_is = ap (λ xs. get_or xs from 0) stands.in_bar_lem.onsets.cells ∙ ap (unit_at s) stands.first

  inside : (left.0 ≤ get_or us from 0) × (get_or us from 0 < left.0 + length_at s l)
  inside =
      let u = one_unit s onsets left.0 (length_at s l) (stands_near stands) e.one in
      (omega (arith, unit_is, u.0), omega (arith, unit_is, u.1))

  pub one_behind : left.0 ≤ get_or us from 0
  one_behind = inside.0

  module _ {len d : ℕ} (el : len ≡ length_cell plan l) (ed : d ≡ get_or us from 0 - left.0) where
    one_len : len ≡ length_at s l
    one_len = stands_len stands el

    pub leaf_one_asked : (q < 16) × (d ≤ len) × (len ≤ last_unit) × ((s : Sheet) × Prepared s plan)
    leaf_one_asked =
        (stands_head stands, omega (arith, ed, one_len, inside.1), omega (arith, one_len, stands_near stands), (s, prepared))

    pub leaf_one_told : {x : Pair} → LeafOne plan q len d x → Ruled s rows (item_at s q l left) 0 0 (pair_row x)
    leaf_one_told {x} is = pair_ruled prepared.good e.one (omega arith) both.0 both.1 e.entry.entry.sound
      where
        g : Item
        g = item_at s q l left

        far : d ≡ unit_at s (first_at s left.0) - left.0
        far = omega (arith, ed, unit_is)

        none_yet : (m : ℕ) → packed_to s g 0 0 m ≡ packed_leaf_total s g 0 m
        none_yet m = packed_none s g 0 m

        leaf_at_lem : (n : ℕ) → n < kinds → leaf_cell plan q n ≡ packed_leaf s q n
        leaf_at_lem n h = prepared.leaves q n (stands_head stands) h

        late_cell : min (64 * NONE) (leaf_cell plan q (token 0 1) + 64 * (len - d))
            ≡ min (64 * NONE) (packed_leaf s q (token 0 1) + 64 * (length_at s l - (unit_at s (first_at s left.0) - left.0)))
        late_cell = rw (leaf_at_lem (token 0 1) (omega arith), one_len, far) refl

        both : (x.zero ≡ packed_to s g 0 0 0) × (x.one ≡ packed_to s g 0 0 1)
        both = elim (dec_lt (2 * d) len) [
          | yes h ↦
              let told = is.early h in
              let leaf = leaf_one_early s g e.one onsets (stands_near stands) (omega (arith, far, one_len)) in
              let cell = leaf_at_lem (token 1 1) (omega arith) in
              (omega (arith, told.0, leaf.0, none_yet 0, cell, far), omega (arith, told.1, leaf.1, none_yet 1))
          | no h ↦
              let told = is.late (omega arith) in
              let leaf = leaf_one_late s g e.one onsets (stands_near stands) (omega (arith, stands.first, e.begun))
              (omega (arith, far, one_len)) in (
                omega (arith, told.0, leaf.0, none_yet 0),
                told.1 ∙ late_cell ∙ sym leaf.1 ∙ sym (none_yet 1),
              )
        ]

    abbrev pub rule_asked : {r k h : ℕ} {now : List ℕ} {best : Pair} → Divides s q l r k h
        → Ruled s now (item_at s q l left) 0 r (pair_row best) → OneRule s plan us now bar r h left from d best
    rule_asked {k = k} divides done = record {
      q = q;
      whole = l;
      arity = k;
      stands = stands;
      begun = e.begun;
      one = e.one;
      divides = divides;
      along = omega (arith, ed, ap (λ xs. get_or xs from 0) stands.in_bar_lem.onsets.cells);
      done = done;
    }

-- ---- `rule_one` calls `part_one`

module _ {s : Sheet} {plan us rows : List ℕ} {bar : Bar} {r l : ℕ} {left : Units} {from d : ℕ} {best : Pair}
    (e : OneRule s plan us rows bar r l left from d best) where
  abbrev kids : List ℕ
  kids = e.divides.parts

  abbrev as_parts : PartsEntry s plan us rows bar r 0 e.arity l left from 0
  as_parts = record {
    in_bar_lem = e.stands.in_bar_lem;
    q = e.q;
    whole = e.whole;
    start = left.0;
    divides = e.divides;
    whole_in = e.stands.length_in;
    aligned = e.stands.aligned;
    part_in = omega arith;
    left_is = omega arith;
    first = e.stands.first;
    few = omega arith;
    sound = e.done.sound;
  }

  pub rule_length : l < 84
  rule_length = parts-length as_parts

  module _ {len j : ℕ} (el : len ≡ length_cell plan l) (ej : j ≡ d / len) where
    rule_len : len ≡ length_at s l
    rule_len = el ∙ e.stands.in_bar_lem.prepared.length-at l rule_length

    pub rule_positive : 0 < len
    rule_positive = omega (arith, rule_len, length_positive s e.stands.in_bar_lem.prepared.good l e.divides.shorter)

    -- part j has the onset
    there : OneAt s left.0 (length_at s l) (length kids) j
    there =
        subst (OneAt s left.0 (length_at s l) (length kids)) (sym is)
        (one_at s e.stands.in_bar_lem.onsets.good left.0 (length_at s e.whole) (stands_near e.stands) e.one (length_at s l)
        (length kids) (e.divides.whole ∙ ap (λ (k : ℕ). k * length_at s l) (sym e.divides.count))
        (omega (arith, e.stands.first, e.begun)))
      where
        is : j ≡ (unit_at s (first_at s left.0) - left.0) / length_at s l
        is =
            ej ∙ ap (λ (n : ℕ). d / n) rule_len
            ∙ ap (λ (n : ℕ). n / length_at s l) (e.along ∙ ap (λ (i : ℕ). unit_at s i - left.0) e.stands.first)

    within : j < e.arity
    within = omega (arith, there.within, e.divides.count)

    pub rule_child : (r < 64) × (j < 8)
    rule_child = (rule_below as_parts, omega (arith, within, parts_eight as_parts))

    left_there : left.0 + j * len ≡ left.0 + j * length_at s l
    left_there = ap (λ (n : ℕ). left.0 + j * n) rule_len

    pub rule_near : left.0 + j * len ≤ last_unit
    rule_near = omega (arith, left_there, next_near as_parts j (left.0 + j * length_at s l) within refl)

    module _ {q : ℕ} (eq : q ≡ child_cell plan r j) where
      pub rule_part : OnePart s plan us rows bar q l (units (left.0 + j * len)) from
      rule_part = record {
        stands = next_stands as_parts j (left.0 + j * len) within left_there q from eq
            (e.stands.first ∙ sym (one_first s e.stands.in_bar_lem.onsets.good left.0 (length_at s l) (length kids) j there)
            ∙ ap (first_at s) (sym left_there));
        begun = e.begun;
        one = ap (λ (n : ℕ). onsets_in s n (length_at s l)) left_there ∙ there.here;
        sound = e.done.sound;
      }

      module _ {after : List ℕ} {y : Pair} (row : Row s after (item_at s q l (units (left.0 + j * len))) 0 (pair_row y)) where
        abbrev planned : Prepared s plan
        planned = e.stands.in_bar_lem.prepared

        pub rule_way : WayEntry s plan r j y
        rule_way = record {
          prepared = planned;
          head = e.q;
          weight = e.divides.weight;
          parts = kids;
          rule = e.divides.rule;
          within = there.within;
          zero_low = row_cells_low row 0;
          one_low = row_cells_low row 1;
        }

        abbrev part : Item
        part = part_at left.0 (length_at s l) kids j

        same_part : item_at s q l (units (left.0 + j * len)) ≡ part
        same_part =
            ap (λ (n : ℕ). record { nonterminal = n; left = left.0 + j * len; len = length_at s l })
            (eq ∙ child_at s plan planned r e.q e.divides.weight kids e.divides.rule j there.within)
            ∙ ap (λ (n : ℕ). record { nonterminal = get_or kids j 0; left = n; len = length_at s l }) left_there

        total : (m : ℕ) → m < 4 → packed_cell s (item_at s q l (units (left.0 + j * len))) 0 m / 64 ≡ cell_of s part 0 m
        total m h =
            packed_cell_is s planned.good _ 0 m (omega arith) h ∙ ap (λ (g : Item). cell_of s g 0 m) same_part

        zero_is : y.zero / 64 ≡ cell_of s part 0 0
        zero_is = ap (λ v. get_or v 0 0 / 64) row.is ∙ total 0 (omega arith)

        one_is : y.one / 64 ≡ cell_of s part 0 1
        one_is = ap (λ v. get_or v 1 0 / 64) row.is ∙ total 1 (omega arith)

        -- one rule more is done
        pub rule_told : {x z : Pair} → x ≡ by_way plan r j y → z.zero ≡ min best.zero x.zero → z.one ≡ min best.one x.one
            → Ruled s after (item_at s e.q e.whole left) 0 (r + 1) (pair_row z)
        rule_told {x} {z} ex ez eo =
            pair_ruled planned.good e.one (omega (arith, some_below s.grammar.rules r _ e.divides.rule))
            (ez ∙ ap (λ (n : ℕ). min n x.zero) (ap (λ v. get_or v 0 0) e.done.is) ∙ sym comes.zeroth)
            (eo ∙ ap (λ (n : ℕ). min n x.one) (ap (λ v. get_or v 1 0) e.done.is) ∙ sym comes.first)
            row.sound
          where
            comes : Comes s e.q e.whole left r x
            comes = way_comes planned e.q e.whole left e.divides (omega (arith, e.one)) there y zero_is one_is ex

-- ---- `fresh` calls `alone`, and `solve_one` where it is

module _ {s : Sheet} {plan us rows : List ℕ} {bar : Bar} {q l : ℕ} {left : Units} {from c at : ℕ}
    (e : SolveEntry s plan us rows bar q l left from c at) where
  pub fresh_asked : AloneEntry s plan us l left from
  fresh_asked = record {
    prepared = e.entry.stands.in_bar_lem.prepared;
    onsets = e.entry.stands.in_bar_lem.onsets;
    length_in = e.entry.stands.length_in;
    near = stands_near e.entry.stands;
    first = e.entry.stands.first;
    inhabited = e.inhabited;
  }

  module _ (told : (c ≡ 0) × (0 < from) × (onsets_in s left.0 (length_at s l) ≡ 1)) where
    pub fresh_one : OneEntry s plan us rows bar q l left from at
    fresh_one = record {
      entry = subst (λ (i : ℕ). SolveEntry s plan us rows bar q l left from i at) told.0 e;
      begun = told.1;
      one = told.2;
    }

    pub fresh_row : {after r : List ℕ} → Row s after (item_at s q l left) 0 r → Row s after (item_at s q l left) c r
    fresh_row {after} {r} row = subst (λ (i : ℕ). Row s after (item_at s q l left) i r) (sym told.0) row

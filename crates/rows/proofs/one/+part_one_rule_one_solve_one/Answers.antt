-- `part_one`, `rule_one` and `solve_one` meet their contracts, as one cycle of calls. The measure is three times the length, and 1 and 2
-- more for `part_one` and `rule_one`: a division's parts are shorter than their interval. The invariant of the loop over the rules: `zero`
-- and `one` are cells 0 and 1 of the lesser of what is packed of a leaf and of the first r rules (`Ruled`), and the table is sound, for
-- every sheet that stands behind the tables. The needs of each member are met in a file of its own. Assumes nothing.
use mathlib.Core.Path.{ap, refl, sym, ◌∙◌}
use Rattle.std.specs.declared.option.Option.TheVariants.{Some, None}
use native.Mathlib.Omega.{arith}
use lib.ListN.{get_or}
use Rattle.rows.specs.NameLaws.{stands_bar, solve_room, stands-length, stands_head, solve_stored}
use Rattle.rows.specs.OneCallLaws.{part_slot, part_solve, part_loaded, rule_length, rule_positive, rule_child, rule_near, rule_part}
use Rattle.rows.specs.OneCallLaws.{rule_way, rule_told, one_place, one_behind, leaf_one_asked, leaf_one_told, rule_asked}
use Rattle.rows.specs.TurnLaws.{ruled_low, ruled_idle}
use Rattle.rows.specs.SolveLaws.{place_in, division_at, split_told, rules_begin, rules_here, rules_next, rules_end, parts_shorter}
use Rattle.rows.proofs.one.+part_one_rule_one_solve_one.Goals.{solve_one-in-Some, solve_one-in_default}
use Rattle.rows.proofs.one.+part_one_rule_one_solve_one.Goals as goal

-- ---- part_one

pub part_one-place_of-at-requires : goal.part_one-place_of-at-requires
part_one-place_of-at-requires t c =
    (c.requires.0, part_slot c.requires.1)

pub part_one-held-requires : goal.part_one-held-requires
part_one-held-requires t c =
    let h = c.requires.1 in
    let e = part_solve h c.place_of-at.ensures in
    (solve_room e.entry h.sound, stands_bar h.stands)

pub part_one-load-y-requires : goal.part_one-load-y-requires
part_one-load-y-requires t c =
    let h = c.requires.1 in
    let e = part_solve h c.place_of-at.ensures in
    solve_room e.entry h.sound

pub part_one-returns-then-held : goal.part_one-returns-then-held
part_one-returns-then-held t c =
    let place_of = c.place_of-at in
    let held = c.held in
    let if1 = c.if-held in
    let load = c.load-y in
    λ s h. part_loaded h place_of.ensures (held.ensures.0 if1.true) (ap (λ v. get_or v 0 0) load.ensures)
    (ap (λ v. get_or v 1 0) load.ensures)

pub part_one-solve_one-requires : goal.part_one-solve_one-requires
part_one-solve_one-requires t c =
    let h = c.requires.1 in
    let e = part_solve h c.place_of-at.ensures in
    (omega arith, (c.requires.0, e))

pub part_one-returns : goal.part_one-returns
part_one-returns t c =
    let place_of = c.place_of-at in
    let solve-one = c.solve_one in
    λ s h. solve-one.ensures s (part_solve h place_of.ensures)

-- ---- rule_one

pub rule_one-length-len-requires : goal.rule_one-length-len-requires
rule_one-length-len-requires t c =
    let e = c.requires.1 in
    (rule_length e, (c.requires.0, e.stands.in_bar_lem.prepared))

pub rule_one-nonzero_div-i : goal.rule_one-nonzero_div-i
rule_one-nonzero_div-i t c =
    let e = c.requires.1 in
    let length = c.length-len in
    omega (arith, rule_positive e length.ensures refl)

pub rule_one-overflow_cast-part : goal.rule_one-overflow_cast-part
rule_one-overflow_cast-part t c =
    let e = c.requires.1 in
    omega (arith, (rule_child e c.length-len.ensures refl).1)

pub rule_one-child-q-requires : goal.rule_one-child-q-requires
rule_one-child-q-requires t c =
    let e = c.requires.1 in
    let length = c.length-len in
    rule_child e length.ensures refl

pub rule_one-overflow_mul-lo : goal.rule_one-overflow_mul-lo
rule_one-overflow_mul-lo t c =
    let e = c.requires.1 in
    let length = c.length-len in
    omega (arith, rule_near e length.ensures refl)

pub rule_one-overflow_add-lo : goal.rule_one-overflow_add-lo
rule_one-overflow_add-lo t c =
    let e = c.requires.1 in
    let length = c.length-len in
    omega (arith, rule_near e length.ensures refl)

pub rule_one-part_one-y-requires : goal.rule_one-part_one-y-requires
rule_one-part_one-y-requires t c =
    let length = c.length-len in
    let child = c.child-q in
    let e = c.requires.1 in
    let part = rule_part e length.ensures refl child.ensures in
    (omega arith, (c.requires.0, part))

pub rule_one-by_way-x-requires : goal.rule_one-by_way-x-requires
rule_one-by_way-x-requires t c =
    let length = c.length-len in
    let child = c.child-q in
    let part-one = c.part_one-y in
    let e = c.requires.1 in
    let row = part-one.ensures _ (rule_part e length.ensures refl child.ensures) in
    (c.requires.0, rule_way e length.ensures refl child.ensures row)

pub rule_one-returns : goal.rule_one-returns
rule_one-returns t c =
    let length = c.length-len in
    let child = c.child-q in
    let part-one = c.part_one-y in
    let by_way = c.by_way-x in
    let least = c.min in
    let least2 = c.min-2 in
    λ s e.
    let row = part-one.ensures s (rule_part e length.ensures refl child.ensures) in
    rule_told e length.ensures refl child.ensures row by_way.ensures least.ensures least2.ensures

-- ---- solve_one

pub solve_one-length-len-requires : goal.solve_one-length-len-requires
solve_one-length-len-requires t c =
    let t = c.requires.1.entry.entry.stands in
    (stands-length t, (c.requires.0, t.in_bar_lem.prepared))

pub solve_one-offset_bounds-units-from : goal.solve_one-offset_bounds-units-from
solve_one-offset_bounds-units-from t c = omega (arith, one_place c.requires.1)

pub solve_one-bounds-units-from : goal.solve_one-bounds-units-from
solve_one-bounds-units-from t c = omega (arith, one_place c.requires.1)

pub solve_one-overflow_sub-d : goal.solve_one-overflow_sub-d
solve_one-overflow_sub-d t c = omega (arith, one_behind c.requires.1)

pub solve_one-last_division-n-end-requires : goal.solve_one-last_division-n-end-requires
solve_one-last_division-n-end-requires t c = stands_head c.requires.1.entry.entry.stands

pub solve_one-leaf_one-leaf-requires : goal.solve_one-leaf_one-leaf-requires
solve_one-leaf_one-leaf-requires t c =
    let length = c.length-len in
    leaf_one_asked c.requires.1 length.ensures refl

pub solve_one-first_division-n-requires : goal.solve_one-first_division-n-requires
solve_one-first_division-n-requires t c = stands_head c.requires.1.entry.entry.stands

pub solve_one-loop-n-init : goal.solve_one-loop-n-init
solve_one-loop-n-init t c =
    let length = c.length-len in
    let leaf-one = c.leaf_one-leaf in
    let first-division = c.first_division-n in
    λ s e. rules_begin e.entry first-division.ensures (leaf_one_told e length.ensures refl leaf-one.ensures)

pub solve_one-rule_at_place-rule-requires : goal.solve_one-rule_at_place-rule-requires
solve_one-rule_at_place-rule-requires t c =
    let e = c.requires.1 in
    place_in e.entry (c.loop-n.invariant _ e) c.last_division-n-end.ensures c.loop-n-test.true

pub solve_one-split_at_place-requires : goal.solve_one-split_at_place-requires
solve_one-split_at_place-requires t c =
    let e = c.requires.1 in
    let less = c.loop-n-test.true in (
      place_in e.entry (c.loop-n.invariant _ e) c.last_division-n-end.ensures less,
      stands-length e.entry.entry.stands,
    )

pub solve_one-rule_one-y-requires : goal.solve_one-rule_one-y-requires
solve_one-rule_one-y-requires t c =
    let e = c.requires.1 in
    let t = e.entry.entry.stands in
    let done = c.loop-n.invariant _ e in
    let k = c.last_division-n-end.ensures in
    let less = c.loop-n-test.true in
    let is = c.rule_at_place-rule.ensures in
    let split = c.in-Some.ensures.1 _ _ t.in_bar_lem.prepared (division_at e.entry done k less) t.length_in in
    let d = split_told e.entry done k less is (Some _) split in
    let asked = rule_asked e c.length-len.ensures refl d (rules_here e.entry done k less is) in
    (omega (arith, parts_shorter e.entry d), (c.requires.0, asked))

pub solve_one-loop-n-preserved : goal.solve_one-loop-n-preserved
solve_one-loop-n-preserved t c =
    λ s e.
    let t = e.entry.entry.stands in
    let done = c.loop-n.invariant s e in
    let k = c.last_division-n-end.ensures in
    let less = c.loop-n-test.true in
    let is = c.rule_at_place-rule.ensures in
    let place = division_at e.entry done k less in
    let here = rules_here e.entry done k less is in
    rules_next e.entry done k less is (elim c.match-split_at_place.branch [
      | solve_one-in-Some w ↦
          let d = split_told e.entry done k less is (Some _) (w.in-Some.ensures.1 s _ t.in_bar_lem.prepared place t.length_in) in
          let met = w.rule_one-y.ensures s (rule_asked e c.length-len.ensures refl d here) in
          rw (w.rows-is, w.zero-is, w.one-is) met
      | solve_one-in_default w ↦
          let idle = split_told e.entry done k less is None (w.in_default.ensures.1 s _ t.in_bar_lem.prepared place t.length_in) in
          rw (w.rows-is, w.zero-is, w.one-is) (ruled_idle s _ _ _ here idle)
    ])

pub solve_one-overflow_add-bar : goal.solve_one-overflow_add-bar
solve_one-overflow_add-bar t c =
    omega (arith, stands_bar c.requires.1.entry.entry.stands)

pub solve_one-store-requires : goal.solve_one-store-requires
solve_one-store-requires t c =
    let e = c.requires.1 in
    let p = (c.loop-n.invariant _ e).ruled in
    (solve_room e.entry p.sound, omega (arith, stands_bar e.entry.entry.stands), ruled_low p)

pub solve_one-shape_of-rows : goal.solve_one-shape_of-rows
solve_one-shape_of-rows t c =
    let e = c.requires.1 in
    let row = rules_end e.entry (c.loop-n.invariant _ e) c.last_division-n-end.ensures c.loop-n-test.false in
    (solve_stored e.entry row c.store.ensures).sound.size ∙ sym e.entry.entry.sound.size

pub solve_one-returns : goal.solve_one-returns
solve_one-returns t c =
    λ s e.
    let row = rules_end e.entry (c.loop-n.invariant s e) c.last_division-n-end.ensures c.loop-n-test.false in
    solve_stored e.entry row c.store.ensures

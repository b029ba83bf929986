-- `fresh`, `lift`, `part`, `parts` and `solve` meet their contracts, as one cycle of calls. The measure is five times the length, and 1 to
-- 4 more for `fresh`, `lift`, `part` and `parts`: a division's parts are shorter than their interval. The invariant of the loop over the
-- parts: v is the vector over those before part j (`PartsDone`); of the loop over the rules: `best` is the lesser of what is packed of a
-- leaf and of the first r rules (`Ruled`). In both the table is sound, for every sheet that stands behind the tables. The needs of each
-- member are met in a file of its own. Assumes nothing.
use Prim.Native.Nat.{ℕ, ◌<◌}
use Rattle.std.specs.declared.option.Option.TheVariants.{Some, None}
use native.Mathlib.Omega.{arith}
use Rattle.rows.specs.OneCallLaws.{fresh_asked, fresh_one, fresh_row}
use mathlib.Core.Path.{subst, refl, sym, ◌∙◌}
use lib.ListN.{get_or}
use Rattle.rows.specs.NameLaws.{stands_bar, solve_room, solve_loaded, stands-length, stands_head, solve_stored}
use Rattle.rows.specs.TurnLaws.{row_low, ruled_low, ruled_none, ruled_idle, ruled_more}
use Rattle.rows.specs.IdleLaws.{Idle, taken_skip}
use Rattle.rows.specs.CallLaws.{lift_slot, lift_solve, lift_more, leaf_asked, dot_asked, part_empty, lift_entry, lift_none, lift_all}
use Rattle.rows.specs.CallLaws.{moved_none, moved_more, leaf_entry, leaf_told}
use Rattle.rows.specs.PartLaws.{rule_below, parts-length, parts_eight, parts_begin, parts_all, turn_near, turn_asked, turn_part, turn_more}
use Rattle.rows.specs.PartLaws.{parted_low}
use Rattle.rows.specs.SolveLaws.{place_in, division_at, rule_below as rule_within, split_told, rules_begin, rules_here, rules_next}
use Rattle.rows.specs.SolveLaws.{rules_end, parts_entry, parts_shorter}
use Rattle.rows.proofs.table.+fresh_lift_part_parts_solve.Goals.{solve-in-Some, solve-in_default}
use Rattle.rows.proofs.table.+fresh_lift_part_parts_solve.Goals as goal

-- ---- fresh

pub fresh-alone-requires : goal.fresh-alone-requires
fresh-alone-requires t c =
    (c.requires.0, fresh_asked c.requires.1)

pub fresh-solve_one-y-requires : goal.fresh-solve_one-y-requires
fresh-solve_one-y-requires t c =
    let alone = c.alone in
    let e = c.requires.1 in
    (c.requires.0, fresh_one e (alone.ensures _ (fresh_asked e) c.if-alone.true))

pub fresh-returns-then-alone : goal.fresh-returns-then-alone
fresh-returns-then-alone t c =
    let alone = c.alone in
    let if1 = c.if-alone in
    let solve-one = c.solve_one-y in
    λ s e.
    let told = alone.ensures s (fresh_asked e) if1.true in
    fresh_row e told (solve-one.ensures s (fresh_one e told))

pub fresh-solve-requires : goal.fresh-solve-requires
fresh-solve-requires t c =
    (omega arith, c.requires)

pub fresh-returns : goal.fresh-returns
fresh-returns t c =
    let solve = c.solve in
    λ s e. solve.ensures s e

-- ---- lift

pub lift-idle_at-requires : goal.lift-idle_at-requires
lift-idle_at-requires t c =
    let h = c.requires.2 in
    (h.few, omega (arith, h.zero_is, h.low 0), (c.requires.0, h.stands.in_bar_lem.prepared))

pub lift-returns-then-idle_at : goal.lift-returns-then-idle_at
lift-returns-then-idle_at t c =
    let idle-at = c.idle_at in
    λ s v h.
    let prepared = h.stands.in_bar_lem.prepared in
    let idle = idle-at.ensures s v prepared h.zero_is h.total_is c.if-idle_at.true in
    taken_skip s prepared.good _ h.few h.taken
    (subst (λ (b : ℕ). Idle s b (λ i. get_or v i 0) c.args.c) h.stands.first idle)

pub lift-place_of-at-requires : goal.lift-place_of-at-requires
lift-place_of-at-requires t c =
    (c.requires.0, lift_slot c.requires.2)

pub lift-held-requires : goal.lift-held-requires
lift-held-requires t c =
    let h = c.requires.2 in
    let e = lift_solve h c.place_of-at.ensures in
    (solve_room e h.taken.sound, stands_bar h.stands)

pub lift-load-y-requires : goal.lift-load-y-requires
lift-load-y-requires t c =
    let h = c.requires.2 in
    let e = lift_solve h c.place_of-at.ensures in
    solve_room e h.taken.sound

pub lift-relax-requires : goal.lift-relax-requires
lift-relax-requires t c =
    let h = c.requires.2 in
    let e = lift_solve h c.place_of-at.ensures in
    let row = solve_loaded e (c.held.ensures.0 c.if-held.true) c.load-y.ensures in
    (omega (arith, h.total_is, h.low c.args.c), row_low h.stands.in_bar_lem.prepared.good h.few row c.totals.ensures)

pub lift-returns-then-held : goal.lift-returns-then-held
lift-returns-then-held t c =
    λ s v h.
    let e = lift_solve h c.place_of-at.ensures in
    let row = solve_loaded e (c.held.ensures.0 c.if-held.true) c.load-y.ensures in
    lift_more h row c.totals.ensures c.relax.ensures

pub lift-fresh-y-requires : goal.lift-fresh-y-requires
lift-fresh-y-requires t c =
    let h = c.requires.2 in
    let e = lift_solve h c.place_of-at.ensures in
    (omega arith, (c.requires.0, e))

pub lift-relax-requires-2 : goal.lift-relax-requires-2
lift-relax-requires-2 t c =
    let h = c.requires.2 in
    let row = c.fresh-y.ensures _ (lift_solve h c.place_of-at.ensures) in
    (omega (arith, h.total_is, h.low c.args.c), row_low h.stands.in_bar_lem.prepared.good h.few row c.totals-2.ensures)

pub lift-returns : goal.lift-returns
lift-returns t c =
    λ s v h.
    let row = c.fresh-y.ensures s (lift_solve h c.place_of-at.ensures) in
    lift_more h row c.totals-2.ensures c.relax-2.ensures

-- ---- part

pub part-least_placed-requires : goal.part-least_placed-requires
part-least_placed-requires t c = leaf_asked c.requires.1

pub part-least_placed-requires-then-from-to : goal.part-least_placed-requires-then-from-to
part-least_placed-requires-then-from-to t c = leaf_asked c.requires.1

pub part-least_placed-requires-then-from-to-2 : goal.part-least_placed-requires-then-from-to-2
part-least_placed-requires-then-from-to-2 t c =
    leaf_asked c.requires.1

pub part-least_placed-requires-then-from-to-3 : goal.part-least_placed-requires-then-from-to-3
part-least_placed-requires-then-from-to-3 t c =
    leaf_asked c.requires.1

pub part-dot-requires : goal.part-dot-requires
part-dot-requires t c =
    let least-placed = c.least_placed in
    let least-placed2 = c.least_placed-then-from-to in
    let least-placed3 = c.least_placed-then-from-to-2 in
    let least-placed4 = c.least_placed-then-from-to-3 in
    dot_asked c.requires.1 least-placed.ensures least-placed2.ensures least-placed3.ensures least-placed4.ensures

pub part-returns-then-from-to : goal.part-returns-then-from-to
part-returns-then-from-to t c =
    let if1 = c.if-from-to in
    let least-placed = c.least_placed in
    let least-placed2 = c.least_placed-then-from-to in
    let least-placed3 = c.least_placed-then-from-to-2 in
    let least-placed4 = c.least_placed-then-from-to-3 in
    let dot = c.dot in
    λ s h.
    part_empty h least-placed.ensures least-placed2.ensures least-placed3.ensures least-placed4.ensures if1.true
    dot.ensures

pub part-loop-c-init : goal.part-loop-c-init
part-loop-c-init t c =
    let if1 = c.if-from-to in
    λ s v h ez m ee. (m, lift_none h if1.false)

pub part-lift-w-requires : goal.part-lift-w-requires
part-lift-w-requires t c =
    let if1 = c.if-from-to in
    let reached = c.reached-n in
    let loop = c.loop-c in
    let few : loop.c < 4 = omega (arith, c.loop-c-test.true, reached.ensures.most) in
    let s = c.requires.0 in
    let h = c.requires.1 in
    let (moved, taken) = loop.invariant s _ h refl (moved_none _) refl in
    (omega arith, (s, _, lift_entry h if1.false few refl moved taken))

pub part-loop-c-preserved : goal.part-loop-c-preserved
part-loop-c-preserved t c =
    let if1 = c.if-from-to in
    let reached = c.reached-n in
    let loop = c.loop-c in
    let loop-test = c.loop-c-test in
    let lift = c.lift-w in
    let few : loop.c < 4 = omega (arith, loop-test.true, reached.ensures.most) in
    λ s v h ez m ee.
    let (moved, taken) = loop.invariant s v h ez m ee in
    (moved_more moved ee, lift.ensures s v (lift_entry h if1.false few ez moved taken))

pub part-shape_of-rows : goal.part-shape_of-rows
part-shape_of-rows t c =
    let s = c.requires.0 in
    let h = c.requires.1 in
    (c.loop-c.invariant s _ h refl (moved_none _) refl).1.sound.size ∙ sym h.sound.size

pub part-returns : goal.part-returns
part-returns t c =
    let if1 = c.if-from-to in
    let reached = c.reached-n in
    let loop = c.loop-c in
    λ s h.
    let taken = (loop.invariant s _ h refl (moved_none _) refl).1 in
    lift_all h if1.false reached.ensures (omega (arith, c.loop-c-test.false)) taken

-- ---- parts

pub parts-length-len-requires : goal.parts-length-len-requires
parts-length-len-requires t c =
    let e = c.requires.1 in
    (parts-length e, (c.requires.0, e.in_bar_lem.prepared))

pub parts-loop-j-init : goal.parts-loop-j-init
parts-loop-j-init t c =
    let only_at = c.only_at-v in
    (omega arith, λ s e. parts_begin e only_at.ensures)

pub parts-child-q-requires : goal.parts-child-q-requires
parts-child-q-requires t c =
    let e = c.requires.1 in
    (rule_below e, omega (arith, c.loop-j-test.true, parts_eight e))

pub parts-overflow_add-end : goal.parts-overflow_add-end
parts-overflow_add-end t c =
    let length = c.length-len in
    let loop = c.loop-j in
    let e = c.requires.1 in
    omega (arith, turn_near e length.ensures loop.auto.j c.loop-j-test.true loop.invariant.0 (loop.invariant.1 _ e))

pub parts-first_behind-to-requires : goal.parts-first_behind-to-requires
parts-first_behind-to-requires t c =
    let length = c.length-len in
    let loop = c.loop-j in
    let e = c.requires.1 in
    turn_asked e length.ensures loop.auto.j c.loop-j-test.true loop.invariant.0 (loop.invariant.1 _ e)

pub parts-part-w-requires : goal.parts-part-w-requires
parts-part-w-requires t c =
    let length = c.length-len in
    let loop = c.loop-j in
    let loop-test = c.loop-j-test in
    let child = c.child-q in
    let first_behind = c.first_behind-to in
    let e = c.requires.1 in
    let d = loop.invariant.1 _ e in
    let part =
    turn_part e length.ensures loop.auto.j loop-test.true loop.invariant.0 d first_behind.ensures child.ensures in
    (omega arith, (c.requires.0, part))

pub parts-loop-j-preserved : goal.parts-loop-j-preserved
parts-loop-j-preserved t c =
    let length = c.length-len in
    let loop = c.loop-j in
    let loop-test = c.loop-j-test in
    let child = c.child-q in
    let first_behind = c.first_behind-to in
    let part = c.part-w in
    let i = loop.invariant in (
      omega (arith, i.0),
      λ s e.
          let told =
          turn_part e length.ensures loop.auto.j loop-test.true i.0 (i.1 s e) first_behind.ensures child.ensures in
          turn_more e length.ensures loop.auto.j loop-test.true i.0 (i.1 s e) first_behind.ensures child.ensures
          (part.ensures s told),
    )

pub parts-shape_of-rows : goal.parts-shape_of-rows
parts-shape_of-rows t c =
    let e = c.requires.1 in
    (c.loop-j.invariant.1 _ e).sound.size ∙ sym e.sound.size

pub parts-returns : goal.parts-returns
parts-returns t c =
    let loop = c.loop-j in
    let loop-test = c.loop-j-test in
    λ s e. parts_all e (omega (arith, loop-test.false, loop.auto.j)) (loop.invariant.1 s e)

-- ---- solve

pub solve-length-requires : goal.solve-length-requires
solve-length-requires t c =
    let e = c.requires.1 in
    (stands-length e.entry.stands, (c.requires.0, e.entry.stands.in_bar_lem.prepared))

pub solve-last_division-n-end-requires : goal.solve-last_division-n-end-requires
solve-last_division-n-end-requires t c = stands_head c.requires.1.entry.stands

pub solve-leaf_row-best-requires : goal.solve-leaf_row-best-requires
solve-leaf_row-best-requires t c =
    let e = c.requires.1 in
    (c.requires.0, leaf_entry e.entry c.length.ensures)

pub solve-first_division-n-requires : goal.solve-first_division-n-requires
solve-first_division-n-requires t c = stands_head c.requires.1.entry.stands

pub solve-loop-n-init : goal.solve-loop-n-init
solve-loop-n-init t c =
    let length = c.length in
    λ s e.
    let told = leaf_told e.entry length.ensures (c.leaf_row-best.ensures s (leaf_entry e.entry length.ensures)) in
    rules_begin e c.first_division-n.ensures (ruled_none _ _ told e.entry.sound)

pub solve-rule_at_place-rule-requires : goal.solve-rule_at_place-rule-requires
solve-rule_at_place-rule-requires t c =
    let e = c.requires.1 in
    place_in e (c.loop-n.invariant _ e) c.last_division-n-end.ensures c.loop-n-test.true

pub solve-split_at_place-requires : goal.solve-split_at_place-requires
solve-split_at_place-requires t c =
    let e = c.requires.1 in
    let less = c.loop-n-test.true in
    (place_in e (c.loop-n.invariant _ e) c.last_division-n-end.ensures less, stands-length e.entry.stands)

pub solve-parts-v-requires : goal.solve-parts-v-requires
solve-parts-v-requires t c =
    let e = c.requires.1 in
    let t = e.entry.stands in
    let done = c.loop-n.invariant _ e in
    let k = c.last_division-n-end.ensures in
    let less = c.loop-n-test.true in
    let split = c.in-Some.ensures.1 _ _ t.in_bar_lem.prepared (division_at e done k less) t.length_in in
    let d = split_told e done k less c.rule_at_place-rule.ensures (Some _) split in
    (omega (arith, parts_shorter e d), (c.requires.0, parts_entry e d done.ruled.sound))

pub solve-cost-requires : goal.solve-cost-requires
solve-cost-requires t c =
    let e = c.requires.1 in
    let less = c.loop-n-test.true in (
      rule_within e (c.loop-n.invariant _ e) c.last_division-n-end.ensures less c.rule_at_place-rule.ensures,
      (c.requires.0, e.entry.stands.in_bar_lem.prepared),
    )

pub solve-relax_rule-y-requires : goal.solve-relax_rule-y-requires
solve-relax_rule-y-requires t c =
    let e = c.requires.1 in
    let t = e.entry.stands in
    let done = c.loop-n.invariant _ e in
    let k = c.last_division-n-end.ensures in
    let less = c.loop-n-test.true in
    let is = c.rule_at_place-rule.ensures in
    let split = c.in-Some.ensures.1 _ _ t.in_bar_lem.prepared (division_at e done k less) t.length_in in
    let d = split_told e done k less is (Some _) split in (
      omega (arith, c.cost.ensures.0),
      omega (arith, rule_within e done k less is),
      parted_low d.rule (c.parts-v.ensures _ (parts_entry e d done.ruled.sound)),
    )

pub solve-loop-n-preserved : goal.solve-loop-n-preserved
solve-loop-n-preserved t c =
    λ s e.
    let t = e.entry.stands in
    let done = c.loop-n.invariant s e in
    let k = c.last_division-n-end.ensures in
    let less = c.loop-n-test.true in
    let is = c.rule_at_place-rule.ensures in
    let place = division_at e done k less in
    let here = rules_here e done k less is in
    rules_next e done k less is (elim c.match-split_at_place.branch [
      | solve-in-Some w ↦
          let d = split_told e done k less is (Some _) (w.in-Some.ensures.1 s _ t.in_bar_lem.prepared place t.length_in) in
          let met = w.parts-v.ensures s (parts_entry e d done.ruled.sound) in
          rw (w.rows-is, w.best-is)
          (ruled_more s _ _ _ here t.in_bar_lem.prepared.good d e.inhabited
          (w.cost.ensures.1 s t.in_bar_lem.prepared) met w.relax_rule-y.ensures)
      | solve-in_default w ↦
          let idle = split_told e done k less is None (w.in_default.ensures.1 s _ t.in_bar_lem.prepared place t.length_in) in
          rw (w.rows-is, w.best-is) (ruled_idle s _ _ _ here idle)
    ])

pub solve-overflow_add-bar : goal.solve-overflow_add-bar
solve-overflow_add-bar t c =
    omega (arith, stands_bar c.requires.1.entry.stands)

pub solve-store-requires : goal.solve-store-requires
solve-store-requires t c =
    let e = c.requires.1 in
    let p = (c.loop-n.invariant _ e).ruled in
    (solve_room e p.sound, omega (arith, stands_bar e.entry.stands), ruled_low p)

pub solve-shape_of-rows : goal.solve-shape_of-rows
solve-shape_of-rows t c =
    let e = c.requires.1 in
    let row = rules_end e (c.loop-n.invariant _ e) c.last_division-n-end.ensures c.loop-n-test.false in
    (solve_stored e row c.store.ensures).sound.size ∙ sym e.entry.sound.size

pub solve-returns : goal.solve-returns
solve-returns t c =
    λ s e.
    let row = rules_end e (c.loop-n.invariant s e) c.last_division-n-end.ensures c.loop-n-test.false in
    solve_stored e row c.store.ensures

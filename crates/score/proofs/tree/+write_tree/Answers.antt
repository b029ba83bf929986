-- `write_tree` meets its contract. The measure is the interval's length, which falls from an interval to its parts. The loop's invariant:
-- for any sheet and any parts that are to be written from its first turn on, the first `j` of them are written (`PartsUpto`).
-- Assumes nothing.
use borrow.Author.Rules.{rules}
use mathlib.Core.Path.{refl}
use native.Mathlib.Omega.{arith}
use Rattle.score.proofs.TreeSteps.{rule_left, rule_small, leaf_here, division_here, leaf_entry, leaf_done}
use Rattle.score.proofs.PartsSteps.{parts_none, part_entry, part_done, two_parts, part_shorter, parts_entry, division_done}
use Rattle.score.proofs.tree.+write_tree.Goals as goal

pub bounds-list-at : goal.bounds-list-at
bounds-list-at t c = let h = c.requires.3 in rule_left h

pub overflow_cast-list : goal.overflow_cast-list
overflow_cast-list t c = omega (arith, c.shared_slice_known-2-1.given c.args.p.at)

pub rule_at-rule-requires : goal.rule_at-rule-requires
rule_at-rule-requires t c = let h = c.requires.3 in rule_small h

pub overflow_add-next : goal.overflow_add-next
overflow_add-next t c = let h = c.requires.3 in let f = rule_left h in search rules

pub write_leaf-requires : goal.write_leaf-requires
write_leaf-requires t c =
    let rule_at_lem = c.rule_at-rule in
    let h = c.requires.3 in
    (c.requires.0, leaf_entry h (leaf_here h _ _ _ _ rule_at_lem.ensures c.in-Leaf.is))

pub nonzero_div-len : goal.nonzero_div-len
nonzero_div-len t c =
    let rule_at_lem = c.rule_at-rule in
    let h = c.requires.3 in
    let d = division_here h _ _ _ _ rule_at_lem.ensures c.in-Division.is in
    let f = two_parts h d.1 d.2 in
    search rules

pub loop-j-init : goal.loop-j-init
loop-j-init t c = (refl, λ s rest ks e g. parts_none g)

pub write_tree-next-requires : goal.write_tree-next-requires
write_tree-next-requires t c =
    let loop-test = c.loop-j-test in
    let loop = c.loop-j in
    let rule_at_lem = c.rule_at-rule in
    let h = c.requires.3 in
    let d = division_here h _ _ _ _ rule_at_lem.ensures c.in-Division.is in
    let g = parts_entry h d.1 d.2 in
    let u = loop.invariant.1 _ _ d.0 d.1 g in (
      omega (arith, part_shorter h d.1 d.2),
      (c.requires.0, _, _, part_entry g loop.j (omega (arith, loop-test.true, d.1)) _ refl _ _ u),
    )

pub loop-j-preserved : goal.loop-j-preserved
loop-j-preserved t c =
    let write-tree = c.write_tree-next in
    let loop-test = c.loop-j-test in
    let loop = c.loop-j in
    let t = loop-test.true in (
      search rules,
      λ s rest ks e g. let u = loop.invariant.1 s rest ks e g in part_done g
          loop.j (omega (arith, t, e)) _ refl _ _ u _ _
          (write-tree.ensures s _ _ (part_entry g loop.j (omega (arith, t, e)) _ refl _ _ u)),
    )

pub returns-in-Leaf : goal.returns-in-Leaf
returns-in-Leaf t c =
    let write-leaf = c.write_leaf in
    let rule_at_lem = c.rule_at-rule in
    λ s q rest h. leaf_done h (leaf_here h _ _ _ _ rule_at_lem.ensures c.in-Leaf.is) _ _
    (write-leaf.ensures s (leaf_entry h (leaf_here h _ _ _ _ rule_at_lem.ensures c.in-Leaf.is)))

pub shape_of-score-after-loop-j : goal.shape_of-score-after-loop-j
shape_of-score-after-loop-j t c = c.loop-j.invariant.0

pub returns-after-loop-j : goal.returns-after-loop-j
returns-after-loop-j t c =
    let loop = c.loop-j in
    let rule_at_lem = c.rule_at-rule in
    λ s q rest h.
    let d = division_here h _ _ _ _ rule_at_lem.ensures c.in-Division.is in
    division_done h d.1 d.2 loop.j _ _ (loop.invariant.1 _ _ d.0 d.1 (parts_entry h d.1 d.2)) (omega arith)

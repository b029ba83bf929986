-- `leaf_front` meets its contract: kind, left bound, length, n and the placed count, one behind the other. Assumes nothing.
use Prim.Native.Nat.{ℕ}
use mathlib.Core.Path.{◌≡◌, sym, ap, ◌∙◌}
use mathlib.Core.List.{List}
use native.Mathlib.Omega.{arith}
use lib.ListN.{length, set, replicate, length-set}
use Rattle.slices.specs.Over.{over_from, length-over_from}
use Rattle.score.proofs.LineSteps.{front_made}
use Rattle.score.proofs.line.leaf_front.Goals as goal

-- the line keeps its length
kind-size : (line : List ℕ) → line ≡ replicate 44 0 → length (set line 0 0x53) ≡ 44
kind-size line e = length-set line 0 0x53 ∙ ap length e

put_size : (at : ℕ) (bs xs ys : List ℕ) → ys ≡ over_from at bs xs → length xs ≡ 44 → length ys ≡ 44
put_size at bs xs ys e z = ap length e ∙ length-over_from at bs xs ∙ z

pub bounds-line-0 : goal.bounds-line-0
bounds-line-0 c = omega (arith, ap length c.requires.1)

pub put_field-requires : goal.put_field-requires
put_field-requires c =
    let z = kind-size c.args.line.now c.requires.1 in
    omega arith

pub put_field-requires-2 : goal.put_field-requires-2
put_field-requires-2 c =
    let z = kind-size c.args.line.now c.requires.1 in
    let x = put_size _ _ _ _ c.put_field.ensures z in
    omega arith

pub bounds-line-7 : goal.bounds-line-7
bounds-line-7 c =
    let z = kind-size c.args.line.now c.requires.1 in
    let x = put_size _ _ _ _ c.put_field.ensures z in
    let y = put_size _ _ _ _ c.put_field-2.ensures x in
    omega arith

pub bounds-line-8 : goal.bounds-line-8
bounds-line-8 c =
    let z = kind-size c.args.line.now c.requires.1 in
    let x = put_size _ _ _ _ c.put_field.ensures z in
    let y = put_size _ _ _ _ c.put_field-2.ensures x in
    omega (arith, length-set c.put_field-2.new.line 7 c.args.n)

pub shape_of-line : goal.shape_of-line
shape_of-line c =
    let z = kind-size c.args.line.now c.requires.1 in
    let x = put_size _ _ _ _ c.put_field.ensures z in
    let y = put_size _ _ _ _ c.put_field-2.ensures x in
    length-set (set c.put_field-2.new.line 7 c.args.n) 8 c.args.placed ∙ length-set
    c.put_field-2.new.line 7
    c.args.n ∙ y ∙ sym (ap length c.requires.1)

pub returns : goal.returns
returns c =
    front_made _ _ _ _ c.args.line.now _ _ c.requires.1 c.put_field.ensures
    c.put_field-2.ensures

-- `division_at` meets its contract: the first onset at or behind the left bound tells whether one lies inside. Assumes nothing.
use Prim.Native.Nat.{ℕ, ◌%◌, ◌<◌}
use mathlib.Core.Path.{◌≡◌, refl}
use mathlib.Core.Bool.{true, false, and-false}
use native.Mathlib.Omega.{arith}
use borrow.Author.Tests.{eq-eqb, ne_eqb, lt-ltb, le-ltb}
use lib.Dec.{eqb}
use Rattle.sheet.specs.Sheet.{Sheet}
use Rattle.trees.specs.ValidTrees.{may_divide}
use Rattle.trees.specs.Instance.{onsets_in}
use Rattle.expansions.specs.Places.{first_most}
use Rattle.expansions.proofs.PlaceSteps.{some_inside, none_inside}
use borrow.Author.Rules.{rules}
use Rattle.expansions.proofs.division_at.Goals.{then-k-eq0-via-then-k-eq0, then-k-eq0-via-else-k-eq0+then-over-k-ne0}
use Rattle.expansions.proofs.division_at.Goals.{then-k-eq0-via-else-k-eq0+else-over-k-ne0+then-over-units}
use Rattle.expansions.proofs.division_at.Goals as goal

module _ (s : Sheet) (k left len : ℕ) where
  uneven : (len % k ≡ 0 → ⊥) → may_divide s k left len ≡ false
  unfolding may_divide onsets_in
  uneven h = rw (ne_eqb (len % k) 0 h)

  empty : onsets_in s left len ≡ 0 → may_divide s k left len ≡ false
  unfolding may_divide onsets_in
  empty h = rw (le-ltb 0 (onsets_in s left len) (omega arith)) (and-false (eqb (len % k) 0))

  allowed : len % k ≡ 0 → 0 < onsets_in s left len → may_divide s k left len ≡ true
  unfolding may_divide onsets_in
  allowed h i = rw (eq-eqb (len % k) 0 h, lt-ltb 0 (onsets_in s left len) i)

pub returns-then-k-eq0 : goal.returns-then-k-eq0
returns-then-k-eq0 c =
    elim c.then-k-eq0.branch [
      | then-k-eq0-via-then-k-eq0 w ↦ λ s h some. absurd (some w.if-k-eq0.true)
      | then-k-eq0-via-else-k-eq0+then-over-k-ne0 w ↦ λ s h some. uneven s _ _ _ w.if-over-k-ne0.true
      | then-k-eq0-via-else-k-eq0+else-over-k-ne0+then-over-units w ↦
          λ s h some. empty s _ _ _ (none_inside h (omega (arith, w.if-over-units.true)))
    ]

pub overflow_add-over : goal.overflow_add-over
overflow_add-over c =
    let h = c.requires.1.within in
    search rules

pub offset_bounds-units-from : goal.offset_bounds-units-from
offset_bounds-units-from c =
    let p = c.requires in
    let h = first_most p.0 p.1.onsets.good c.args.over.left.0 in
    let e = p.1.first in
    search rules

pub bounds-units-from : goal.bounds-units-from
bounds-units-from c =
    let p = c.requires in
    omega (arith, p.1.first, first_most p.0 p.1.onsets.good c.args.over.left.0)

pub returns : goal.returns
returns c =
    let if1 = c.if-k-eq0 in
    let if2 = c.if-over-k-ne0 in
    let if3 = c.if-over-units in
    λ s h. (refl, refl, allowed s _ _ _ if2.false (some_inside h (omega (arith, if3.false))), if1.false)

-- What a rule totals at an item with a vector behind it, and what a division makes of an item.
use Prim.Native.Nat.{ℕ, ◌+◌, ◌*◌, ◌/◌, ◌%◌, ◌≤◌, ◌<◌}
use mathlib.Core.Path.{◌≡◌, refl, sym, ◌∙◌}
use mathlib.Core.Bool.{true, false, false≢true}
use mathlib.Core.List.{List}
use mathlib.Core.Option.{none, some, some-injective}
use native.Mathlib.Nat.{mul-mod_right, mul-div_cancel_left}
use native.Mathlib.Omega.{arith}
use borrow.Author.Tests.{eq-eqb, lt-ltb}
use lib.ListN.{length}
use Rattle.sheet.specs.declared.clock.Units.{Units}
use Rattle.sheet.specs.Sheet.{division, leaf, Sheet}
use Rattle.sheet.specs.Good.{GoodRules}
use Rattle.derivations.specs.Derivation.{Item, Expansion}
use Rattle.derivations.specs.Folds.{via}
use Rattle.trees.specs.ValidTrees.{rule_at, may_divide, weight_at}
use Rattle.trees.specs.Instance.{onsets_in, at_division, instance_of}
use Rattle.trees.specs.LeastTotal.{NONE}
use Rattle.trees.specs.Expansions.{division_expands}
use Rattle.trees.proofs.RoomLaws.{good_division}
use Rattle.plan.specs.Plan.{length_at, Divides}
use Rattle.rows.specs.Slots.{item_at}
use Rattle.rows.specs.Rows.{parts_at}
use Rattle.building.specs.Clauses.{suffix_costs, rest_total}

module _ (s : Sheet) (g : Item) (v : ℕ → ℕ) (c r : ℕ) where
  -- where the rule makes nothing of the item
  pub total_none : (instance_of s).expand g c r ≡ none → rest_total s g v c r ≡ NONE
  unfolding rest_total via
  total_none e = rw e refl

  pub total_some : (m : Expansion) → (instance_of s).expand g c r ≡ some m
      → rest_total s g v c r ≡ s.grammar.multiplier * weight_at s r + m.distance + suffix_costs s m.parts v m.carry
  unfolding rest_total via instance_of
  total_some m e = rw e refl

-- a rule is no leaf and a division at once
pub not_both : (s : Sheet) (r h w n i u : ℕ) (ks : List ℕ) → rule_at s r ≡ some (leaf h w n) → rule_at s r ≡ some (division i u ks) → ⊥
not_both s r h w n i u ks e d =
    let f : leaf h w n ≡ division i u ks = some-injective _ _ (sym e ∙ d) in
    let b : false ≡ true = cc in
    false≢true b

-- a division with an onset inside
module _ (s : Sheet) (good : GoodRules s.grammar) (q l : ℕ) (left : Units) (c r k h : ℕ) (d : Divides s q l r k h)
    (inhabited : 0 < onsets_in s left.0 (length_at s l)) where
  two : 2 ≤ k
  two = omega (arith, (good_division s good r q d.weight d.parts d.rule).two, d.count)

  allowed : may_divide s (length d.parts) left.0 (length_at s l) ≡ true
  unfolding may_divide onsets_in
  allowed =
      let z : length_at s l % length d.parts ≡ 0 = rw (d.count, d.whole) (mul-mod_right k (length_at s h)) in
      rw (eq-eqb _ _ z, lt-ltb _ _ inhabited) refl

  part_is : length_at s l / length d.parts ≡ length_at s h
  part_is = rw (d.count, d.whole) (mul-div_cancel_left (length_at s h) (omega (arith, two)))

  pub division_expanded : (instance_of s).expand (item_at s q l left) c r
      ≡ some (record { parts = parts_at s h left d.parts; carry = c; distance = 0 })
  unfolding at_division
  division_expanded =
      division_expands s (item_at s q l left) c r (at_division (item_at s q l left) c d.parts)
      (record { weight = d.weight; kids = d.parts; rule = d.rule; allowed = allowed; is = refl })
      ∙ rw part_is refl

  pub division_totals : (v : ℕ → ℕ) → rest_total s (item_at s q l left) v c r
      ≡ s.grammar.multiplier * weight_at s r + suffix_costs s (parts_at s h left d.parts) v c
  division_totals v =
      total_some s (item_at s q l left) v c r (record { parts = parts_at s h left d.parts; carry = c; distance = 0 }) division_expanded
      ∙ omega arith

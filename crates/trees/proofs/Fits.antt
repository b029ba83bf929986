-- Leaves that onsets are carried into: that they fit, and their price. Where two rows of leaves fit together each fits, what the first
-- carries out being carried into the second, and the price of both together is the two prices added.
use Rattle.std.specs.Prelude.{ℕ, ◌+◌, ◌≡◌, length}
use Rattle.std.proofs.Math.Path.{refl}
use Rattle.std.proofs.Common.{sym, ap}
use mathlib.Core.List.{List, [], ◌∷◌, ◌++◌}
use native.Mathlib.Omega.{arith}
use Rattle.slices.specs.Every.{Every}
use Rattle.sheet.specs.Sheet.{Onset, Sheet}
use Rattle.derivations.specs.Derivation.{Price, ◌⊞◌, price_eq}
use Rattle.trees.specs.ValidTrees.{late, Leaf, placed_from, carried_out, FewLate, KindFits, rule_weight}
use Rattle.trees.proofs.Placing.{own_distances, own_distances-append}

-- at most three are late at each leaf, and the kinds fit, when `carried` is carried into the first
pub record Fits (s : Sheet) (carried : List Onset) (leaves : List Leaf) : Type 0 where
  pub few_late : Every (FewLate s) leaves
  pub kinds_fit : Every (KindFits s) (placed_from s carried leaves)

-- the price of leaves and of their trees' writing, each onset counted at the leaf that it lies in
abbrev pub price_from : Sheet → (carried : List Onset) → List Leaf → (bytes : List ℕ) → Price
price_from s cs ls bs = record { carry = length (carried_out s cs ls); weight = rule_weight s bs; distance = own_distances s ls }

module _ (s : Sheet) where
  pub fits_split : (cs : List Onset) (ls ms : List Leaf) → Fits s cs (ls ++ ms) → Fits s cs ls × Fits s (carried_out s cs ls) ms
  unfolding placed_from carried_out
  fits_split cs [] ms f = (record { few_late = tt; kinds_fit = tt }, f)
  fits_split cs (l ∷ ls) ms f =
      let rest : Fits s (late s l.left l.len) (ls ++ ms) = record { few_late = f.few_late.1; kinds_fit = f.kinds_fit.1 } in
      let (f₁, f₂) = fits_split (late s l.left l.len) ls ms rest in
      (record { few_late = (f.few_late.0, f₁.few_late); kinds_fit = (f.kinds_fit.0, f₁.kinds_fit) }, f₂)

  carried_out-append : (cs : List Onset) (ls ms : List Leaf) → carried_out s cs (ls ++ ms) ≡ carried_out s (carried_out s cs ls) ms
  unfolding carried_out
  carried_out-append cs [] ms = refl
  carried_out-append cs (l ∷ ls) ms = carried_out-append (late s l.left l.len) ls ms

  rule_weight-append : (xs ys : List ℕ) → rule_weight s (xs ++ ys) ≡ rule_weight s xs + rule_weight s ys
  unfolding rule_weight
  rule_weight-append [] ys = omega arith
  rule_weight-append (x ∷ xs) ys = omega (arith, rule_weight-append xs ys)

  pub price_append : (cs : List Onset) (ls ms : List Leaf) (xs ys : List ℕ)
      → price_from s cs ls xs ⊞ price_from s (carried_out s cs ls) ms ys ≡ price_from s cs (ls ++ ms) (xs ++ ys)
  price_append cs ls ms xs ys =
      price_eq _ _ (ap length (sym (carried_out-append cs ls ms))) (sym (rule_weight-append xs ys)) (sym (own_distances-append s ls ms))

-- What the cases say, and that they hold: of each text, that the tree is valid and no valid list totals less, that no list of any length is
-- valid, that a list is priced so, or that it is no tree.
use Rattle.std.specs.Prelude.{ℕ, ◌≡◌, ◌&&◌, length, replicate}
use Rattle.std.proofs.Math.Path.{refl, sym, ap}
use Rattle.std.proofs.Common.{◌∙◌, arith}
use Rattle.std.proofs.Math.Bool.{true, false, false≢true}
use mathlib.Core.List.{List, [], ◌∷◌, map, head-eq_of_cons-eq, tail-eq_of_cons-eq}
use Rattle.std.proofs.Math.Option.{Option, none, some}
use Rattle.std.proofs.Math.Dec.{eqb}
use borrow.Author.Tests.{eqb-true, not-true}
use Rattle.slices.specs.Every.{Every}
use Rattle.slices.specs.Test.{and_both}
use Rattle.sheet.specs.Sheet.{Sheet, TimedSheet}
use Rattle.sheet.specs.Outcome.{Outcome, refused, accepted}
use Rattle.sheet.specs.Good.{Good}
use Rattle.sheet.proofs.GoodLaws.{good}
use Rattle.sheet.specs.Reading.{read_sheet}
use Rattle.derivations.specs.Derivation.{Price, derive, price_eq}
use Rattle.trees.specs.ValidTrees.{bars, ValidTree, Priced, total_of}
use Rattle.trees.specs.Instance.{instance_of, Derived}
use Rattle.trees.specs.LeastTotal.{NONE, least_total}
use Rattle.trees.specs.Cases.{Verdict, least, no_tree_lem, priced, no_valid, Case, priced_as, is_tree, judged, judged_of}
use Rattle.trees.specs.Cases.{holds, cases, all_computed}
use Rattle.trees.proofs.Equivalence.{valid_derived, derived_valid}
use Rattle.trees.specs.LeastTrees.{LeastTree}
use Rattle.trees.proofs.Found.{own_price, least_total_below}
use Rattle.trees.proofs.Theorems.{none_valid}

-- what a verdict says of a sheet
abbrev pub Says : Sheet → Verdict → Type 0
Says s (least bytes R D total) = LeastTree s bytes R D × (total_of s R D ≡ total)
Says s no_tree_lem = (bytes : List ℕ) → ValidTree s bytes → ⊥
Says s (priced bytes R D) = Priced s bytes R D
Says s (no_valid bytes) = ValidTree s bytes → ⊥

-- the text means a sheet, and the verdict is true of it
pub record Holds (c : Case) : Type 0 where
  pub means : TimedSheet
  pub read : read_sheet c.text ≡ accepted means
  pub says : Says means.sheet c.verdict

module _ (s : Sheet) where
  priced_as_lem : (bs : List ℕ) (R D : ℕ) → priced_as s bs R D ≡ true → Priced s bs R D
  unfolding priced_as Derived
  priced_as_lem bs R D e = derived_valid s bs R D (go (derive (instance_of s) bs (bars s) 0) refl e)
    where
      go : (o : Option Price) → derive (instance_of s) bs (bars s) 0 ≡ o
          → elim o [ none ↦ false | some p ↦ eqb p.carry 0 && (eqb p.weight R && eqb p.distance D) ] ≡ true
          → derive (instance_of s) bs (bars s) 0 ≡ some (record { carry = 0; weight = R; distance = D })
      go none h k = absurd (false≢true k)
      go (some p) h k =
          let (c, t) = and_both (eqb p.carry 0) (eqb p.weight R && eqb p.distance D) k in
          let (w, d) = and_both (eqb p.weight R) (eqb p.distance D) t in
          h ∙ ap some (price_eq p _ (eqb-true _ _ c) (eqb-true _ _ w) (eqb-true _ _ d))

  is_tree_lem : (bs : List ℕ) → ValidTree s bs → is_tree s bs ≡ true
  unfolding is_tree Derived
  is_tree_lem bs v = let (R, D, p) = own_price s bs v in rw (valid_derived s bs R D p, is_tree) refl

  module _ (ok : Good s) where
    judged_says : (v : Verdict) → judged s v ≡ true → Says s v
    unfolding judged
    judged_says (least bs R D t) e =
        let (p, q) = and_both (priced_as s bs R D) (eqb (total_of s R D) t && eqb (least_total s) t) e in
        let (x, y) = and_both (eqb (total_of s R D) t) (eqb (least_total s) t) q in
        let same : least_total s ≡ total_of s R D = eqb-true _ _ y ∙ sym (eqb-true _ _ x) in (
          record {
            valid = priced_as_lem bs R D p;
            least = λ xs R' D' w. omega (arith, same, least_total_below s ok.rules xs R' D' w);
          },
          eqb-true _ _ x,
        )
    judged_says no_tree_lem e = none_valid s ok (omega (arith, eqb-true (least_total s) NONE e))
    judged_says (priced bs R D) e = priced_as_lem bs R D e
    judged_says (no_valid bs) e = λ v. false≢true (sym (not-true _ e) ∙ is_tree_lem bs v)

holds_means : (c : Case) → holds c ≡ true → Holds c
unfolding holds judged_of
holds_means c = go (read_sheet c.text) refl
  where
    go : (o : Outcome TimedSheet) → read_sheet c.text ≡ o → judged_of o c.verdict ≡ true → Holds c
    go (refused k n) r e = absurd (false≢true e)
    go (accepted x) r e = record { means = x; read = r; says = judged_says x.sheet (good c.text x r) c.verdict e }

every_true : (cs : List Case) → map holds cs ≡ replicate (length cs) true → Every Holds cs
every_true [] e = tt
every_true (c ∷ cs) e = (holds_means c (head-eq_of_cons-eq e), every_true cs (tail-eq_of_cons-eq e))

-- the eight cases of the paper, those of the traps and those of the other points
pub all_hold : Every Holds cases
all_hold = every_true cases all_computed

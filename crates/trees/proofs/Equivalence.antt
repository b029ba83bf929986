-- A list is derived at a price exactly when it is a valid tree with that R and D. Nothing is asked of the sheet.
use Rattle.std.specs.Prelude.{ℕ, ◌/◌, ◌≡◌, true, length}
use Rattle.std.proofs.Math.Path.{refl, ap}
use Rattle.std.proofs.Common.{sym, ◌∙◌, zero-add, suc-ne-zero}
use mathlib.Core.List.{List, [], ◌∷◌, append-nil}
use Rattle.std.proofs.Math.Option.{some}
use Rattle.std.proofs.Math.ListN.{length-append}
use Rattle.sheet.specs.Sheet.{division, leaf, Onset, Sheet}
use Rattle.derivations.specs.Derivation.{Item, Expansion, Price, derive, unspent, price_eq, cons_derive, derive-append}
use Rattle.trees.specs.ValidTrees.{Forest, Tree, written, written_all, early, adjoining, bars, rule_at, may_divide, Leaf, by_leaf}
use Rattle.trees.specs.ValidTrees.{by_division}
use Rattle.trees.specs.ValidTrees.{ParsedAll, empty_forest, next_tree, placed_from, carried_out, ValidTree, rule_weight, Priced}
use Rattle.trees.specs.Instance.{at_leaf, at_division, instance_of, Derived}
use Rattle.trees.specs.Expansions.{LeafStep, DivisionStep, leaf_expands, division_expands}
use Rattle.trees.proofs.Placing.{own_distances, distance_own}
use Rattle.trees.proofs.Fits.{Fits, price_from, fits_split, price_append}
use Rattle.trees.proofs.Readings.{Reading, derived_read}

-- ---- a forest that fits is derived

module _ (s : Sheet) where
  -- the writing bs is derived from the items gs at the price of the leaves ls
  abbrev DerivedFrom : List ℕ → List Item → List Onset → List Leaf → Type 0
  DerivedFrom bs gs cs ls = derive (instance_of s) bs gs (length cs) ≡ some (price_from s cs ls bs)

  leaf_derived : (r h w n : ℕ) (g : Item) → rule_at s r ≡ some (leaf h w n) → h ≡ g.nonterminal → (cs : List Onset)
      → Fits s cs (record { left = g.left; len = g.len; n = n } ∷ [])
      → DerivedFrom (r ∷ []) (g ∷ []) cs (record { left = g.left; len = g.len; n = n } ∷ [])
  unfolding instance_of at_leaf placed_from carried_out rule_weight own_distances derive
  leaf_derived r h w n g e f cs fit =
      cons_derive (instance_of s) r [] g [] (length cs) (at_leaf s g) (unspent _) (leaf_expands s g (length cs) r (at_leaf s g) step) refl
    where
      step : LeafStep s g (length cs) r (at_leaf s g)
      step =
          record {
            weight = w;
            n = n;
            rule = rw (← f) e;
            few_late = fit.few_late.0;
            kind_fits = rw (← length-append cs (early s g.left g.len)) fit.kinds_fit.0;
            is = refl;
          }

  division_derived : (r h w : ℕ) (ks : List ℕ) (g : Item) (bs : List ℕ) (ls : List Leaf) → rule_at s r ≡ some (division h w ks)
      → h ≡ g.nonterminal → may_divide s (length ks) g.left g.len ≡ true → (cs : List Onset)
      → DerivedFrom bs (adjoining g.left (g.len / length ks) ks) cs ls → DerivedFrom (r ∷ bs) (g ∷ []) cs ls
  unfolding instance_of at_division rule_weight
  division_derived r h w ks g bs ls e f d cs k =
      cons_derive (instance_of s) r bs g [] (length cs) m _ (division_expands s g (length cs) r m step) (rw append-nil k)
      ∙ ap some (price_eq _ _ refl refl (zero-add _))
    where
      m : Expansion
      m = at_division g (length cs) ks

      step : DivisionStep s g (length cs) r m
      step = record { weight = w; kids = ks; rule = rw (← f) e; allowed = d; is = refl }

  none_derived : (cs : List Onset) → DerivedFrom [] [] cs []
  unfolding derive rule_weight own_distances carried_out
  none_derived cs = refl

  abbrev TreeDerived : Tree → Item → List Leaf → Type 0
  TreeDerived t g ls = (cs : List Onset) → Fits s cs ls → DerivedFrom (written t) (g ∷ []) cs ls

  abbrev ForestDerived : Forest → List Item → List Leaf → Type 0
  ForestDerived ts gs ls = (cs : List Onset) → Fits s cs ls → DerivedFrom (written_all ts) gs cs ls

  forest_derived : {ts : Forest} {gs : List Item} {ls : List Leaf} → ParsedAll s ts gs ls → ForestDerived ts gs ls
  unfolding written_all
  forest_derived p =
      elim p as (λ t g ls q. TreeDerived t g ls) (λ ts gs ls q. ForestDerived ts gs ls) [
        | by_leaf r h w n g e f ↦ leaf_derived r h w n g e f
        | by_division r h w ks g ts ls e f d (q → ih) ↦ λ cs fit. division_derived r h w ks g (written_all ts) ls e f d cs (ih cs fit)
        | empty_forest ↦ λ cs fit. none_derived cs
        | next_tree t g ls ts gs ms (q → ih) (qs → ihs) ↦ λ cs fit.
            let (f₁, f₂) = fits_split s cs ls ms fit in
            derive-append (instance_of s) (written t) (written_all ts) (g ∷ []) gs (length cs) _ _ (ih cs f₁) (ihs (carried_out s cs ls) f₂)
            ∙ ap some (price_append s cs ls ms (written t) (written_all ts))
      ]

-- ---- the two senses of a valid tree

-- a valid tree with R and D is derived at that price
pub valid_derived : (s : Sheet) (bs : List ℕ) (R D : ℕ) → Priced s bs R D → Derived s bs R D
unfolding Derived
valid_derived s bs R D p = (rw v.writing at read) ∙ ap some (price_eq _ _ (ap length v.none_carried_out) p.weight own)
  where
    v : ValidTree s bs
    v = p.valid

    read : derive (instance_of s) (written_all v.trees) (bars s) 0 ≡ some (price_from s [] v.leaves (written_all v.trees))
    read = forest_derived s v.parsed [] (record { few_late = v.few_late; kinds_fit = v.kinds_fit })

    own : own_distances s v.leaves ≡ D
    own = sym (distance_own s v.parsed v.none_carried_out) ∙ p.distance

length_zero : {A : Type 0} (xs : List A) → length xs ≡ 0 → xs ≡ []
length_zero [] e = refl
length_zero (x ∷ xs) e = absurd (suc-ne-zero _ e)

-- and what is derived at a price is a valid tree with that R and D
pub derived_valid : (s : Sheet) (bs : List ℕ) (R D : ℕ) → Derived s bs R D → Priced s bs R D
unfolding Derived
derived_valid s bs R D e = go (derived_read s bs (bars s) 0 price e [] refl)
  where
    price : Price
    price = record { carry = 0; weight = R; distance = D }

    go : Reading s [] bs (bars s) price → Priced s bs R D
    go d =
        let out : carried_out s [] d.leaves ≡ [] = length_zero _ (sym (ap (λ p. p.carry) d.comes_to)) in
        record {
          valid = record {
            trees = d.trees;
            leaves = d.leaves;
            parsed = d.parsed;
            writing = d.writing;
            few_late = d.fits.few_late;
            kinds_fit = d.fits.kinds_fit;
            none_carried_out = out;
          };
          weight = sym (ap (λ p. p.weight) d.comes_to);
          distance = distance_own s d.parsed out ∙ sym (ap (λ p. p.distance) d.comes_to);
        }

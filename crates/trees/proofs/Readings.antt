-- A list that is derived is the writing of a forest, over the items that it is derived from and at the price that it is derived at.
use Rattle.std.specs.Prelude.{ℕ, ◌/◌, ◌≡◌}
use Rattle.std.proofs.Math.Path.{refl}
use Rattle.std.proofs.Common.{sym, ap, ◌∙◌, inl, inr, zero-add, length-append}
use mathlib.Core.List.{List, [], ◌∷◌, ◌++◌, append_assoc}
use Rattle.std.proofs.Math.Option.{some}
use Rattle.std.proofs.Math.ListN.{length}
use Rattle.sheet.specs.Sheet.{Onset, Sheet}
use Rattle.derivations.specs.Derivation.{Item, Expansion, Price, derive, price_of, ◌⊞◌, unspent, price_eq, derive-rec}
use Rattle.trees.specs.ValidTrees.{Forest, node, cons, nil, written, written_all, early, late, onsets_before, adjoining, token, Leaf}
use Rattle.trees.specs.ValidTrees.{by_leaf, by_division, ParsedAll, empty_forest, next_tree, placed_from, carried_out, rule_weight}
use Rattle.trees.specs.Instance.{at_leaf, at_division, instance_of}
use Rattle.trees.specs.Expansions.{LeafStep, DivisionStep, Step, step_of}
use Rattle.trees.proofs.Placing.{own_distances}
use Rattle.trees.proofs.Fits.{Fits, price_from}

-- a forest over two rows of items is two forests
record Split (s : Sheet) (g₁ g₂ : List Item) (bytes : List ℕ) (leaves : List Leaf) : Type 0 where
  first : Forest
  rest : Forest
  leaves₁ : List Leaf
  leaves₂ : List Leaf
  parsed₁ : ParsedAll s first g₁ leaves₁
  parsed₂ : ParsedAll s rest g₂ leaves₂
  writing : written_all first ++ written_all rest ≡ bytes
  in_order_lem : leaves₁ ++ leaves₂ ≡ leaves

forest_split : (s : Sheet) (ts : Forest) (g₁ g₂ : List Item) (ls : List Leaf) → ParsedAll s ts (g₁ ++ g₂) ls
    → Split s g₁ g₂ (written_all ts) ls
unfolding written_all
forest_split s ts [] g₂ ls p =
    record { first = nil; rest = ts; leaves₁ = []; leaves₂ = ls; parsed₁ = empty_forest; parsed₂ = p; writing = refl; in_order_lem = refl }
forest_split s ts (g ∷ g₁) g₂ ls (next_tree t h ks us gs ms q qs) = go (forest_split s us g₁ g₂ ms qs)
  where
    go : Split s g₁ g₂ (written_all us) ms → Split s (h ∷ g₁) g₂ (written_all (cons t us)) (ks ++ ms)
    go d =
        record {
          first = cons t d.first;
          rest = d.rest;
          leaves₁ = ks ++ d.leaves₁;
          leaves₂ = d.leaves₂;
          parsed₁ = next_tree t h ks d.first g₁ d.leaves₁ q d.parsed₁;
          parsed₂ = d.parsed₂;
          writing = append_assoc (written t) (written_all d.first) (written_all d.rest) ∙ ap (written t ++◌) d.writing;
          in_order_lem = append_assoc ks d.leaves₁ d.leaves₂ ∙ ap (ks ++◌) d.in_order_lem;
        }

-- a forest whose writing is the list, over the items, that fits with `carried` carried into its first leaf
pub record Reading (s : Sheet) (carried : List Onset) (bytes : List ℕ) (items : List Item) (price : Price) : Type 0 where
  pub trees : Forest
  pub leaves : List Leaf
  pub parsed : ParsedAll s trees items leaves
  pub writing : written_all trees ≡ bytes
  pub fits : Fits s carried leaves
  pub comes_to : price ≡ price_from s carried leaves bytes

module _ (s : Sheet) where
  -- there is one, whatever c onsets are carried in
  abbrev pub Readings : List ℕ → List Item → ℕ → Price → Type 0
  Readings bs gs c p = (cs : List Onset) → length cs ≡ c → Reading s cs bs gs p

  none_read : (c : ℕ) → Readings [] [] c (unspent c)
  unfolding written_all carried_out placed_from rule_weight own_distances
  none_read c cs e =
      record {
        trees = nil;
        leaves = [];
        parsed = empty_forest;
        writing = refl;
        fits = record { few_late = tt; kinds_fit = tt };
        comes_to = price_eq _ _ (sym e) refl refl;
      }

  module _ (r : ℕ) (bs : List ℕ) (g : Item) (gs : List Item) (c : ℕ) (q : Price) where
    -- the rule r, that makes the expansion m, before a list that is read at q
    abbrev ReadBy : Expansion → List Onset → Type 0
    ReadBy m cs = Reading s cs (r ∷ bs) (g ∷ gs) (price_of ((instance_of s).weight r) m ⊞ q)

    leaf_read : (m : Expansion) → LeafStep s g c r m → Readings bs (m.parts ++ gs) m.carry q → (cs : List Onset) → length cs ≡ c
        → ReadBy m cs
    unfolding instance_of at_leaf written_all placed_from carried_out rule_weight own_distances
    leaf_read m l ih cs e = rw l.is (go ((rw l.is at ih) (late s g.left g.len) refl))
      where
        here : Leaf
        here = record { left = g.left; len = g.len; n = l.n }

        kind : l.n ≡ token (length (cs ++ early s g.left g.len)) (onsets_before s g.left)
        kind = rw (length-append, e) l.kind_fits

        go : Reading s (late s g.left g.len) bs gs q → ReadBy (at_leaf s g) cs
        go d =
            let tree = by_leaf r g.nonterminal l.weight l.n g l.rule refl in
            record {
              trees = cons (node r nil) d.trees;
              leaves = here ∷ d.leaves;
              parsed = next_tree (node r nil) g (here ∷ []) d.trees gs d.leaves tree d.parsed;
              writing = ap (r ∷◌) d.writing;
              fits = record { few_late = (l.few_late, d.fits.few_late); kinds_fit = (kind, d.fits.kinds_fit) };
              comes_to = ap (price_of ((instance_of s).weight r) (at_leaf s g) ⊞◌) d.comes_to;
            }

    division_read : (m : Expansion) → DivisionStep s g c r m → Readings bs (m.parts ++ gs) m.carry q → (cs : List Onset)
        → length cs ≡ c → ReadBy m cs
    unfolding instance_of at_division written_all rule_weight
    division_read m n ih cs e = rw n.is (go ((rw n.is at ih) cs e))
      where
        parts : List Item
        parts = adjoining g.left (g.len / length n.kids) n.kids

        join : (d : Reading s cs bs (parts ++ gs) q) → Split s parts gs (written_all d.trees) d.leaves
            → ReadBy (at_division g c n.kids) cs
        join d f =
            let ts = f.first in
            let tree = by_division r g.nonterminal n.weight n.kids g ts f.leaves₁ n.rule refl n.allowed f.parsed₁ in
            let price = price_of ((instance_of s).weight r) (at_division g c n.kids) in
            record {
              trees = cons (node r ts) f.rest;
              leaves = d.leaves;
              parsed = rw (← f.in_order_lem) (next_tree (node r ts) g f.leaves₁ f.rest gs f.leaves₂ tree f.parsed₂);
              writing = ap (r ∷◌) (f.writing ∙ d.writing);
              fits = d.fits;
              comes_to = ap (price ⊞◌) d.comes_to ∙ price_eq _ _ refl refl (zero-add _);
            }

        go : Reading s cs bs (parts ++ gs) q → ReadBy (at_division g c n.kids) cs
        go d = join d (forest_split s d.trees parts gs d.leaves d.parsed)

    rule_read : (m : Expansion) → Step s g c r m → Readings bs (m.parts ++ gs) m.carry q → (cs : List Onset) → length cs ≡ c
        → ReadBy m cs
    rule_read m (inl l) = leaf_read m l
    rule_read m (inr n) = division_read m n

  pub derived_read : (bs : List ℕ) (gs : List Item) (c : ℕ) (p : Price) → derive (instance_of s) bs gs c ≡ some p → Readings bs gs c p
  derived_read =
      derive-rec (instance_of s) Readings none_read (λ r bs g gs c m q e k ih. rule_read r bs g gs c q m (step_of s g c r m e) ih)

-- The leaves of a valid tree, computed from its list: a valid tree is given with a forest that it is the writing of, and a writer of score
-- lines has the list alone. So the entries of a valid tree are those of the leaves computed here.
use Rattle.std.specs.Prelude.{ℕ, ◌/◌, ◌≡◌, length}
use Rattle.std.proofs.Math.Path.{refl}
use Rattle.std.proofs.Common.{sym, ap, ◌∙◌}
use mathlib.Core.List.{List, [], ◌∷◌, ◌++◌, append_assoc, append-nil}
use Rattle.std.proofs.Math.Option.{some}
use Rattle.slices.specs.Every.{Every}
use Rattle.sheet.specs.Sheet.{division, leaf, Sheet}
use Rattle.sheet.specs.Good.{GoodOnsets}
use Rattle.derivations.specs.Derivation.{Item}
use Rattle.trees.specs.ValidTrees.{Forest, written, written_all, adjoining, bars, rule_at, Leaf, by_leaf, by_division}
use Rattle.trees.specs.ValidTrees.{ParsedAll, empty_forest, next_tree, KindFits, ValidTree}
use Rattle.trees.proofs.Placing.{all_placed, each_placed_once}
use Rattle.trees.specs.Leaves.{leaf_at, leaves_from, leaves_of, entries_of}

module _ (s : Sheet) where
  -- read against `gs`, the front of the list xs gives the leaves ls, and ys is the rest of it, whatever items follow
  abbrev pub LeavesRead : List Item → List ℕ → List ℕ → List Leaf → Type 0
  LeavesRead gs xs ys ls = (hs : List Item) → leaves_from s xs (gs ++ hs) ≡ ls ++ leaves_from s ys hs

  -- ---- items in a row

  leaves_nil : (xs : List ℕ) → LeavesRead [] xs xs []
  leaves_nil xs hs = refl

  leaves_append : (g₁ g₂ : List Item) (xs ys zs : List ℕ) (ls ms : List Leaf) → LeavesRead g₁ xs ys ls → LeavesRead g₂ ys zs ms
      → LeavesRead (g₁ ++ g₂) xs zs (ls ++ ms)
  leaves_append g₁ g₂ xs ys zs ls ms h k hs =
      rw (append_assoc g₁ g₂ hs, append_assoc ls ms (leaves_from s zs hs)) (h (g₂ ++ hs) ∙ ap (ls ++◌) (k hs))

  -- ---- a rule at an item

  pub leaves_leaf : (g : Item) (r h w n : ℕ) (xs : List ℕ) → rule_at s r ≡ some (leaf h w n)
      → LeavesRead (g ∷ []) (r ∷ xs) xs (leaf_at g n ∷ [])
  unfolding leaves_from
  leaves_leaf g r h w n xs e hs = rw (e, leaves_from) refl

  pub leaves_divided : (g : Item) (gs : List Item) (r h w : ℕ) (ks xs : List ℕ) → rule_at s r ≡ some (division h w ks)
      → leaves_from s (r ∷ xs) (g ∷ gs) ≡ leaves_from s xs (adjoining g.left (g.len / length ks) ks ++ gs)
  unfolding leaves_from
  leaves_divided g gs r h w ks xs e = rw (e, leaves_from) refl

  leaves_division : (g : Item) (r h w : ℕ) (ks : List ℕ) (xs ys : List ℕ) (ls : List Leaf) → rule_at s r ≡ some (division h w ks)
      → LeavesRead (adjoining g.left (g.len / length ks) ks) xs ys ls → LeavesRead (g ∷ []) (r ∷ xs) ys ls
  leaves_division g r h w ks xs ys ls e k hs = leaves_divided g hs r h w ks xs e ∙ k hs

  -- ---- the whole list

  leaves_all : (gs : List Item) (xs : List ℕ) (ls : List Leaf) → LeavesRead gs xs [] ls → leaves_from s xs gs ≡ ls
  unfolding leaves_from
  leaves_all gs xs ls h = rw (append-nil gs, append-nil ls) at (h [])

  -- ---- the leaves of a valid tree

  -- read against its items, the writing of a forest gives its leaves, whatever is written after it
  forest_leaves : {ts : Forest} {gs : List Item} {ls : List Leaf} → ParsedAll s ts gs ls → (xs : List ℕ)
      → LeavesRead gs (written_all ts ++ xs) xs ls
  unfolding written
  forest_leaves p =
      elim p as (λ t g ls q. (xs : List ℕ) → LeavesRead (g ∷ []) (written t ++ xs) xs ls)
      (λ ts gs ls q. (xs : List ℕ) → LeavesRead gs (written_all ts ++ xs) xs ls) [
        | by_leaf r h w n g e f ↦ λ xs. leaves_leaf g r h w n xs e
        | by_division r h w ks g ts ls e f d (q → ih) ↦ λ xs. leaves_division g r h w ks (written_all ts ++ xs) xs ls e (ih xs)
        | empty_forest ↦ λ xs. leaves_nil xs
        | next_tree t g ls ts gs ms (q → ih) (qs → ihs) ↦ λ xs.
            rw append_assoc (leaves_append (g ∷ []) gs _ (written_all ts ++ xs) xs ls ms (ih (written_all ts ++ xs)) (ihs xs))
      ]

  module _ (bs : List ℕ) (v : ValidTree s bs) where
    -- the leaves of a valid tree are those of its list
    pub leaves_of_lem : v.leaves ≡ leaves_of s bs
    leaves_of_lem =
        sym (leaves_all (bars s) bs v.leaves (rw (append-nil, v.writing) at (forest_leaves v.parsed [])))

    -- "the leaf rule must have" the token kind of the placed count and of what lies before
    pub entry_kinds : Every (KindFits s) (entries_of s bs)
    entry_kinds = rw leaves_of_lem at v.kinds_fit

    -- each onset of the sheet is placed once, in sheet order
    pub entries_place_all : GoodOnsets s.playing → all_placed (entries_of s bs) ≡ s.playing.onsets
    entries_place_all g = rw leaves_of_lem at (each_placed_once s g bs v)

-- A list has at most one reading: two forests over the same items with the same writing are equal, and so are their leaves. So it has at
-- most one R and one D.
use Rattle.std.specs.Prelude.{ℕ, ◌/◌, ◌≡◌, true, false, length}
use Rattle.std.proofs.Math.Path.{refl, ap, ap₂}
use Rattle.std.proofs.Common.{sym, ◌∙◌}
use Rattle.std.proofs.lemmas.Bool.{false≢true}
use mathlib.Core.List.{List, [], ◌∷◌, ◌++◌, append_assoc, head-eq_of_cons-eq, tail-eq_of_cons-eq}
use Rattle.std.proofs.Math.Option.{some, some-injective}
use Rattle.sheet.specs.Sheet.{Rule, division, leaf, Sheet}
use Rattle.derivations.specs.Derivation.{Item}
use Rattle.trees.specs.ValidTrees.{Forest, Tree, node, cons, nil, written, written_all, adjoining, rule_at, Leaf, Parsed, by_leaf}
use Rattle.trees.specs.ValidTrees.{by_division, ParsedAll, empty_forest, next_tree, entries, ValidTree, distance_of, Priced}

-- two trees or forests are equal, and so are their leaves, and what is written after them
abbrev pub Same : {A : Type 0} → (a b : A) (ls ms : List Leaf) (xs ys : List ℕ) → Type 0
Same a b ls ms xs ys = (a ≡ b) × (ls ≡ ms) × (xs ≡ ys)

leaf≢division : (h w n i v : ℕ) (ks : List ℕ) → leaf h w n ≡ division i v ks → ⊥
leaf≢division h w n i v ks e = let f : false ≡ true = cc in false≢true f

module _ (s : Sheet) where
  -- a tree or forest is the only one over its items with its writing, however the two writings go on
  abbrev OneTree : Tree → Item → List Leaf → Type 0
  OneTree t g ls =
      (u : Tree) (ms : List Leaf) → Parsed s u g ms → (xs ys : List ℕ) → written t ++ xs ≡ written u ++ ys → Same t u ls ms xs ys

  abbrev pub OneForest : Forest → List Item → List Leaf → Type 0
  OneForest ts gs ls =
      (us : Forest) (ms : List Leaf) → ParsedAll s us gs ms → (xs ys : List ℕ) → written_all ts ++ xs ≡ written_all us ++ ys
      → Same ts us ls ms xs ys

  -- lists that begin with the same number begin with the same rule
  same_rule : (r q : ℕ) (a b : Rule) (xs ys : List ℕ) → rule_at s r ≡ some a → rule_at s q ≡ some b → r ∷ xs ≡ q ∷ ys → a ≡ b
  same_rule r q a b xs ys e f k = some-injective _ _ (sym e ∙ ap (rule_at s) (head-eq_of_cons-eq k) ∙ f)

  one_leaf : (r h w n : ℕ) (g : Item) → rule_at s r ≡ some (leaf h w n)
      → OneTree (node r nil) g (record { left = g.left; len = g.len; n = n } ∷ [])
  unfolding written
  one_leaf r h w n g e u ms (by_leaf q i v m g₂ e₂ f₂) xs ys k =
      let a : n ≡ m = cc (same_rule r q _ _ _ _ e e₂ k) in (
        ap (λ x. node x nil) (head-eq_of_cons-eq k),
        ap (λ x. record { left = g₂.left; len = g₂.len; n = x } ∷ []) a,
        tail-eq_of_cons-eq k,
      )
  one_leaf r h w n g e u ms (by_division q i v ks g₂ ts ls e₂ f₂ d p) xs ys k =
      absurd (leaf≢division h w n i v ks (same_rule r q _ _ _ _ e e₂ k))

  one_division : (r h w : ℕ) (ks : List ℕ) (g : Item) (ts : Forest) (ls : List Leaf) → rule_at s r ≡ some (division h w ks)
      → OneForest ts (adjoining g.left (g.len / length ks) ks) ls → OneTree (node r ts) g ls
  unfolding written
  one_division r h w ks g ts ls e ih u ms (by_leaf q i v m g₂ e₂ f₂) xs ys k =
      absurd (leaf≢division i v m h w ks (sym (same_rule r q _ _ _ _ e e₂ k)))
  one_division r h w ks g ts ls e ih u ms (by_division q i v js g₂ us ns e₂ f₂ d₂ p₂) xs ys k =
      let a : ks ≡ js = cc (same_rule r q _ _ _ _ e e₂ k) in
      let (t, l, x) = ih us ns (rw a p₂) xs ys (tail-eq_of_cons-eq k) in
      (ap₂ node (head-eq_of_cons-eq k) t, l, x)

  one_none : OneForest nil [] []
  unfolding written
  one_none us ms empty_forest xs ys k = (refl, refl, k)

  one_next : (t : Tree) (g : Item) (ls : List Leaf) (ts : Forest) (gs : List Item) (ms : List Leaf) → OneTree t g ls
      → OneForest ts gs ms → OneForest (cons t ts) (g ∷ gs) (ls ++ ms)
  unfolding written
  one_next t g ls ts gs ms ih ihs us ns (next_tree u g₂ ls₂ vs gs₂ ms₂ q qs) xs ys k =
      let (t₁, l₁, x₁) = ih u ls₂ q (written_all ts ++ xs) (written_all vs ++ ys) (simp append_assoc at k) in
      let (t₂, l₂, x₂) = ihs vs ms₂ qs xs ys x₁ in
      (ap₂ cons t₁ t₂, ap₂ ◌++◌ l₁ l₂, x₂)

  pub one_forest : {ts : Forest} {gs : List Item} {ls : List Leaf} → ParsedAll s ts gs ls → OneForest ts gs ls
  one_forest p =
      elim p as (λ t g ls q. OneTree t g ls) (λ ts gs ls q. OneForest ts gs ls) [
        | by_leaf r h w n g e f ↦ one_leaf r h w n g e
        | by_division r h w ks g ts ls e f d (q → ih) ↦ one_division r h w ks g ts ls e ih
        | empty_forest ↦ one_none
        | next_tree t g ls ts gs ms (q → ih) (qs → ihs) ↦ one_next t g ls ts gs ms ih ihs
      ]

  -- a list has one reading
  pub one_reading : (bs : List ℕ) (v w : ValidTree s bs) → (v.trees ≡ w.trees) × (v.leaves ≡ w.leaves)
  one_reading bs v w =
      let (t, l, x) = one_forest v.parsed w.trees w.leaves w.parsed [] [] (ap (◌++ []) (v.writing ∙ sym w.writing)) in
      (t, l)

  -- and one price
  pub one_price : (bs : List ℕ) (R D R' D' : ℕ) → Priced s bs R D → Priced s bs R' D' → (R ≡ R') × (D ≡ D')
  one_price bs R D R' D' p q =
      let (t, l) = one_reading bs p.valid q.valid in
      (sym p.weight ∙ q.weight, sym p.distance ∙ ap (λ ls. distance_of (entries s ls)) l ∙ q.distance)

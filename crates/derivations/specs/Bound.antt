-- How long a list that is read can be, and how much its price can come to: bounds by what the items have to spend.
use Rattle.std.specs.Prelude.{ℕ, zero, suc, ◌+◌, ◌*◌, ◌≤◌, ◌≡◌, List, [], ◌∷◌, ◌++◌, length}
use Rattle.std.proofs.Common.{sym, ap, ◌∙◌, zero-add, add_assoc, arith}
use Rattle.std.proofs.Math.Option.{some, none-ne-some, some-injective}
use Rattle.std.proofs.Math.ListN.{get_elem?}
use Rattle.derivations.specs.Derivation.{Item, Expansion, Price, Instance, derive, unspent, price_of, ◌⊞◌, derive-rec}

-- the sum of f over a list of items
abbrev pub sum_of : (Item → ℕ) → List Item → ℕ
sum_of f [] = 0
sum_of f (g ∷ gs) = f g + sum_of f gs

pub sum-append : (f : Item → ℕ) (xs ys : List Item) → sum_of f (xs ++ ys) ≡ sum_of f xs + sum_of f ys
sum-append f [] ys = sym (zero-add _)
sum-append f (g ∷ xs) ys = ap (f g +◌) (sum-append f xs ys) ∙ sym (add_assoc _ _ _)

-- an item of the list has no more than all
pub sum-at : (f : Item → ℕ) (gs : List Item) (i : ℕ) (g : Item) → get_elem? gs i ≡ some g → f g ≤ sum_of f gs
sum-at f [] i g e = absurd (none-ne-some _ e)
sum-at f (h ∷ gs) zero g e = omega (arith, ap f (some-injective _ _ e))
sum-at f (h ∷ gs) (suc i) g e = omega (arith, sum-at f gs i g e)

module _ (P : Instance) where
  -- What a list spends, at most: `spent` is an amount of a list and its price, 0 at the end, that grows by at most `pay r m` with rule r
  -- and its expansion m; and each expansion leaves to its parts no more than the item has when that is paid.
  pub spent_bound : (spent : List ℕ → Price → ℕ) (pay : ℕ → Expansion → ℕ) (have : Item → ℕ) → ((c : ℕ) → spent [] (unspent c) ≡ 0)
      → ((r : ℕ) (bs : List ℕ) (m : Expansion) (q : Price) → spent (r ∷ bs) (price_of (P.weight r) m ⊞ q) ≤ pay r m + spent bs q)
      → ((g : Item) (c r : ℕ) (m : Expansion) → P.expand g c r ≡ some m → pay r m + sum_of have m.parts ≤ have g)
      → (bs : List ℕ) (gs : List Item) (c : ℕ) (p : Price) → derive P bs gs c ≡ some p → spent bs p ≤ sum_of have gs
  spent_bound spent pay have start grows law = derive-rec P (λ bs gs c p. spent bs p ≤ sum_of have gs) (λ c. omega (arith, start c))
      (λ r bs g gs c m q hm hd ih. omega (arith, grows r bs m q, law g c r m hm, sum-append have m.parts gs))

  pub nodes_bound : (have : Item → ℕ)
      → ((g : Item) (c r : ℕ) (m : Expansion) → P.expand g c r ≡ some m → 1 + sum_of have m.parts ≤ have g)
      → (bs : List ℕ) (gs : List Item) (c : ℕ) (p : Price) → derive P bs gs c ≡ some p → length bs ≤ sum_of have gs
  nodes_bound have law = spent_bound (λ bs p. length bs) (λ r m. 1) have (λ c. omega arith) (λ r bs m q. omega arith) law

  pub distance_bound : (have : Item → ℕ)
      → ((g : Item) (c r : ℕ) (m : Expansion) → P.expand g c r ≡ some m → m.distance + sum_of have m.parts ≤ have g)
      → (bs : List ℕ) (gs : List Item) (c : ℕ) (p : Price) → derive P bs gs c ≡ some p → p.distance ≤ sum_of have gs
  distance_bound have law = spent_bound (λ bs p. p.distance) (λ r m. m.distance) have (λ c. omega arith) (λ r bs m q. omega arith) law

  -- where no rule weighs more than w
  pub weight_bound : (w : ℕ) → ((r : ℕ) → P.weight r ≤ w) → (bs : List ℕ) (gs : List Item) (c : ℕ) (p : Price)
      → derive P bs gs c ≡ some p → p.weight ≤ w * length bs
  weight_bound w law =
      derive-rec P (λ bs gs c p. p.weight ≤ w * length bs) (λ c. omega arith) (λ r bs g gs c m q hm hd ih. omega (arith, law r))

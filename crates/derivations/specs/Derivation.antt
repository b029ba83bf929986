-- Leftmost derivations of a weighted grammar over a playing, as data: a list of rule numbers is read from left to right against the items
-- that are still to be derived. There is no tree type here and no bound on depth: `derive` is structural on the list, so a list has one
-- reading or none. (`trees` shows that lists so read are the writings of parse trees.)
use Prim.Native.Nat.{ℕ, ◌+◌, ◌≤◌, ◌<◌}
use Rattle.std.specs.Prelude.{◌≡◌}
use Rattle.std.proofs.Math.Path.{refl, sym, subst}
use Rattle.std.proofs.Common.{ap, ◌∙◌, zero-add, add-zero, add_assoc}
use mathlib.Core.List.{List, [], ◌∷◌, ◌++◌, append_assoc, head-eq_of_cons-eq, tail-eq_of_cons-eq, nil≢cons}
use Rattle.std.proofs.Math.Option.{Option, none, some, map, some-injective, none-ne-some}

-- an item: a nonterminal over an interval, given by its left bound and its length (000, Section 3.2: `k.nt` and `k.car`)
pub record Item : Type 0 where
  pub nonterminal : ℕ
  pub left : ℕ
  pub len : ℕ

-- what a rule makes of an item: the items of its parts (none at a leaf), the carry state behind it, the distance that it adds
pub record Expansion : Type 0 where
  pub parts : List Item
  pub carry : ℕ
  pub distance : ℕ

-- what a list of rules comes to: the carry state behind the last, the sum of the weights, the sum of the distances
pub record Price : Type 0 where
  pub carry : ℕ
  pub weight : ℕ
  pub distance : ℕ

-- An instance is a grammar over a playing (000, Section 3.2: the grammar K): rule r, below `count`, has a weight, and at an item that is
-- entered with carry state c it makes an expansion, or none. A carry state says what is carried from leaf to leaf, as a number.
pub record Instance : Type 0 where
  pub count : ℕ
  pub weight : ℕ → ℕ
  pub expand : Item → ℕ → ℕ → Option Expansion

-- what the laws ask of an instance: no rule from `count` on makes an expansion, and the carry states below C lead to carry states below C
pub record Lawful (P : Instance) (C : ℕ) : Type 0 where
  pub ends : (g : Item) (c r : ℕ) → P.count ≤ r → P.expand g c r ≡ none
  pub fits : (g : Item) (c r : ℕ) (m : Expansion) → c < C → P.expand g c r ≡ some m → m.carry < C

-- no rule yet, at carry state c
abbrev pub unspent : ℕ → Price
unspent c = record { carry = c; weight = 0; distance = 0 }

-- one rule, of weight w, that makes the expansion m
abbrev pub price_of : ℕ → Expansion → Price
price_of w m = record { carry = m.carry; weight = w; distance = m.distance }

-- one price and then another
abbrev pub ◌⊞◌ : Price → Price → Price
◌⊞◌ p q = record { carry = q.carry; weight = p.weight + q.weight; distance = p.distance + q.distance }

infixr 60 ◌⊞◌
-- a rule of weight w that makes the expansion `o`, or none, and then what `next` says of the rest
unfoldable pub onto : ℕ → Option Expansion → (Expansion → Option Price) → Option Price
onto w none next = none
onto w (some m) next = map (price_of w m ⊞◌) (next m)

module _ (P : Instance) where
  -- The list `bs`, read against the items `gs` from carry state `c`: each number is the rule of the first item, whose parts come before
  -- the items that follow it.
  unfoldable pub derive : List ℕ → List Item → ℕ → Option Price
  derive [] [] c = some (unspent c)
  derive [] (g ∷ gs) c = none
  derive (r ∷ bs) [] c = none
  derive (r ∷ bs) (g ∷ gs) c = onto (P.weight r) (P.expand g c r) (λ m. derive bs (m.parts ++ gs) m.carry)

-- ---- laws of prices

pub price_eq : (p q : Price) → p.carry ≡ q.carry → p.weight ≡ q.weight → p.distance ≡ q.distance → p ≡ q
price_eq p q d e f = λ i. record { carry = d i; weight = e i; distance = f i }

pub unspent_⊞ : (c : ℕ) (p : Price) → unspent c ⊞ p ≡ p
unspent_⊞ c p = price_eq _ _ refl (zero-add _) (zero-add _)

pub ⊞_unspent : (p : Price) → p ⊞ unspent p.carry ≡ p
⊞_unspent p = price_eq _ _ refl (add-zero _) (add-zero _)

pub ⊞_assoc : (p q r : Price) → (p ⊞ q) ⊞ r ≡ p ⊞ (q ⊞ r)
⊞_assoc p q r = price_eq _ _ refl (add_assoc _ _ _) (add_assoc _ _ _)

-- ---- what a list that is read came from

abbrev pub Onto : ℕ → Option Expansion → (Expansion → Option Price) → Price → Type 0
Onto w o next p = (m : Expansion) × (q : Price) × (o ≡ some m) × (next m ≡ some q) × (p ≡ price_of w m ⊞ q)

onto_some : (w : ℕ) (o : Option Expansion) (next : Expansion → Option Price) (p : Price) → onto w o next ≡ some p → Onto w o next p
unfolding onto
onto_some w none next p e = absurd (none-ne-some _ e)
onto_some w (some m) next p e = go (next m) refl e
  where
    go : (o : Option Price) → next m ≡ o → map (price_of w m ⊞◌) o ≡ some p → Onto w (some m) next p
    go none h k = absurd (none-ne-some _ k)
    go (some q) h k = (m, q, refl, h, some-injective _ _ (sym k))

module _ (P : Instance) where
  -- the empty list alone is read against no items
  pub derive_nil : (bs : List ℕ) (c : ℕ) (p : Price) → derive P bs [] c ≡ some p → (bs ≡ []) × (p ≡ unspent c)
  unfolding derive
  derive_nil [] c p h = (refl, some-injective _ _ (sym h))
  derive_nil (r ∷ bs) c p h = absurd (none-ne-some _ h)

  pub derive_cons : (r : ℕ) (bs : List ℕ) (g : Item) (gs : List Item) (c : ℕ) (p : Price) → derive P (r ∷ bs) (g ∷ gs) c ≡ some p
      → Onto (P.weight r) (P.expand g c r) (λ m. derive P bs (m.parts ++ gs) m.carry) p
  unfolding derive
  derive_cons r bs g gs c p e = onto_some _ _ _ _ e

  pub cons_derive : (r : ℕ) (bs : List ℕ) (g : Item) (gs : List Item) (c : ℕ) (m : Expansion) (q : Price) → P.expand g c r ≡ some m
      → derive P bs (m.parts ++ gs) m.carry ≡ some q → derive P (r ∷ bs) (g ∷ gs) c ≡ some (price_of (P.weight r) m ⊞ q)
  unfolding derive onto
  cons_derive r bs g gs c m q h k = rw (h, k)

  -- X holds of a rule before each list that is read and of which it holds
  abbrev pub Steps {ℓ} : (X : List ℕ → List Item → ℕ → Price → Type ℓ) → Type ℓ
  Steps X =
      (r : ℕ) (bs : List ℕ) (g : Item) (gs : List Item) (c : ℕ) (m : Expansion) (q : Price) → P.expand g c r ≡ some m
      → derive P bs (m.parts ++ gs) m.carry ≡ some q → X bs (m.parts ++ gs) m.carry q
      → X (r ∷ bs) (g ∷ gs) c (price_of (P.weight r) m ⊞ q)

  -- The induction principle of readings: what holds of the empty list and by steps holds of every list that is read.
  pub derive-rec {ℓ} : (X : List ℕ → List Item → ℕ → Price → Type ℓ) → ((c : ℕ) → X [] [] c (unspent c)) → Steps X → (bs : List ℕ)
      (gs : List Item) (c : ℕ) (p : Price) → derive P bs gs c ≡ some p → X bs gs c p
  unfolding derive
  derive-rec X last more [] [] c p h = subst (X [] [] c) (some-injective _ _ h) (last c)
  derive-rec X last more [] (g ∷ gs) c p h = absurd (none-ne-some _ h)
  derive-rec X last more (r ∷ bs) [] c p h = absurd (none-ne-some _ h)
  derive-rec X last more (r ∷ bs) (g ∷ gs) c p h =
      let (m, q, hm, hw, e) = derive_cons r bs g gs c p h in
      subst (X (r ∷ bs) (g ∷ gs) c) (sym e) (more r bs g gs c m q hm hw (derive-rec X last more bs (m.parts ++ gs) m.carry q hw))

  -- two lists that are read one after the other
  pub derive-append : (b₁ b₂ : List ℕ) (g₁ g₂ : List Item) (c : ℕ) (p q : Price) → derive P b₁ g₁ c ≡ some p
      → derive P b₂ g₂ p.carry ≡ some q → derive P (b₁ ++ b₂) (g₁ ++ g₂) c ≡ some (p ⊞ q)
  derive-append b₁ b₂ g₁ g₂ c p q h k =
      derive-rec (λ xs gs c p. derive P b₂ g₂ p.carry ≡ some q → derive P (xs ++ b₂) (gs ++ g₂) c ≡ some (p ⊞ q))
      (λ c k. k ∙ ap some (sym (unspent_⊞ c q)))
      (λ r bs g gs c m p' hm hw ih k. rw ⊞_assoc (cons_derive r (bs ++ b₂) g (gs ++ g₂) c m (p' ⊞ q) hm (rw append_assoc at (ih k))))
      b₁ g₁ c p h k

  -- a list that is read against more items is two lists
  abbrev pub Split : List ℕ → List Item → List Item → ℕ → Price → Type 0
  Split bs g₁ g₂ c p =
      (b₁ : List ℕ) × (b₂ : List ℕ) × (p₁ : Price) × (p₂ : Price) × (bs ≡ b₁ ++ b₂) × (derive P b₁ g₁ c ≡ some p₁)
      × (derive P b₂ g₂ p₁.carry ≡ some p₂) × (p ≡ p₁ ⊞ p₂)

  -- before any item nothing is spent
  split_front : (bs : List ℕ) (g₂ : List Item) (c : ℕ) (p : Price) → derive P bs g₂ c ≡ some p → Split bs [] g₂ c p
  unfolding derive
  split_front bs g₂ c p h = ([], bs, unspent c, p, refl, refl, h, sym (unspent_⊞ c p))

  pub derive_split : (bs : List ℕ) (g₁ g₂ : List Item) (c : ℕ) (p : Price) → derive P bs (g₁ ++ g₂) c ≡ some p → Split bs g₁ g₂ c p
  unfolding derive
  derive_split bs g₁ g₂ c p h = derive-rec Splits last more bs (g₁ ++ g₂) c p h g₁ refl
    where
      Splits : List ℕ → List Item → ℕ → Price → Type 0
      Splits bs gs c p = (g₁ : List Item) → gs ≡ g₁ ++ g₂ → Split bs g₁ g₂ c p

      last : (c : ℕ) (g₁ : List Item) → [] ≡ g₁ ++ g₂ → Split [] g₁ g₂ c (unspent c)
      last c [] e = split_front [] g₂ c (unspent c) (rw (← e) refl)
      last c (g ∷ g₁) e = absurd (nil≢cons e)

      more : Steps Splits
      more r bs g gs c m q hm hd ih [] e = split_front (r ∷ bs) g₂ c _ (rw (← e) (cons_derive r bs g gs c m q hm hd))
      more r bs g gs c m q hm hd ih (k ∷ g₁) e =
          let w : Price = price_of (P.weight r) m in
          let whole = ap (m.parts ++◌) (tail-eq_of_cons-eq e) ∙ sym (append_assoc m.parts g₁ g₂) in
          let (b₁, b₂, p₁, p₂, eb, h₁, h₂, ep) = ih (m.parts ++ g₁) whole in
          let hm' : P.expand k c r ≡ some m = rw (← head-eq_of_cons-eq e) hm in
          (r ∷ b₁, b₂, w ⊞ p₁, p₂, ap (r ∷◌) eb, cons_derive r b₁ k g₁ c m p₁ hm' h₁, h₂, ap (w ⊞◌) ep ∙ sym (⊞_assoc w p₁ p₂))

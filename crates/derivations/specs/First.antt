-- The first of the least lists in dictionary order: what it is, and how it comes of others, over two lists of items and at an item by its
-- rules.
use Rattle.std.specs.Prelude.{ℕ, ◌≤◌, ◌<◌, ◌≡◌, refl, ◌⊎◌}
use Rattle.std.proofs.Common.{sym, ap, ap₂, ◌∙◌, inl, inr, arith}
use mathlib.Core.List.{List, [], ◌∷◌, ◌++◌}
use Rattle.std.proofs.Math.Option.{some, none-ne-some, some-injective}
use Rattle.std.proofs.Math.Decide.{dec_lt}
use Rattle.derivations.specs.Derivation.{Item, Expansion, Price, Instance, Lawful, derive, unspent, price_of, ◌⊞◌}
use Rattle.derivations.specs.Derivation.{derive_nil, derive_cons, cons_derive, derive-append, derive_split}
use Rattle.derivations.specs.Minima.{FirstPlace}
use Rattle.derivations.specs.Least.{total, Least, Opening, opening_below, rules_below, carry_fits}

-- equal, or smaller at the first place where they differ (of two lists that are read against the same items neither begins the other)
abbrev pub Lex : List ℕ → List ℕ → Type 0
Lex [] [] = Unit {0}
Lex [] (y ∷ ys) = ⊥
Lex (x ∷ xs) [] = ⊥
Lex (x ∷ xs) (y ∷ ys) = (x < y) ⊎ ((x ≡ y) × Lex xs ys)

pub lex_append : (xs ys s t : List ℕ) → Lex xs ys → (xs ≡ ys → Lex s t) → Lex (xs ++ s) (ys ++ t)
lex_append [] [] s t h k = k refl
lex_append [] (y ∷ ys) s t h k = absurd h
lex_append (x ∷ xs) [] s t h k = absurd h
lex_append (x ∷ xs) (y ∷ ys) s t (inl h) k = inl h
lex_append (x ∷ xs) (y ∷ ys) s t (inr (e, h)) k = inr (e, lex_append xs ys s t h (λ d. k (ap₂ ◌∷◌ e d)))

-- a list that is read has one price
same_price : (P : Instance) (bs xs : List ℕ) (gs : List Item) (c : ℕ) (p q : Price) → derive P bs gs c ≡ some p → derive P xs gs c ≡ some q
    → bs ≡ xs → p ≡ q
same_price P bs xs gs c p q h k e = some-injective _ _ (sym h ∙ ap (λ zs. derive P zs gs c) e ∙ k)

module _ (P : Instance) (a : ℕ) where
  -- `bs` is read against `gs` from c, at the price p; no list that is read totals less, and of those that total the same it is the first
  pub record First (gs : List Item) (v : ℕ → ℕ) (c : ℕ) (bs : List ℕ) (p : Price) : Type 0 where
    pub reads : derive P bs gs c ≡ some p
    pub least : (xs : List ℕ) (q : Price) → derive P xs gs c ≡ some q → total a v p ≤ total a v q
    pub first : (xs : List ℕ) (q : Price) → derive P xs gs c ≡ some q → total a v q ≤ total a v p → Lex bs xs

  pub first_nil : (v : ℕ → ℕ) (c : ℕ) → First [] v c [] (unspent c)
  unfolding derive
  first_nil v c = record { reads = refl; least = low; first = lex }
    where
      low : (xs : List ℕ) (q : Price) → derive P xs [] c ≡ some q → total a v (unspent c) ≤ total a v q
      low xs q h = let (ex, eq) = derive_nil P xs c q h in rw eq (omega arith)

      lex : (xs : List ℕ) (q : Price) → derive P xs [] c ≡ some q → total a v q ≤ total a v (unspent c) → Lex [] xs
      lex xs q h k = let (ex, eq) = derive_nil P xs c q h in rw ex tt

  -- it totals what the least total says
  pub first_total : (cap : ℕ) (gs : List Item) (v : ℕ → ℕ) (c u : ℕ) (bs : List ℕ) (p : Price) → Least P a cap gs v c u → u < cap
      → First gs v c bs p → total a v p ≡ u
  first_total cap gs v c u bs p l h f =
      let (xs, q, hd, e) = l.attained h in
      omega (arith, l.below bs p f.reads, f.least xs q hd)

module _ {P : Instance} {C : ℕ} (L : Lawful P C) (a cap : ℕ) where
  -- over two lists of items: the first for the front one, with the least totals of the back one behind it, and the first for the back one
  pub first-append : (g₁ g₂ : List Item) (v u : ℕ → ℕ) (c : ℕ) (b₁ b₂ : List ℕ) (p₁ p₂ : Price) → c < C
      → ((m : ℕ) → m < C → Least P a cap g₂ v m (u m)) → u p₁.carry < cap → First P a g₁ u c b₁ p₁ → First P a g₂ v p₁.carry b₂ p₂
      → First P a (g₁ ++ g₂) v c (b₁ ++ b₂) (p₁ ⊞ p₂)
  first-append g₁ g₂ v u c b₁ b₂ p₁ p₂ hc two ht f₁ f₂ =
      record { reads = derive-append P b₁ b₂ g₁ g₂ c p₁ p₂ f₁.reads f₂.reads; least = low; first = lex }
    where
      eu : total a v p₂ ≡ u p₁.carry
      eu = first_total P a cap g₂ v p₁.carry (u p₁.carry) b₂ p₂ (two _ (carry_fits L b₁ g₁ c p₁ f₁.reads hc)) ht f₂

      behind : (x₁ x₂ : List ℕ) (q₁ q₂ : Price) → derive P x₁ g₁ c ≡ some q₁ → derive P x₂ g₂ q₁.carry ≡ some q₂
          → u q₁.carry ≤ total a v q₂
      behind x₁ x₂ q₁ q₂ h₁ h₂ = (two q₁.carry (carry_fits L x₁ g₁ c q₁ h₁ hc)).below x₂ q₂ h₂

      low : (xs : List ℕ) (q : Price) → derive P xs (g₁ ++ g₂) c ≡ some q → total a v (p₁ ⊞ p₂) ≤ total a v q
      low xs q h =
          let (x₁, x₂, q₁, q₂, ex, h₁, h₂, e) = derive_split P xs g₁ g₂ c q h in
          rw e (omega (arith, eu, f₁.least x₁ q₁ h₁, behind x₁ x₂ q₁ q₂ h₁ h₂))

      back : (x₂ : List ℕ) (q₁ q₂ : Price) → q₁ ≡ p₁ → derive P x₂ g₂ q₁.carry ≡ some q₂ → total a v (q₁ ⊞ q₂) ≤ total a v (p₁ ⊞ p₂)
          → Lex b₂ x₂
      back x₂ q₁ q₂ ep h k = f₂.first x₂ q₂ (rw ep at h) (omega (arith, rw ep at k))

      lex : (xs : List ℕ) (q : Price) → derive P xs (g₁ ++ g₂) c ≡ some q → total a v q ≤ total a v (p₁ ⊞ p₂) → Lex (b₁ ++ b₂) xs
      lex xs q h k =
          let (x₁, x₂, q₁, q₂, ex, h₁, h₂, e) = derive_split P xs g₁ g₂ c q h in
          let k' : total a v (q₁ ⊞ q₂) ≤ total a v (p₁ ⊞ p₂) = rw e at k in
          rw ex (lex_append b₁ x₁ b₂ x₂ (f₁.first x₁ q₁ h₁ (omega (arith, eu, behind x₁ x₂ q₁ q₂ h₁ h₂)))
          (λ eb. back x₂ q₁ q₂ (same_price P x₁ b₁ g₁ c q₁ p₁ h₁ f₁.reads (sym eb)) h₂ k'))

  -- at an item: the first rule of those that come to least, and then the first for its parts and what follows
  pub first_rule : (g : Item) (gs : List Item) (v : ℕ → ℕ) (c : ℕ) (f : ℕ → ℕ)
      → ((r : ℕ) → r < P.count → Opening P a cap g gs v c r (f r)) → (r : ℕ) → FirstPlace f P.count r → f r < cap
      → (m : Expansion) (bs : List ℕ) (p : Price) → P.expand g c r ≡ some m → First P a (m.parts ++ gs) v m.carry bs p
      → First P a (g ∷ gs) v c (r ∷ bs) (price_of (P.weight r) m ⊞ p)
  unfolding derive
  first_rule g gs v c f o r (hr, lo, fi) ht m bs p hm fp =
      record { reads = cons_derive P r bs g gs c m p hm fp.reads; least = low; first = lex }
    where
      ef : f r ≡ total a v (price_of (P.weight r) m ⊞ p)
      ef =
          let (u, l, ex) = (o r hr).expanded m hm in
          omega (arith, first_total P a cap (m.parts ++ gs) v m.carry u bs p l (omega arith) fp)

      low : (xs : List ℕ) (q : Price) → derive P xs (g ∷ gs) c ≡ some q → total a v (price_of (P.weight r) m ⊞ p) ≤ total a v q
      low [] q h = absurd (none-ne-some _ h)
      low (i ∷ xs) q h =
          let k = (rules_below L (i ∷ xs) (g ∷ gs) c q h).0 in
          omega (arith, ef, lo i k, opening_below P a cap g gs v c i (f i) (o i k) xs q h)

      back : (i : ℕ) (xs : List ℕ) (n : Expansion) (q : Price) → r ≡ i → n ≡ m → derive P xs (n.parts ++ gs) n.carry ≡ some q
          → total a v (price_of (P.weight i) n ⊞ q) ≤ total a v (price_of (P.weight r) m ⊞ p) → Lex bs xs
      back i xs n q d e h k = fp.first xs q (rw e at h) (omega (arith, rw (e, ← d) at k))

      same : (i : ℕ) (xs : List ℕ) (q : Price) → r ≡ i → derive P (i ∷ xs) (g ∷ gs) c ≡ some q
          → total a v q ≤ total a v (price_of (P.weight r) m ⊞ p) → Lex bs xs
      same i xs q e h k =
          let (n, q', hn, hd, eq) = derive_cons P i xs g gs c q h in
          back i xs n q' e (some-injective _ _ (sym hn ∙ ap (λ j. P.expand g c j) (sym e) ∙ hm)) hd (rw eq at k)

      lex : (xs : List ℕ) (q : Price) → derive P xs (g ∷ gs) c ≡ some q → total a v q ≤ total a v (price_of (P.weight r) m ⊞ p)
          → Lex (r ∷ bs) xs
      lex [] q h k = absurd (none-ne-some _ h)
      lex (i ∷ xs) q h k =
          let hi = (rules_below L (i ∷ xs) (g ∷ gs) c q h).0 in
          let hf : f i ≤ total a v q = opening_below P a cap g gs v c i (f i) (o i hi) xs q h in
          elim (dec_lt r i) [
            | yes ri ↦ inl ri
            | no ri ↦ elim (dec_lt i r) [
              | yes ir ↦ absurd (omega (arith, ef, fi i ir))
              | no ir ↦ let e : r ≡ i = omega arith in inr (e, same i xs q e h k)
            ]
          ]

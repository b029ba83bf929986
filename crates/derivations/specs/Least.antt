-- Least totals of derivations, and the three laws by which one comes of others: at the end, at an item by its rules, and over two lists of
-- items by the carry states between them. A total that is the cap or more counts as no total at all.
use Rattle.std.specs.Prelude.{ℕ, ◌+◌, ◌*◌, ◌≤◌, ◌<◌, ◌≡◌}
use Rattle.std.proofs.Math.Path.{refl}
use Rattle.std.proofs.Common.{sym, ◌∙◌, arith}
use mathlib.Core.List.{List, [], ◌∷◌, ◌++◌}
use Rattle.std.proofs.Math.Option.{Option, none, some, none-ne-some}
use Rattle.std.proofs.Math.Decide.{dec_lt}
use Rattle.slices.specs.Every.{Every}
use Rattle.derivations.specs.Derivation.{Item, Expansion, Price, Instance, Lawful, derive, unspent, price_of, ◌⊞◌}
use Rattle.derivations.specs.Derivation.{derive_nil, derive_cons, cons_derive, derive-rec, derive-append, derive_split}
use Rattle.derivations.specs.Minima.{lowest, lowest_le, lowest_at, only, only_same, only_below}

-- what a price comes to: a for each unit of weight, the distance, and what the vector v says of the carry state behind it
abbrev pub total : ℕ → (ℕ → ℕ) → Price → ℕ
total a v p = a * p.weight + p.distance + v p.carry

-- some list that is read against `gs` from carry state c totals u, with the vector v behind it
abbrev pub Reached : Instance → ℕ → List Item → (ℕ → ℕ) → ℕ → ℕ → Type 0
Reached P a gs v c u = (bs : List ℕ) × (p : Price) × (derive P bs gs c ≡ some p) × (u ≡ total a v p)

module _ (P : Instance) (a cap : ℕ) where
  -- u is the least total of a list that is read against `gs` from carry state c, with the vector v behind it. Where every total is the cap
  -- or more, or no list is read, u is any number from the cap on that is no more than the totals.
  pub record Least (gs : List Item) (v : ℕ → ℕ) (c u : ℕ) : Type 0 where
    pub below : (bs : List ℕ) (p : Price) → derive P bs gs c ≡ some p → u ≤ total a v p
    pub attained : u < cap → Reached P a gs v c u

  -- x is what the lists come to that open with rule r at item g, where `gs` follow
  pub record Opening (g : Item) (gs : List Item) (v : ℕ → ℕ) (c r x : ℕ) : Type 0 where
    pub unexpanded : P.expand g c r ≡ none → cap ≤ x
    pub expanded : (m : Expansion) → P.expand g c r ≡ some m
        → (u : ℕ) × Least (m.parts ++ gs) v m.carry u × (x ≡ a * P.weight r + m.distance + u)

  -- a number that is least, and at most the cap, is at most each that is least
  pub least_le : (gs : List Item) (v : ℕ → ℕ) (c u w : ℕ) → Least gs v c u → Least gs v c w → w ≤ cap → w ≤ u
  least_le gs v c u w l k h = elim (dec_lt u cap) [
    | yes i ↦ let (bs, p, hd, e) = l.attained i in omega (arith, k.below bs p hd)
    | no i ↦ omega arith
  ]

  -- two numbers that are least, and at most the cap, are equal
  pub least_same : (gs : List Item) (v : ℕ → ℕ) (c u w : ℕ) → Least gs v c u → Least gs v c w → u ≤ cap → w ≤ cap → u ≡ w
  least_same gs v c u w l k h i = omega (arith, least_le gs v c u w l k i, least_le gs v c w u k l h)

  -- at the end: what the vector says
  pub least_nil : (v : ℕ → ℕ) (c : ℕ) → Least [] v c (v c)
  unfolding derive
  least_nil v c = record { below = low; attained = λ h. ([], unspent c, refl, omega arith) }
    where
      low : (bs : List ℕ) (p : Price) → derive P bs [] c ≡ some p → v c ≤ total a v p
      low bs p h = let (eb, ep) = derive_nil P bs c p h in rw ep (omega arith)

  -- a list that opens with rule r totals x at least
  pub opening_below : (g : Item) (gs : List Item) (v : ℕ → ℕ) (c r x : ℕ) → Opening g gs v c r x → (bs : List ℕ) (p : Price)
      → derive P (r ∷ bs) (g ∷ gs) c ≡ some p → x ≤ total a v p
  opening_below g gs v c r x o bs p h =
      let (m, q, hm, hd, e) = derive_cons P r bs g gs c p h in
      let (u, l, ex) = o.expanded m hm in
      rw e (omega (arith, l.below bs q hd))

  -- and where x is below the cap, some list totals x
  opening_attained : (g : Item) (gs : List Item) (v : ℕ → ℕ) (c r x : ℕ) → Opening g gs v c r x → x < cap → Reached P a (g ∷ gs) v c x
  opening_attained g gs v c r x o h = go (P.expand g c r) refl
    where
      go : (k : Option Expansion) → P.expand g c r ≡ k → Reached P a (g ∷ gs) v c x
      go none e = absurd (omega (arith, o.unexpanded e))
      go (some m) e =
          let (u, l, ex) = o.expanded m e in
          let (bs, q, hd, eu) = l.attained (omega arith) in
          (r ∷ bs, price_of (P.weight r) m ⊞ q, cons_derive P r bs g gs c m q e hd, omega arith)

  -- two lists that are read one after the other, by carry state m between them
  reached-append : (g₁ g₂ : List Item) (v : ℕ → ℕ) (c m x y : ℕ) → Least g₁ (only cap m) c x → Least g₂ v m y → x + y < cap
      → Reached P a (g₁ ++ g₂) v c (x + y)
  reached-append g₁ g₂ v c m x y l₁ l₂ h = go (l₁.attained (omega arith)) (l₂.attained (omega arith))
    where
      go : Reached P a g₁ (only cap m) c x → Reached P a g₂ v m y → Reached P a (g₁ ++ g₂) v c (x + y)
      go (b₁, p₁, h₁, e₁) (b₂, p₂, h₂, e₂) =
          let em : p₁.carry ≡ m = only_below cap m p₁.carry (omega arith) in
          (b₁ ++ b₂, p₁ ⊞ p₂, derive-append P b₁ b₂ g₁ g₂ c p₁ p₂ h₁ (rw em h₂), omega (arith, rw em at e₁, only_same cap m))

module _ {P : Instance} {C : ℕ} (L : Lawful P C) where
  -- a rule that makes an expansion is below `count`
  expands_below : (g : Item) (c r : ℕ) (m : Expansion) → P.expand g c r ≡ some m → r < P.count
  expands_below g c r m e = elim (dec_lt r P.count) [
    | yes k ↦ k
    | no k ↦ absurd (none-ne-some _ (sym (L.ends g c r (omega arith)) ∙ e))
  ]

  -- so is every rule of a list that is read
  pub rules_below : (bs : List ℕ) (gs : List Item) (c : ℕ) (p : Price) → derive P bs gs c ≡ some p → Every (λ r. r < P.count) bs
  rules_below =
      derive-rec P (λ bs gs c p. Every (λ r. r < P.count) bs) (λ c. tt) (λ r bs g gs c m q hm hd ih. (expands_below g c r m hm, ih))

  -- the carry state behind a list that is read is below C
  pub carry_fits : (bs : List ℕ) (gs : List Item) (c : ℕ) (p : Price) → derive P bs gs c ≡ some p → c < C → p.carry < C
  carry_fits = derive-rec P (λ bs gs c p. c < C → p.carry < C) (λ c h. h) (λ r bs g gs c m q hm hd ih h. ih (L.fits g c r m h hm))

  module _ (a cap : ℕ) where
    -- at an item: the least over the rules
    pub least_rule : (g : Item) (gs : List Item) (v : ℕ → ℕ) (c : ℕ) (f : ℕ → ℕ)
        → ((r : ℕ) → r < P.count → Opening P a cap g gs v c r (f r)) → Least P a cap (g ∷ gs) v c (lowest cap f P.count)
    unfolding derive
    least_rule g gs v c f o = record { below = low; attained = get }
      where
        low : (bs : List ℕ) (p : Price) → derive P bs (g ∷ gs) c ≡ some p → lowest cap f P.count ≤ total a v p
        low [] p h = absurd (none-ne-some _ h)
        low (r ∷ bs) p h =
            let k = (rules_below (r ∷ bs) (g ∷ gs) c p h).0 in
            omega (arith, lowest_le cap f P.count r k, opening_below P a cap g gs v c r (f r) (o r k) bs p h)

        get : lowest cap f P.count < cap → Reached P a (g ∷ gs) v c (lowest cap f P.count)
        get h =
            let (r, k, e) = lowest_at cap f P.count h in
            rw e (opening_attained P a cap g gs v c r (f r) (o r k) (omega arith))

    -- over two lists of items: the least over the carry states between them
    pub least_append : (g₁ g₂ : List Item) (v : ℕ → ℕ) (c : ℕ) (f u : ℕ → ℕ) → c < C
        → ((m : ℕ) → m < C → Least P a cap g₁ (only cap m) c (f m)) → ((m : ℕ) → m < C → Least P a cap g₂ v m (u m))
        → Least P a cap (g₁ ++ g₂) v c (lowest cap (λ m. f m + u m) C)
    least_append g₁ g₂ v c f u hc one two = record { below = low; attained = get }
      where
        low : (bs : List ℕ) (p : Price) → derive P bs (g₁ ++ g₂) c ≡ some p → lowest cap (λ m. f m + u m) C ≤ total a v p
        low bs p h =
            let (b₁, b₂, p₁, p₂, eb, h₁, h₂, e) = derive_split P bs g₁ g₂ c p h in
            let k = carry_fits b₁ g₁ c p₁ h₁ hc in
            rw e (omega (
              arith,
              lowest_le cap (λ m. f m + u m) C p₁.carry k,
              (one p₁.carry k).below b₁ p₁ h₁,
              (two p₁.carry k).below b₂ p₂ h₂,
              only_same cap p₁.carry,
            ))

        get : lowest cap (λ m. f m + u m) C < cap → Reached P a (g₁ ++ g₂) v c (lowest cap (λ m. f m + u m) C)
        get h =
            let (m, k, e) = lowest_at cap (λ m. f m + u m) C h in
            rw e (reached-append P a cap g₁ g₂ v c m (f m) (u m) (one m k) (two m k) (omega arith))

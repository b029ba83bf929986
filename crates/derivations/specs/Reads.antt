-- Reading a list by recursion into the parts: the contract of a call that reads the derivation of some items off the front of a list and
-- leaves the rest, or finds that no derivation is there. The laws follow the calls: items in a row, a rule, the whole list.
use Rattle.std.specs.Prelude.{ℕ, ◌≡◌}
use Rattle.std.proofs.Math.Path.{refl, ap}
use Rattle.std.proofs.Common.{sym, ◌∙◌}
use mathlib.Core.List.{List, [], ◌∷◌, ◌++◌, append_assoc, append-nil}
use Rattle.std.proofs.Math.Option.{Option, none, some, map}
use Rattle.derivations.specs.Derivation.{Item, Expansion, Price, Instance, derive, onto, unspent, price_of, ◌⊞◌}
use Rattle.derivations.specs.Derivation.{unspent_⊞, ⊞_unspent, ⊞_assoc}

map-unspent : (c : ℕ) (o : Option Price) → map (unspent c ⊞◌) o ≡ o
map-unspent c none = refl
map-unspent c (some p) = ap some (unspent_⊞ c p)

map-map : (p q : Price) (o : Option Price) → map (p ⊞◌) (map (q ⊞◌) o) ≡ map ((p ⊞ q) ⊞◌) o
map-map p q none = refl
map-map p q (some r) = ap some (sym (⊞_assoc p q r))

module _ (P : Instance) where
  -- read against `gs` from c, the list xs gives the price p and leaves ys, whatever items follow
  abbrev pub Reads : List Item → ℕ → List ℕ → List ℕ → Price → Type 0
  Reads gs c xs ys p = (hs : List Item) → derive P xs (gs ++ hs) c ≡ map (p ⊞◌) (derive P ys hs p.carry)

  -- read against `gs` from c, the list xs has no reading, whatever items follow
  abbrev pub Stuck : List Item → ℕ → List ℕ → Type 0
  Stuck gs c xs = (hs : List Item) → derive P xs (gs ++ hs) c ≡ none

  -- ---- items in a row

  pub reads_nil : (c : ℕ) (xs : List ℕ) → Reads [] c xs xs (unspent c)
  reads_nil c xs hs = sym (map-unspent c (derive P xs hs c))

  pub reads_append : (g₁ g₂ : List Item) (c : ℕ) (xs ys zs : List ℕ) (p q : Price) → Reads g₁ c xs ys p → Reads g₂ p.carry ys zs q
      → Reads (g₁ ++ g₂) c xs zs (p ⊞ q)
  reads_append g₁ g₂ c xs ys zs p q h k hs =
      rw append_assoc (h (g₂ ++ hs) ∙ ap (map (p ⊞◌)) (k hs) ∙ map-map p q (derive P zs hs q.carry))

  pub stuck_front : (g₁ g₂ : List Item) (c : ℕ) (xs : List ℕ) → Stuck g₁ c xs → Stuck (g₁ ++ g₂) c xs
  stuck_front g₁ g₂ c xs h hs = rw append_assoc (h (g₂ ++ hs))

  pub stuck_back : (g₁ g₂ : List Item) (c : ℕ) (xs ys : List ℕ) (p : Price) → Reads g₁ c xs ys p → Stuck g₂ p.carry ys
      → Stuck (g₁ ++ g₂) c xs
  stuck_back g₁ g₂ c xs ys p h k hs = rw append_assoc (h (g₂ ++ hs) ∙ ap (map (p ⊞◌)) (k hs))

  -- ---- a rule at an item

  pub reads_rule : (g : Item) (c r : ℕ) (xs ys : List ℕ) (m : Expansion) (q : Price) → P.expand g c r ≡ some m
      → Reads m.parts m.carry xs ys q → Reads (g ∷ []) c (r ∷ xs) ys (price_of (P.weight r) m ⊞ q)
  unfolding derive onto
  reads_rule g c r xs ys m q e h hs =
      let w : Price = price_of (P.weight r) m in
      rw (e, onto) (ap (map (w ⊞◌)) (h hs) ∙ map-map w q (derive P ys hs q.carry))

  -- the rule makes no expansion
  pub stuck_rule : (g : Item) (c r : ℕ) (xs : List ℕ) → P.expand g c r ≡ none → Stuck (g ∷ []) c (r ∷ xs)
  unfolding derive onto
  stuck_rule g c r xs e hs = rw (e, onto)

  -- the parts have no reading
  pub stuck_parts : (g : Item) (c r : ℕ) (xs : List ℕ) (m : Expansion) → P.expand g c r ≡ some m → Stuck m.parts m.carry xs
      → Stuck (g ∷ []) c (r ∷ xs)
  unfolding derive onto
  stuck_parts g c r xs m e h hs = rw (e, onto) (ap (map (price_of (P.weight r) m ⊞◌)) (h hs))

  -- the list has no rule left
  pub stuck_end : (g : Item) (c : ℕ) → Stuck (g ∷ []) c []
  unfolding derive
  stuck_end g c hs = refl

  -- ---- the whole list

  pub reads_all : (gs : List Item) (c : ℕ) (xs : List ℕ) (p : Price) → Reads gs c xs [] p → derive P xs gs c ≡ some p
  unfolding derive
  reads_all gs c xs p h = (rw append-nil at (h [])) ∙ ap some (⊞_unspent p)

  -- a rule is left over
  pub reads_more : (gs : List Item) (c : ℕ) (xs : List ℕ) (y : ℕ) (ys : List ℕ) (p : Price) → Reads gs c xs (y ∷ ys) p
      → derive P xs gs c ≡ none
  unfolding derive
  reads_more gs c xs y ys p h = rw append-nil at (h [])

  pub stuck_all : (gs : List Item) (c : ℕ) (xs : List ℕ) → Stuck gs c xs → derive P xs gs c ≡ none
  stuck_all gs c xs h = rw append-nil at (h [])

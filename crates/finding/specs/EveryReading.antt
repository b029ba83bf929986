-- A fact about every list, of any length, that is read against items, shown by one test that the checker computes: each rule is tried at
-- the first item, and then at the items that this leaves, until none is left.
use Prim.Native.Nat.{ℕ, zero, suc, ◌<◌}
use Rattle.std.specs.Prelude.{◌≡◌, Bool, true}
use Rattle.std.proofs.Common.{sym, ◌∙◌, arith}
use Rattle.std.proofs.Math.Bool.{false}
use Rattle.std.proofs.lemmas.Bool.{false≢true}
use mathlib.Core.List.{List, [], ◌∷◌, ◌++◌}
use Rattle.std.proofs.Math.Option.{Option, none, some, none-ne-some}
use Rattle.std.proofs.Math.Decide.{dec_lt}
use Rattle.slices.specs.Test.{passes, passes_at}
use Rattle.derivations.specs.Derivation.{Item, Expansion, Price, Instance, Lawful, unspent, price_of, ◌⊞◌, derive, Onto}
use Rattle.derivations.specs.Derivation.{derive_nil, derive_cons}

-- what a rule makes of an item passes, where it makes something
abbrev pub made : (Expansion → Bool) → Option Expansion → Bool
made f none = true
made f (some m) = f m

made_at : (f : Expansion → Bool) (o : Option Expansion) (m : Expansion) → o ≡ some m → made f o ≡ true → f m ≡ true
made_at f o m e t = rw e at t

module _ (P : Instance) where
  -- Every list that is read against the items from carry state c passes a test of the list and its price. No list is missed for its length:
  -- where n rules in a row leave an item, the answer is false.
  unfoldable pub every_reading : (n : ℕ) → List Item → ℕ → (List ℕ → Price → Bool) → Bool
  unfolding passes
  every_reading zero [] c test = test [] (unspent c)
  every_reading zero (g ∷ gs) c test = false
  every_reading (suc n) [] c test = test [] (unspent c)
  every_reading (suc n) (g ∷ gs) c test =
      passes
      (λ r. made (λ m. every_reading n (m.parts ++ gs) m.carry (λ bs p. test (r ∷ bs) (price_of (P.weight r) m ⊞ p))) (P.expand g c r))
      P.count

  module _ {C : ℕ} (law : Lawful P C) where
    -- a rule that makes an expansion is one of the instance's
    below_count : (g : Item) (c r : ℕ) (m : Expansion) → P.expand g c r ≡ some m → r < P.count
    below_count g c r m e = elim (dec_lt r P.count) [
      | yes h ↦ h
      | no h ↦ absurd (none-ne-some _ (sym (law.ends g c r (omega arith)) ∙ e))
    ]

    at_end_lem : (c : ℕ) (test : List ℕ → Price → Bool) → test [] (unspent c) ≡ true → (bs : List ℕ) (p : Price)
        → (bs ≡ []) × (p ≡ unspent c) → test bs p ≡ true
    at_end_lem c test t bs p (e, f) = rw (e, f) t

    at_rule : (r : ℕ) (bs : List ℕ) (g : Item) (gs : List Item) (c : ℕ) (p : Price) (test : List ℕ → Price → Bool)
        → Onto (P.weight r) (P.expand g c r) (λ m. derive P bs (m.parts ++ gs) m.carry) p
        → ((m : Expansion) (q : Price) → P.expand g c r ≡ some m → derive P bs (m.parts ++ gs) m.carry ≡ some q
        → test (r ∷ bs) (price_of (P.weight r) m ⊞ q) ≡ true) → test (r ∷ bs) p ≡ true
    at_rule r bs g gs c p test (m, q, e, k, f) next = rw f (next m q e k)

    pub reading_passes : (n : ℕ) (gs : List Item) (c : ℕ) (test : List ℕ → Price → Bool) → every_reading n gs c test ≡ true → (bs : List ℕ)
        (p : Price) → derive P bs gs c ≡ some p → test bs p ≡ true
    unfolding every_reading derive
    reading_passes zero [] c test t bs p h = at_end_lem c test t bs p (derive_nil P bs c p h)
    reading_passes zero (g ∷ gs) c test t bs p h = absurd (false≢true t)
    reading_passes (suc n) [] c test t bs p h = at_end_lem c test t bs p (derive_nil P bs c p h)
    reading_passes (suc n) (g ∷ gs) c test t [] p h = absurd (none-ne-some _ h)
    reading_passes (suc n) (g ∷ gs) c test t (r ∷ bs) p h =
        at_rule r bs g gs c p test (derive_cons P r bs g gs c p h)
        (λ m q e k. reading_passes n (m.parts ++ gs) m.carry (λ bs p. test (r ∷ bs) (price_of (P.weight r) m ⊞ p))
        (made_at _ _ m e (passes_at _ P.count t r (below_count g c r m e))) bs q k)

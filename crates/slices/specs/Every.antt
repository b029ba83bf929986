-- A property of every element of a list.
use Rattle.std.specs.Prelude.{ℕ, zero, suc, ◌<◌, List, [], ◌∷◌, ◌++◌, ◌≡◌, length, get_or}
use Rattle.std.proofs.Math.Option.{some, none-ne-some, some-injective}
use Rattle.std.proofs.Common.{subst, arith}
use Rattle.std.proofs.Math.ListN.{get_elem?}

abbrev pub Every : {A : Type 0} → (A → Type 0) → List A → Type 0
Every P [] = Unit {0}
Every P (x ∷ xs) = P x × Every P xs

module _ {A : Type 0} (P : A → Type 0) where
  -- one element more
  pub every_more : (xs : List A) (x : A) → Every P xs → P x → Every P (xs ++ (x ∷ []))
  every_more [] x e p = (p, tt)
  every_more (y ∷ xs) x e p = (e.0, every_more xs x e.1 p)

  -- two lists
  pub every_append : (xs ys : List A) → Every P xs → Every P ys → Every P (xs ++ ys)
  every_append [] ys e f = f
  every_append (x ∷ xs) ys e f = (e.0, every_append xs ys e.1 f)

  -- the element at a place, and the default past the end
  pub every_at : (xs : List A) (i : ℕ) (d : A) → Every P xs → P d → P (get_or xs i d)
  every_at [] i d e p = p
  every_at (x ∷ xs) zero d e p = e.0
  every_at (x ∷ xs) (suc i) d e p = every_at xs i d e.1 p

-- the element at a place of the list
pub every_in : {A : Type 0} (P : A → Type 0) (xs : List A) (i : ℕ) (d : A) → i < length xs → Every P xs → P (get_or xs i d)
every_in P [] i d h e = let f : ⊥ = omega arith in absurd f
every_in P (x ∷ xs) zero d h e = e.0
every_in P (x ∷ xs) (suc i) d h e = every_in P xs i d (omega arith) e.1

-- the same, where the place may be past the end
pub every_some : {A : Type 0} (P : A → Type 0) (xs : List A) (i : ℕ) (x : A) → Every P xs → get_elem? xs i ≡ some x → P x
every_some P [] i x e h = absurd (none-ne-some _ h)
every_some P (y ∷ xs) zero x e h = subst P (some-injective _ _ h) e.0
every_some P (y ∷ xs) (suc i) x e h = every_some P xs i x e.1 h

-- a weaker property
pub every_weaken : {A : Type 0} (P Q : A → Type 0) → ((x : A) → P x → Q x) → (xs : List A) → Every P xs → Every Q xs
every_weaken P Q f [] e = tt
every_weaken P Q f (x ∷ xs) e = (f x e.0, every_weaken P Q f xs e.1)

-- a property of everything
pub every_all : {A : Type 0} (P : A → Type 0) → ((x : A) → P x) → (xs : List A) → Every P xs
every_all P f [] = tt
every_all P f (x ∷ xs) = (f x, every_all P f xs)

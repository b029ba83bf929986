-- Laws of lists of numbers: what is in a list, and how long a list is that names each of its elements once.
-- Assumes nothing.
use Rattle.std.specs.Prelude.{ℕ, zero, suc, ◌<◌, ◌≤◌, ◌≡◌, refl, Bool, true, false, ◌||◌, ◌⊎◌, List, [], ◌∷◌, ◌++◌, length, get_or, eqb}
use Rattle.std.proofs.Common.{sym, ap, subst, ◌∙◌, inl, inr, ⊎_elim, arith, eqb-true, eq-eqb, ne_eqb}
use Rattle.std.proofs.Math.Bool.{or-true, or_assoc}
use Rattle.std.proofs.lemmas.Bool.{false≢true}
use Rattle.std.proofs.Math.Decide.{ℕ_discrete}
use Rattle.slices.specs.Every.{Every}
use Rattle.sizes.specs.Sizes.{member, Once}

-- a disjunction holds by one side
pub by_or : {P : Type 0} (a b : Bool) → (a ≡ true → P) → (b ≡ true → P) → (a || b) ≡ true → P
by_or true b f g e = f refl
by_or false b f g e = g e

-- what is not true is false
pub not_true_false : (b : Bool) → (b ≡ true → ⊥) → b ≡ false
not_true_false true n = absurd (n refl)
not_true_false false n = refl

-- a fact by whether two numbers are equal
pub by_equal : {P : Type 0} (x y : ℕ) → (x ≡ y → P) → ((x ≡ y → ⊥) → P) → P
by_equal {P} x y f g = go (ℕ_discrete x y)
  where
    go : Dec (x ≡ y) → P
    go (yes e) = f e
    go (no e) = g e

-- an element is in a list that starts with it
pub member_here : (x y : ℕ) (xs : List ℕ) → x ≡ y → member x (y ∷ xs) ≡ true
unfolding member
member_here x y xs e = simp (eq-eqb x y e)

-- and in a list that goes on with a list that it is in
pub member_there : (x y : ℕ) (xs : List ℕ) → member x xs ≡ true → member x (y ∷ xs) ≡ true
unfolding member
member_there x y xs m = simp (m, or-true)

-- it is the first, or behind it
pub member_cases : (x y : ℕ) (xs : List ℕ) → member x (y ∷ xs) ≡ true → (x ≡ y) ⊎ (member x xs ≡ true)
unfolding member
member_cases x y xs m = by_or (eqb x y) (member x xs) (λ e. inl (eqb-true x y e)) (λ e. inr e) m

-- behind a first element that it is not
pub member_past : (x y : ℕ) (xs : List ℕ) → (x ≡ y → ⊥) → member x (y ∷ xs) ≡ member x xs
unfolding member
member_past x y xs n = simp (ne_eqb x y n)

-- nothing is in the empty list
pub member_none : (x : ℕ) → member x [] ≡ false
unfolding member
member_none x = refl

pub no_member : (x : ℕ) → member x [] ≡ true → ⊥
no_member x m = false≢true (sym (member_none x) ∙ m)

-- in two lists one behind the other
pub member-append : (x : ℕ) (xs ys : List ℕ) → member x (xs ++ ys) ≡ (member x xs || member x ys)
unfolding member
member-append x [] ys = refl
member-append x (y ∷ xs) ys =
    ap (λ (b : Bool). eqb x y || b) (member-append x xs ys) ∙ sym (or_assoc (eqb x y) (member x xs) (member x ys))

-- an element stays where a list goes on
pub member_front : (x : ℕ) (xs ys : List ℕ) → member x xs ≡ true → member x (xs ++ ys) ≡ true
member_front x xs ys m = simp (member-append, m)

-- and where one more stands in it
pub member_skip : (x : ℕ) (xs : List ℕ) (y : ℕ) (ys : List ℕ) → member x (xs ++ ys) ≡ true
    → member x (xs ++ (y ∷ ys)) ≡ true
member_skip x [] y ys m = member_there x y ys m
member_skip x (z ∷ xs) y ys m =
    ⊎_elim (λ e. member_here x z _ e) (λ e. member_there x z _ (member_skip x xs y ys e)) (member_cases x z (xs ++ ys) m)

-- the last element is in the list
pub member_last : (x : ℕ) (xs : List ℕ) → member x (xs ++ (x ∷ [])) ≡ true
member_last x xs = simp (member-append, member_here x x [] refl, or-true)

-- it is in the list without its last element, or that element
pub member_more : (x y : ℕ) (xs : List ℕ) → member x (xs ++ (y ∷ [])) ≡ true → (member x xs ≡ true) ⊎ (x ≡ y)
member_more x y xs m =
    by_or (member x xs) (member x (y ∷ [])) (λ e. inl e)
    (λ e. ⊎_elim (λ q. inr q) (λ q. absurd (no_member x q)) (member_cases x y [] e))
    (sym (member-append x xs (y ∷ [])) ∙ m)

-- what holds of every element holds of one that is in the list
pub every_member : (P : ℕ → Type 0) (xs : List ℕ) (x : ℕ) → Every P xs → member x xs ≡ true → P x
every_member P [] x e m = absurd (no_member x m)
every_member P (y ∷ xs) x e m = ⊎_elim (λ q. subst P (sym q) e.0) (λ q. every_member P xs x e.1 q) (member_cases x y xs m)

-- what stands at a place is in the list
pub member_at : (xs : List ℕ) (i : ℕ) → i < length xs → member (get_or xs i 0) xs ≡ true
member_at [] i h = let f : ⊥ = omega arith in absurd f
member_at (x ∷ xs) zero h = member_here x x xs refl
member_at (x ∷ xs) (suc i) h = member_there (get_or xs i 0) x xs (member_at xs i (omega arith))

-- what is in the list stands at a place
pub place_of : (x : ℕ) (xs : List ℕ) → member x xs ≡ true → (i : ℕ) × (i < length xs) × (get_or xs i 0 ≡ x)
place_of x [] m = absurd (no_member x m)
place_of x (y ∷ xs) m =
    ⊎_elim (λ q. (0, omega arith, sym q))
    (λ q. let p = place_of x xs q in (suc p.0, omega (arith, p.1), p.2))
    (member_cases x y xs m)

-- a list without the first place of x
without : ℕ → List ℕ → List ℕ
without x [] = []
without x (y ∷ ys) = elim (eqb x y) [ true ↦ ys | false ↦ y ∷ without x ys ]

without_here : (x y : ℕ) (ys : List ℕ) → x ≡ y → without x (y ∷ ys) ≡ ys
unfolding without
without_here x y ys e = simp (without, eq-eqb x y e)

without_past : (x y : ℕ) (ys : List ℕ) → (x ≡ y → ⊥) → without x (y ∷ ys) ≡ y ∷ without x ys
unfolding without
without_past x y ys n = simp (without, ne_eqb x y n)

-- it is one shorter where x was in it
length_without : (x : ℕ) (ys : List ℕ) → member x ys ≡ true → length ys ≡ suc (length (without x ys))
length_without x [] m = absurd (no_member x m)
length_without x (y ∷ ys) m =
    by_equal x y
    (λ e. rw (without_here x y ys e))
    (λ e. rw (without_past x y ys e) (ap suc (length_without x ys (sym (member_past x y ys e) ∙ m))))

-- it has every other element
member_without : (x z : ℕ) (ys : List ℕ) → (z ≡ x → ⊥) → member z ys ≡ true → member z (without x ys) ≡ true
member_without x z [] n m = absurd (no_member z m)
member_without x z (y ∷ ys) n m =
    by_equal x y
    (λ e. rw (without_here x y ys e) (sym (member_past z y ys (λ q. n (q ∙ sym e))) ∙ m))
    (λ e. rw (without_past x y ys e)
    (⊎_elim (λ q. member_here z y _ q) (λ q. member_there z y _ (member_without x z ys n q)) (member_cases z y ys m)))

-- a list that names each of its elements once is no longer than a list that has them all
pub once_shorter : (xs ys : List ℕ) → Once xs → ((x : ℕ) → member x xs ≡ true → member x ys ≡ true)
    → length xs ≤ length ys
once_shorter [] ys o f = omega arith
once_shorter (x ∷ xs) ys o f =
    let rest : (z : ℕ) → member z xs ≡ true → member z (without x ys) ≡ true =
    λ z m. member_without x z ys (λ e. false≢true (sym o.0 ∙ subst (λ (k : ℕ). member k xs ≡ true) e m)) (f z
    (member_there z x xs m)) in
    let shorter : length xs ≤ length (without x ys) = once_shorter xs (without x ys) o.1 rest in
    omega (arith, length_without x ys (f x (member_here x x xs refl)))

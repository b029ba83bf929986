-- Laws of `divisors`: every divisor of 20,160 is in it, and each element is above those behind it.
-- Assumes nothing.
use Rattle.std.specs.Prelude.{ℕ, zero, suc, ◌*◌, ◌/◌, ◌<◌, ◌≤◌, ◌≡◌, refl, Bool, true, ◌&&◌, ◌||◌, not, List, [], ◌∷◌, ◌++◌, length, drop, get_or, eqb, ltb}
use Rattle.std.proofs.Common.{sym, ap, ◌∙◌, ⊎_elim, mul-zero, mul_comm, mul-le-mul, arith, eq-eqb, ltb-true}
use Rattle.std.proofs.Math.Decide.{dec_lt}
use Rattle.std.proofs.Math.Nat.{div-eq_of_eq-mul_left, div-eq_of_eq-mul_right}
use Rattle.slices.specs.Test.{and_both, passes, passes_at}
use Rattle.sizes.specs.Sizes.{member, Once, divisors}
use Rattle.sizes.specs.Members.{not_true_false, member_cases, no_member, member_at, member_front, member_skip}

-- where q divides 20,160, both q and the quotient are in the list
paired : ℕ → Bool
paired q = not (eqb (20160 / q * q) 20160) || (member q divisors && member (20160 / q) divisors)

-- 142 × 142 is more than 20,160, so that one of a divisor and its quotient is below 142
all_paired : passes paired 142 ≡ true
unfolding passes paired member divisors
all_paired = refl

-- neither factor of 20,160 is 0
pub positive_right : (q y : ℕ) → q * y ≡ 20160 → 0 < y
positive_right q zero e = let f : ⊥ = omega (arith, mul-zero q) in absurd f
positive_right q (suc y) e = omega arith

pub positive_left : (q y : ℕ) → q * y ≡ 20160 → 0 < q
positive_left q y e = positive_right y q (mul_comm y q ∙ e)

-- so where q is a divisor below 142, it and its quotient are in the list
paired_at : (q r : ℕ) → q < 142 → 20160 / q ≡ r → r * q ≡ 20160 → (member q divisors ≡ true) × (member r divisors ≡ true)
unfolding paired
paired_at q r h e m =
    let divides : eqb (20160 / q * q) 20160 ≡ true = eq-eqb _ _ (ap (λ (k : ℕ). k * q) e ∙ m) in
    let t : (member q divisors && member (20160 / q) divisors) ≡ true = simp divides at (passes_at paired 142 all_paired q h) in
    rw e at (and_both (member q divisors) (member (20160 / q) divisors) t)

-- what divides 20,160 is in the list
pub divides_member : (q y : ℕ) → q * y ≡ 20160 → member y divisors ≡ true
divides_member q y e = go (dec_lt y 142)
  where
    go : Dec (y < 142) → member y divisors ≡ true
    go (yes h) = (paired_at y q h (div-eq_of_eq-mul_left (positive_right q y e) (sym e)) e).0
    go (no h) =
        let large : (142 ≤ q → ⊥) = λ k. omega (arith, mul-le-mul {n₁ = 142} {m₁ = 142} {n₂ = q} {m₂ = y} k (omega arith)) in
        let small : q < 142 = omega (arith, large) in
        (paired_at q y small (div-eq_of_eq-mul_right (positive_left q y e) (sym e)) (mul_comm y q ∙ e)).1

-- each element is below the one before, the first below `top`
falling : ℕ → List ℕ → Bool
falling top [] = true
falling top (x ∷ xs) = ltb x top && falling x xs

-- so every element is below `top`
falling_below : (top : ℕ) (xs : List ℕ) → falling top xs ≡ true → (x : ℕ) → member x xs ≡ true → x < top
unfolding falling
falling_below top [] f x m = absurd (no_member x m)
falling_below top (y ∷ xs) f x m =
    let both = and_both (ltb y top) (falling y xs) f in
    let l : y < top = ltb-true y top both.0 in
    ⊎_elim (λ e. omega arith) (λ e. omega (arith, falling_below y xs both.1 x e)) (member_cases x y xs m)

-- every element is above those behind it
abbrev pub Falls : List ℕ → Type 0
Falls [] = Unit {0}
Falls (x ∷ xs) = ((y : ℕ) → member y xs ≡ true → y < x) × Falls xs

-- a list that passes the test falls
falls : (top : ℕ) (xs : List ℕ) → falling top xs ≡ true → Falls xs
unfolding falling
falls top [] f = tt
falls top (x ∷ xs) f = let rest = (and_both (ltb x top) (falling x xs) f).1 in (falling_below x xs rest, falls x xs rest)

-- `divisors` falls
pub divisors_fall : Falls divisors
unfolding falling divisors
divisors_fall = falls 20161 divisors refl

-- it starts with 20,160
pub divisors_first : divisors ≡ 20160 ∷ drop 1 divisors
unfolding divisors
divisors_first = refl

-- and has 84 elements
pub divisors-length : length divisors ≡ 84
unfolding divisors
divisors-length = refl

-- no divisor is above 20,160
pub divisor_most : (j : ℕ) → j < 84 → get_or divisors j 0 ≤ 20160
unfolding falling divisors
divisor_most j h = omega (arith, falling_below 20161 divisors refl (get_or divisors j 0) (member_at divisors j h))

-- a list that falls names each of its elements once
pub falls_once : (xs : List ℕ) → Falls xs → Once xs
falls_once [] f = tt
falls_once (x ∷ xs) f = (not_true_false _ (λ m. omega (arith, f.0 x m)), falls_once xs f.1)

-- its elements fall from place to place
pub falls_at : (xs : List ℕ) → Falls xs → (i j : ℕ) → i < j → j < length xs → get_or xs j 0 < get_or xs i 0
falls_at [] f i j l h = let g : ⊥ = omega arith in absurd g
falls_at (x ∷ xs) f i zero l h = let g : ⊥ = omega arith in absurd g
falls_at (x ∷ xs) f zero (suc j) l h = f.0 (get_or xs j 0) (member_at xs j (omega arith))
falls_at (x ∷ xs) f (suc i) (suc j) l h = falls_at xs f.1 i j (omega arith) (omega arith)

-- its front falls
pub falls_front : (xs ys : List ℕ) → Falls (xs ++ ys) → Falls xs
falls_front [] ys f = tt
falls_front (x ∷ xs) ys f = ((λ y m. f.0 y (member_front y xs ys m)), falls_front xs ys f.1)

-- and the list without one of its elements
pub falls_skip : (xs : List ℕ) (y : ℕ) (ys : List ℕ) → Falls (xs ++ (y ∷ ys)) → Falls (xs ++ ys)
falls_skip [] y ys f = f.1
falls_skip (x ∷ xs) y ys f = ((λ z m. f.0 z (member_skip z xs y ys m)), falls_skip xs y ys f.1)

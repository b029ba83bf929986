-- Steps of the flags of arities: the flag at a place, and how a rule changes them.
use Prim.Native.Nat.{ℕ, zero, suc, ◌+◌, ◌<◌}
use mathlib.Core.Path.{◌≡◌, refl, sym, ap, ◌∙◌}
use mathlib.Core.Bool.{Bool, true, false, ◌||◌, or-true, or-false, or_assoc}
use mathlib.Core.List.{List, [], ◌∷◌, ◌++◌}
use native.Mathlib.Nat.{add-zero, zero-add, add-suc, suc-add}
use native.Mathlib.Omega.{arith}
use lib.ListN.{length, get_or, set, length-set}
use lib.Seq.{ext_get_or, get_or-set_same, get_or-set_other}
use lib.Dec.{eqb}
use borrow.Author.Tests.{eq-eqb, ne_eqb}
use Rattle.sheet.specs.Sheet.{Rule, division, leaf}
use Rattle.sizes.specs.Sizes.{has_arity}
use Rattle.sizes.specs.Held.{arity_flags}
use Rattle.sizes.specs.Members.{by_equal}

-- a test's answers at m numbers from n on
up_from : (ℕ → Bool) → (m n : ℕ) → List Bool
up_from f zero n = []
up_from f (suc m) n = f n ∷ up_from f m (suc n)

at_place : (f : ℕ → Bool) (m n j : ℕ) → j < m → get_or (up_from f m n) j false ≡ f (n + j)
unfolding up_from
at_place f zero n j h = let g : ⊥ = omega arith in absurd g
at_place f (suc m) n zero h = ap f (sym (add-zero n))
at_place f (suc m) n (suc j) h = at_place f m (suc n) j (omega arith) ∙ ap f (suc-add n j ∙ sym (add-suc n j))

-- the flag at a place
pub flag_at : (rs : List Rule) (j : ℕ) → j < 9 → get_or (arity_flags rs) j false ≡ has_arity j rs
unfolding up_from arity_flags
flag_at rs j h = at_place (λ (k : ℕ). has_arity k rs) 9 0 j h ∙ ap (λ (k : ℕ). has_arity k rs) (zero-add j)

-- one rule more
has_more : (k : ℕ) (rs : List Rule) (r : Rule) → has_arity k (rs ++ (r ∷ [])) ≡ (has_arity k rs || has_arity k (r ∷ []))
unfolding has_arity
has_more k [] r = refl
has_more k (division h w ks ∷ rs) r =
    ap (λ (b : Bool). eqb (length ks) k || b) (has_more k rs r) ∙ sym (or_assoc (eqb (length ks) k) (has_arity k rs) (has_arity k (r ∷ [])))
has_more k (leaf h w n ∷ rs) r = has_more k rs r

-- there are nine flags
length_flags : (rs : List Rule) → length (arity_flags rs) ≡ 9
unfolding arity_flags
length_flags rs = refl

-- lists of flags that agree at each arity are equal
flags_equal : (fs : List Bool) (rs : List Rule) → length fs ≡ 9 → ((k : ℕ) → k < 9 → get_or fs k false ≡ has_arity k rs) → fs ≡ arity_flags rs
flags_equal fs rs n f =
    ext_get_or false fs (arity_flags rs) (n ∙ sym (length_flags rs)) (λ k h. f k (omega arith) ∙ sym (flag_at rs k (omega arith)))

-- a division sets the flag of its arity
pub flags_division : (rs : List Rule) (h w : ℕ) (ks : List ℕ) → length ks < 9
    → set (arity_flags rs) (length ks) true ≡ arity_flags (rs ++ (division h w ks ∷ []))
unfolding has_arity
flags_division rs h w ks m =
    let n : ℕ = length ks in
    flags_equal (set (arity_flags rs) n true) (rs ++ (division h w ks ∷ [])) (length-set (arity_flags rs) n true ∙ length_flags rs)
    (λ k l.
    by_equal k n
    (λ e.
    rw e
    (get_or-set_same (arity_flags rs) n true false (omega (arith, length_flags rs)) ∙ simp (has_more, eq-eqb n n refl, or-true)))
    (λ e.
    get_or-set_other (arity_flags rs) n k true false e ∙ flag_at rs k l
    ∙ simp (has_more, ne_eqb n k (λ q. e (sym q)), or-false)))

-- a leaf sets none
pub flags_leaf : (rs : List Rule) (h w n : ℕ) → arity_flags rs ≡ arity_flags (rs ++ (leaf h w n ∷ []))
unfolding has_arity
flags_leaf rs h w n =
    flags_equal (arity_flags rs) (rs ++ (leaf h w n ∷ [])) (length_flags rs)
    (λ k l. flag_at rs k l ∙ simp (has_more, or-false))

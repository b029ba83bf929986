-- Laws of IEEE 754's operations that `lib.Ieee` has not: quotient, difference from 1 and product at numbers above zero, each the exact value
-- rounded once (`quotient_is`, `less_one`, `one_less`), and results below zero as the negatives of those above (`round_neg`, `mul_neg`).
use Rattle.std.specs.Prelude.{◌≡◌, refl, ℕ, zero, suc, ◌+◌, ◌-◌, ◌*◌, ◌^◌, ◌≤◌, ◌<◌, Bool, true, false, not, cond, ℤ, T, ltb, Float}
use Rattle.std.proofs.Common.{sym, ap, ◌∙◌, subst, add-zero, zero-mul, mul-one, one-mul, mul-pos, not-le_of_lt, mul_comm, mul_assoc, mul_left_comm, arith, lt-ltb, le-ltb, ne_eqb, ltb→lt}
use Rattle.std.specs.Float.{nan, inf, fin, Format, binary64}
use Rattle.std.specs.Float.Ieee.{prec, emax, low, up, down, round, units, odd, sum, neg, div, sub, mul, lt, is_nan, of_int}
use Rattle.std.specs.Float.Ieee.Fits.{round_is, up_pos}
use Rattle.std.specs.Float.Ieee.Exact.{HasValue}
use Rattle.std.specs.Float.Ieee.Scale.{round_same}
use Rattle.std.specs.Float.Ieee.Back.{round_whole}
use Rattle.std.specs.Float.Ieee.Positive.{num, den, positive, den_pos, value→cross, positive_of_value}
use Rattle.tempo.specs.Tempo.{none, one, float}

-- ---- a result below zero is the negative of one above zero

units_neg : (f : Format) (q k : ℕ) → units f true q k ≡ neg (units f false q k)
unfolding units odd neg
units_neg f q k = go (ltb (q * 2 ^ k) (2 ^ (low f + suc (emax f)))) q
  where
    go : (b : Bool) (q : ℕ) → cond b (odd (suc (prec f)) true q k (low f)) (inf true) ≡ neg (cond b (odd (suc (prec f)) false q k (low f)) (inf false))
    go true zero = refl
    go true (suc q) = refl
    go false q = refl

pub round_neg : (f : Format) (a c : ℕ) → round f true a c ≡ neg (round f false a c)
round_neg f a c = round_is f true a c ∙ units_neg f _ _ ∙ ap neg (sym (round_is f false a c))

pub neg_neg : (x : Float) → neg (neg x) ≡ x
unfolding neg
neg_neg nan = refl
neg_neg (inf true) = refl
neg_neg (inf false) = refl
neg_neg (fin true m e) = refl
neg_neg (fin false m e) = refl

-- ---- the three operations at values that are finite and above zero

not_zero : (n : ℕ) → 0 < n → n ≡ 0 → ⊥
not_zero n h e = omega arith

div_is : (f : Format) (x y : Float) → T (positive x) → T (positive y) → div f x y ≡ round f false (num x * den y) (num y * den x)
unfolding div
div_is f nan y p q = absurd p
div_is f (inf s) y p q = absurd p
div_is f (fin true m e) y p q = absurd p
div_is f (fin false m e) nan p q = absurd q
div_is f (fin false m e) (inf t) p q = absurd q
div_is f (fin false m e) (fin true n d) p q = absurd q
div_is f (fin false m e) (fin false n d) p q = simp (ne_eqb n 0 (not_zero n (ltb→lt 0 n q)))

-- ±a / c with unlike signs: the difference, with the sign of the larger
over : (f : Format) (a b c : ℕ) → b ≤ a → sum f false a true b c ≡ round f false (a - b) c
unfolding sum
over f a b c h = go (ltb a b) (ltb→lt a b)
  where
    go : (t : Bool) → (T t → a < b) → cond t (round f true (b - a) c) (round f false (a - b) c) ≡ round f false (a - b) c
    go true k = absurd (not-le_of_lt (k tt) h)
    go false k = refl

under : (f : Format) (a b c : ℕ) → a < b → sum f false a true b c ≡ round f true (b - a) c
unfolding sum
under f a b c h = simp (lt-ltb a b h)

sub-one : (f : Format) (m : ℕ) (e : ℤ) → sub f (fin false m e) one ≡ sum f false (m * up e) true (down e) (down e)
unfolding sub
sub-one f m e = simp (mul-one, one-mul)

pub less_one : (f : Format) (x : Float) → T (positive x) → den x ≤ num x → sub f x one ≡ round f false (num x - den x) (den x)
less_one f nan p h = absurd p
less_one f (inf s) p h = absurd p
less_one f (fin true m e) p h = absurd p
less_one f (fin false m e) p h = sub-one f m e ∙ over f (m * up e) (down e) (down e) h

pub one_less : (f : Format) (x : Float) → T (positive x) → num x < den x → sub f x one ≡ round f true (den x - num x) (den x)
one_less f nan p h = absurd p
one_less f (inf s) p h = absurd p
one_less f (fin true m e) p h = absurd p
one_less f (fin false m e) p h = sub-one f m e ∙ under f (m * up e) (down e) (down e) h

pub mul_neg : (f : Format) (x y : Float) → T (positive x) → T (positive y) → mul f x (neg y) ≡ neg (mul f x y)
unfolding mul neg
mul_neg f nan y p q = absurd p
mul_neg f (inf s) y p q = absurd p
mul_neg f (fin true m e) y p q = absurd p
mul_neg f (fin false m e) nan p q = absurd q
mul_neg f (fin false m e) (inf t) p q = absurd q
mul_neg f (fin false m e) (fin true n d) p q = absurd q
mul_neg f (fin false m e) (fin false n d) p q = round_neg f (m * up e * (n * up d)) (down e * down d)

-- ---- the quotient of two whole numbers

pub float_is : (n : ℕ) → n ≤ 2 ^ 53 → HasValue (float n) false n 1
unfolding of_int
float_is n h = round_whole binary64 false n h

pub quotient_is : (a b : ℕ) → 0 < a → 0 < b → a ≤ 2 ^ 53 → b ≤ 2 ^ 53 → div binary64 (float a) (float b) ≡ round binary64 false a b
quotient_is a b A B ha hb =
    let x = float a in
    let y = float b in
    let ex : num x ≡ a * den x = sym (mul-one (num x)) ∙ value→cross x a 1 (float_is a ha) in
    let ey : num y ≡ b * den y = sym (mul-one (num y)) ∙ value→cross y b 1 (float_is b hb) in
    let Y : 0 < num y = subst (λ (z : ℕ). 0 < z) (sym ey) (mul-pos B (den_pos y)) in
    let e : num x * den y * b ≡ a * (num y * den x) =
    ap (λ (z : ℕ). z * den y * b) ex ∙ (simp (mul_assoc, mul_comm, mul_left_comm)) ∙ ap (λ (z : ℕ). a * (z * den x)) (sym ey) in
    div_is binary64 x y (positive_of_value x a 1 (float_is a ha) A) (positive_of_value y b 1 (float_is b hb) B)
    ∙ round_same binary64 false (num x * den y) (num y * den x) a b (mul-pos Y (den_pos x)) B e

-- ---- numbers above zero and below: the order with 0, and no NaN

pub above_none : (x : Float) → T (positive x) → lt none x ≡ true
unfolding lt
above_none nan p = absurd p
above_none (inf s) p = absurd p
above_none (fin true m e) p = absurd p
above_none (fin false m e) p = simp (zero-mul, mul-one, lt-ltb 0 (m * up e) (mul-pos (ltb→lt 0 m p) (up_pos e)))

pub below_none : (x : Float) → T (positive (neg x)) → lt x none ≡ true
unfolding lt neg
below_none nan p = absurd p
below_none (inf s) p = absurd p
below_none (fin false m e) p = absurd p
below_none (fin true m e) p = simp (zero-mul, add-zero, mul-one, lt-ltb 0 (m * up e) (mul-pos (ltb→lt 0 m p) (up_pos e)))

pub not_below : (x : Float) → T (positive x) → lt x none ≡ false
unfolding lt
not_below nan p = absurd p
not_below (inf s) p = absurd p
not_below (fin true m e) p = absurd p
not_below (fin false m e) p = simp (zero-mul, mul-one, le-ltb (m * up e) 0 (omega arith))

pub not_above : (x : Float) → T (positive (neg x)) → lt none x ≡ false
unfolding lt neg
not_above nan p = absurd p
not_above (inf s) p = absurd p
not_above (fin false m e) p = absurd p
not_above (fin true m e) p = refl

pub positive_known : (x : Float) → T (positive x) → T (not (is_nan x))
unfolding is_nan
positive_known nan p = absurd p
positive_known (inf s) p = tt
positive_known (fin s m e) p = tt

pub negative_known : (x : Float) → T (positive (neg x)) → T (not (is_nan x))
unfolding is_nan neg
negative_known nan p = absurd p
negative_known (inf s) p = tt
negative_known (fin s m e) p = tt

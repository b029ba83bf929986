-- A percentage has the sign of its case: above 0 where the first duration is larger, below 0 where it is smaller (`sign_tells`); so it is no
-- NaN, and its bits are defined (`percentage_known`). Rounding keeps the order, so each rounded step is held between two numbers that antt
-- computes, and none of them is a NaN or an infinity.
use Rattle.std.specs.Prelude.{◌≡◌, refl, ℕ, ◌-◌, ◌*◌, ◌≤◌, ◌<◌, false, not, pos, negsuc, eqb, Float}
use Rattle.std.proofs.Common.{sym, ap, ◌∙◌, subst, mul-one, one-mul, arith, lit<}
use Rattle.std.proofs.Math.Dec.{T}
use Rattle.std.specs.Float.{fin}
use Rattle.std.specs.Float.Ieee.{binary64, round, neg, div, sub, mul, lt, le, is_nan}
use Rattle.std.specs.Float.Ieee.Order.{round_mono}
use Rattle.std.specs.Float.Ieee.Positive.{num, den, positive, den_pos, le→cross, between, mul_mono}
use Rattle.tempo.specs.declared.between.Tempo.{Tempo}
use Rattle.tempo.specs.declared.between.Tempo.TheVariants.{Steady, Faster, Slower}
use Rattle.tempo.specs.Tempo.{none, one, hundred, float, percent_of, tempo_of, kind_of, percent_in}
use Rattle.tempo.specs.TempoLaws.{by_case}
use Rattle.tempo.specs.Floats.{round_neg, neg_neg, less_one, one_less, mul_neg, quotient_is, above_none, not_below, below_none}
use Rattle.tempo.specs.Floats.{not_above, positive_known, negative_known}

-- ---- bounds that antt computes: 2 ^ -26 and 60,000,000, the numbers next to 1 at a distance of 2 ^ -26, and a hundredfold of the first two

abbrev tiny : Float
tiny = fin false 1 (negsuc 25)

abbrev most : Float
most = fin false 234375 (pos 8)

abbrev over_one : Float
over_one = fin false 67108865 (negsuc 25)

abbrev under_one : Float
under_one = fin false 67108863 (negsuc 25)

tiny_is : round binary64 false 1 67108864 ≡ tiny
unfolding round
tiny_is = refl

most_is : round binary64 false 60000000 1 ≡ most
unfolding round
most_is = refl

over_one_is : round binary64 false 67108865 67108864 ≡ over_one
unfolding round
over_one_is = refl

under_one_is : round binary64 false 67108863 67108864 ≡ under_one
unfolding round
under_one_is = refl

hundred_tiny : mul binary64 hundred tiny ≡ fin false 25 (negsuc 23)
unfolding mul
hundred_tiny = refl

hundred_most : mul binary64 hundred most ≡ fin false 5859375 (pos 10)
unfolding mul
hundred_most = refl

-- ---- each step is between the bounds

-- a / c from 2 ^ -26 to 60,000,000, rounded
record Held (z : Float) : Type 0 where
  above : T (positive z)
  low : T (le tiny z)
  high : T (le z most)

held : (a c : ℕ) → 0 < c → c ≤ a * 67108864 → a ≤ 60000000 * c → Held (round binary64 false a c)
held a c C l h =
    let z = round binary64 false a c in
    let lo : T (le tiny z) = subst (λ (t : Float). T (le t z)) tiny_is (round_mono binary64 1 67108864 a c (lit< tt) C (simp one-mul l)) in
    let hi : T (le z most) = subst (λ (t : Float). T (le z t)) most_is (round_mono binary64 a c 60000000 1 C (lit< tt) (simp mul-one h)) in
    record { above = between tiny z most tt tt lo hi; low = lo; high = hi }

-- a hundredfold of it is above zero
hundredfold : (z : Float) → Held z → T (positive (mul binary64 hundred z))
hundredfold z h =
    between (fin false 25 (negsuc 23)) (mul binary64 hundred z) (fin false 5859375 (pos 10)) tt tt
    (subst (λ (t : Float). T (le t (mul binary64 hundred z))) hundred_tiny
    (mul_mono binary64 hundred hundred tiny z tt tt tt h.above (unfold le in tt) h.low))
    (subst (λ (t : Float). T (le (mul binary64 hundred z) t)) hundred_most
    (mul_mono binary64 hundred hundred z most tt tt h.above tt (unfold le in tt) h.high))

-- ---- the signs

-- a larger first duration: the quotient is at least 1 + 2 ^ -26, so what is left of it less 1 is at least 2 ^ -26
faster_positive : (a b : ℕ) → 0 < b → b < a → a ≤ 60000000 → T (positive (percent_of a b))
unfolding percent_of
faster_positive a b B h k =
    let x = round binary64 false a b in
    let X : Held x = held a b B (omega arith) (omega arith) in
    let lo : T (le over_one x) =
    subst (λ (t : Float). T (le t x)) over_one_is (round_mono binary64 67108865 67108864 a b (lit< tt) B (omega arith)) in
    let l : 67108865 * den x ≤ num x * 67108864 = le→cross over_one x tt X.above lo in
    let u : num x * 1 ≤ 60000000 * den x = le→cross x most X.above tt X.high in
    let e : sub binary64 (div binary64 (float a) (float b)) one ≡ round binary64 false (num x - den x) (den x) =
    ap (λ (t : Float). sub binary64 t one) (quotient_is a b (omega arith) B (omega arith) (omega arith))
    ∙ less_one binary64 x X.above (omega arith) in
    subst (λ (t : Float). T (positive (mul binary64 hundred t))) (sym e)
    (hundredfold (round binary64 false (num x - den x) (den x)) (held (num x - den x) (den x) (den_pos x) (omega arith) (omega arith)))

-- a smaller first duration: the quotient is at most 1 - 2 ^ -26, so 1 less the quotient is at least 2 ^ -26
slower_negative : (a b : ℕ) → 0 < a → a < b → b ≤ 60000000 → T (positive (neg (percent_of a b)))
unfolding percent_of
slower_negative a b A h k =
    let x = round binary64 false a b in
    let X : Held x = held a b (omega arith) (omega arith) (omega arith) in
    let hi : T (le x under_one) =
    subst (λ (t : Float). T (le x t)) under_one_is (round_mono binary64 a b 67108863 67108864 (omega arith) (lit< tt) (omega arith)) in
    let u : num x * 67108864 ≤ 67108863 * den x = le→cross x under_one X.above tt hi in
    let D : 0 < den x = den_pos x in
    let s = round binary64 false (den x - num x) (den x) in
    let S : Held s = held (den x - num x) (den x) D (omega arith) (omega arith) in
    let e : sub binary64 (div binary64 (float a) (float b)) one ≡ neg s =
    ap (λ (t : Float). sub binary64 t one) (quotient_is a b A (omega arith) (omega arith) (omega arith))
    ∙ one_less binary64 x X.above (omega arith)
    ∙ round_neg binary64 (den x - num x) (den x) in
    let n : neg (mul binary64 hundred (neg s)) ≡ mul binary64 hundred s =
    ap neg (mul_neg binary64 hundred s tt S.above) ∙ neg_neg (mul binary64 hundred s) in
    subst (λ (t : Float). T (positive (neg (mul binary64 hundred t)))) (sym e)
    (subst (λ (t : Float). T (positive t)) (sym n) (hundredfold s S))

-- ---- the case and its sign

-- a law of the case, from the percentage's sign where there is one
by_sign : (P : Tempo → Type 0) (a b : ℕ) → P Steady → (T (positive (percent_of a b)) → P (Faster (percent_of a b)))
    → (T (positive (neg (percent_of a b))) → P (Slower (percent_of a b))) → P (tempo_of a b)
by_sign P a b s f l =
    by_case P a b s
    (λ i j t.
    let v : 1000 ≤ b = j.0 in
    f (faster_positive a b (omega arith) t i.1))
    (λ i j t.
    let v : 1000 ≤ a = i.0 in
    l (slower_negative a b (omega arith) t j.1))

-- the percentage is above 0 where it is faster and nowhere else, and below 0 where it is slower and nowhere else
abbrev pub SignTells : Tempo → Type 0
SignTells t = (lt none (percent_in t) ≡ eqb (kind_of t) 1) × (lt (percent_in t) none ≡ eqb (kind_of t) 2)

pub sign_tells : (a1 a2 : ℕ) → SignTells (tempo_of a1 a2)
unfolding lt
sign_tells a1 a2 =
    by_sign SignTells a1 a2 (refl, refl)
    (λ above. (above_none (percent_of a1 a2) above, not_below (percent_of a1 a2) above))
    (λ below. (not_above (percent_of a1 a2) below, below_none (percent_of a1 a2) below))

-- the percentage is no NaN, so its bits are defined
pub percentage_known : (a1 a2 : ℕ) → T (not (is_nan (percent_in (tempo_of a1 a2))))
percentage_known a1 a2 =
    by_sign (λ (t : Tempo). T (not (is_nan (percent_in t)))) a1 a2 (unfold is_nan in tt)
    (positive_known (percent_of a1 a2))
    (negative_known (percent_of a1 a2))

-- How many divisions by 2 to 8 can follow one another from a length on: at most ten from a bar (document 01, "Valid trees": "So at most
-- ten divisions nest").
use Rattle.std.specs.Prelude.{ℕ, zero, suc, ◌*◌, ◌/◌, ◌%◌, ◌≤◌, ◌<◌, max, ◌≡◌, refl, Bool, true, false, List, [], ◌∷◌, eqb}
use Rattle.std.proofs.Common.{sym, ap, ◌∙◌, div-add-mod', mul_assoc, arith, eq-eqb}
use Rattle.std.proofs.Math.Decide.{ℕ_discrete}
use Rattle.std.proofs.Math.Nat.{div-lt_self, mul-div_cancel_left, mul-mod_right}

-- the largest value of a function on a list
unfoldable most_of : (ℕ → ℕ) → List ℕ → ℕ
most_of f [] = 0
most_of f (p ∷ ps) = max (f p) (most_of f ps)

-- one division by p, and then `next`
abbrev dividing : Bool → ℕ → ℕ
dividing true next = suc next
dividing false next = 0

-- The most divisions by 2, 3, 5 or 7 that can follow one another from n on, of at most d. A division by 4, 6 or 8 is two or three of them.
unfoldable deep : ℕ → ℕ → ℕ
unfolding most_of
deep zero n = 0
deep (suc d) n = most_of (λ p. dividing (eqb (n % p) 0) (deep d (n / p))) (2 ∷ 3 ∷ 5 ∷ 7 ∷ [])

unfoldable pub depth : ℕ → ℕ
unfolding deep
depth n = deep n n

pub depth_bar : depth 20160 ≡ 10
unfolding depth
depth_bar = refl

dividing_mono : (b : Bool) (x y : ℕ) → x ≤ y → dividing b x ≤ dividing b y
dividing_mono true x y h = omega arith
dividing_mono false x y h = omega arith

most_mono : (f g : ℕ → ℕ) → ((p : ℕ) → f p ≤ g p) → (ps : List ℕ) → most_of f ps ≤ most_of g ps
unfolding most_of
most_mono f g h [] = omega arith
most_mono f g h (p ∷ ps) = omega (arith, h p, most_mono f g h ps)

-- more divisions allowed, no fewer found
deep_more : (d n : ℕ) → deep d n ≤ deep (suc d) n
unfolding deep
deep_more zero n = omega arith
deep_more (suc d) n = most_mono _ _ (λ p. dividing_mono (eqb (n % p) 0) _ _ (deep_more d (n / p))) (2 ∷ 3 ∷ 5 ∷ 7 ∷ [])

deep_mono : (d e n : ℕ) → d ≤ e → deep d n ≤ deep e n
deep_mono d zero n h = let e : d ≡ 0 = omega arith in rw e (omega arith)
deep_mono d (suc e) n h = elim (ℕ_discrete d (suc e)) [
  | yes k ↦ rw k (omega arith)
  | no k ↦ omega (arith, deep_mono d e n (omega arith), deep_more e n)
]

-- a division by k leaves a length of less depth
abbrev Falls : ℕ → Type 0
Falls k = (n : ℕ) → 0 < n → n % k ≡ 0 → suc (depth (n / k)) ≤ depth n

falls_prime : (p : ℕ) → 1 < p → ((f : ℕ → ℕ) → f p ≤ most_of f (2 ∷ 3 ∷ 5 ∷ 7 ∷ [])) → Falls p
unfolding depth
falls_prime p h most zero z e = absurd (omega arith)
falls_prime p h most (suc d) z e =
    let f : ℕ → ℕ = λ q. dividing (eqb (suc d % q) 0) (deep d (suc d / q)) in
    let l : f p ≤ deep (suc d) (suc d) = most f in
    let v : f p ≡ suc (deep d (suc d / p)) = rw (eq-eqb (suc d % p) 0 e) refl in
    omega (arith, l, v, deep_mono (suc d / p) d (suc d / p) (omega (arith, div-lt_self z h)))

falls_times : (p q : ℕ) → 0 < p → 0 < q → Falls p → Falls q → Falls (p * q)
falls_times p q hp hq fp fq n z e =
    omega (arith, ap depth part, fp n z mod-p, fq (n / p) pos mod-q)
  where
    t : ℕ
    t = n / (p * q)

    whole : n ≡ p * (q * t)
    whole = omega (arith, div-add-mod' n (p * q), e, mul_assoc p q t)

    by_p : n / p ≡ q * t
    by_p = ap (λ (x : ℕ). x / p) whole ∙ mul-div_cancel_left (q * t) hp

    mod-p : n % p ≡ 0
    mod-p = ap (λ (x : ℕ). x % p) whole ∙ mul-mod_right p (q * t)

    mod-q : n / p % q ≡ 0
    mod-q = ap (λ (x : ℕ). x % q) by_p ∙ mul-mod_right q t

    part : n / p / q ≡ t
    part = ap (λ (x : ℕ). x / q) by_p ∙ mul-div_cancel_left t hq

    pos : 0 < n / p
    pos = elim (ℕ_discrete (n / p) 0) [
      | yes k ↦ absurd (omega (arith, whole, ap (p *◌) (sym by_p ∙ k)))
      | no k ↦ omega arith
    ]

falls_two : Falls 2
unfolding most_of
falls_two = falls_prime 2 (omega arith) (λ f. omega arith)

falls_three : Falls 3
unfolding most_of
falls_three = falls_prime 3 (omega arith) (λ f. omega arith)

falls_five : Falls 5
unfolding most_of
falls_five = falls_prime 5 (omega arith) (λ f. omega arith)

falls_seven : Falls 7
unfolding most_of
falls_seven = falls_prime 7 (omega arith) (λ f. omega arith)

falls_four : Falls 4
falls_four = falls_times 2 2 (omega arith) (omega arith) falls_two falls_two

pub depth_falls : (k : ℕ) → 2 ≤ k → k ≤ 8 → Falls k
depth_falls zero lo hi = absurd (omega arith)
depth_falls (suc zero) lo hi = absurd (omega arith)
depth_falls (suc (suc zero)) lo hi = falls_two
depth_falls (suc (suc (suc zero))) lo hi = falls_three
depth_falls (suc (suc (suc (suc zero)))) lo hi = falls_four
depth_falls (suc (suc (suc (suc (suc zero))))) lo hi = falls_five
depth_falls (suc (suc (suc (suc (suc (suc zero)))))) lo hi = falls_times 2 3 (omega arith) (omega arith) falls_two falls_three
depth_falls (suc (suc (suc (suc (suc (suc (suc zero))))))) lo hi = falls_seven
depth_falls (suc (suc (suc (suc (suc (suc (suc (suc zero)))))))) lo hi = falls_times 2 4 (omega arith) (omega arith) falls_two falls_four
depth_falls (suc (suc (suc (suc (suc (suc (suc (suc (suc k))))))))) lo hi = absurd (omega arith)

-- Onsets whose units never fall: those of two intervals that adjoin, and the early and the late of one interval, stand one after the other
-- in sheet order.
use Rattle.std.specs.Prelude.{ℕ, ◌+◌, ◌-◌, ◌*◌, ◌≤◌, ◌<◌, ◌≡◌, refl, Bool, true, false, cond, not, ◌&&◌, ◌||◌, List, [], ◌∷◌, ◌++◌, leb, ltb}
use Rattle.std.proofs.Common.{sym, ap, ◌∙◌, append-nil, arith, ltb-false, leb-true, le-leb, lt-ltb, le-ltb}
use Rattle.std.proofs.lemmas.Bool.{false≢true, lt-leb, not-true}
use Rattle.std.proofs.Math.Bool.{and-false, or-false}
use Rattle.std.proofs.lemmas.List.{append_cancel_left}
use Rattle.std.proofs.Math.Decide.{dec_lt}
use Rattle.slices.specs.Every.{Every}
use Rattle.slices.specs.Test.{and_both}
use Rattle.sheet.specs.Sheet.{Onset, Sheet}
use Rattle.sheet.specs.Good.{Rising}
use Rattle.trees.specs.ValidTrees.{whose, contains, is_early, inside, early, late}
use Rattle.trees.specs.Order.{Parts, within}

-- ---- onsets that pass a test

-- none passes
whose_none : (test : ℕ → Bool) (least : ℕ) (os : List Onset) → Rising least os → ((u : ℕ) → least ≤ u → test u ≡ false)
    → whose test os ≡ []
unfolding whose
whose_none test least [] r f = refl
whose_none test least (o ∷ os) r f = rw (f o.unit r.0) (whose_none test o.unit os r.1 (λ u h. f u (omega arith)))

-- of those that pass, those that pass a second test
pub whose_both : (first second : ℕ → Bool) (os : List Onset) → whose second (whose first os) ≡ whose (λ u. first u && second u) os
unfolding whose
whose_both first second [] = refl
whose_both first second (o ∷ os) = go (first o.unit) _ (whose_both first second os)
  where
    go : (b : Bool) (xs : List Onset) → whose second (whose first os) ≡ xs
        → whose second (cond b (o ∷ whose first os) (whose first os)) ≡ cond (b && second o.unit) (o ∷ xs) xs
    go true xs e = ap (λ x. cond (second o.unit) (o ∷ x) x) e
    go false xs e = e

whose_parts : (first second whole : ℕ → Bool) → Parts first second whole → (least : ℕ) (os : List Onset) → Rising least os
    → whose first os ++ whose second os ≡ whose whole os
unfolding whose
whose_parts first second whole p least [] r = refl
whose_parts first second whole p least (o ∷ os) r =
    rw (p.either o.unit) (go (first o.unit) (second o.unit) refl refl (whose_parts first second whole p o.unit os r.1))
  where
    go : (a b : Bool) → first o.unit ≡ a → second o.unit ≡ b → whose first os ++ whose second os ≡ whose whole os
        → cond a (o ∷ whose first os) (whose first os) ++ cond b (o ∷ whose second os) (whose second os)
        ≡ cond (a || b) (o ∷ whose whole os) (whose whole os)
    go true true e f ih = absurd (false≢true (sym (p.no_more o.unit o.unit (omega arith) f) ∙ e))
    go true false e f ih = ap (o ∷◌) ih
    go false true e f ih =
        let past : whose first os ≡ [] = whose_none first o.unit os r.1 (λ v h. p.no_more o.unit v h f) in
        rw past (ap (o ∷◌) (rw past at ih))
    go false false e f ih = ih

-- an interval in two
pub intervals : (l m r : ℕ) → l ≤ m → m ≤ r → Parts (within l m) (within m r) (within l r)
intervals l m r h k = record { either = λ u. go u (dec_lt u m); no_more = past }
  where
    go : (u : ℕ) → Dec (u < m) → within l r u ≡ (within l m u || within m r u)
    go u (yes j) = rw (lt-ltb u m j, lt-leb m u j, lt-ltb u r (omega arith)) (sym (or-false (leb l u && true)))
    go u (no j) = rw (le-ltb u m (omega arith), le-leb m u (omega arith), le-leb l u (omega arith))

    past : (u v : ℕ) → u ≤ v → within m r u ≡ true → within l m v ≡ false
    past u v j e =
        let b : m ≤ u = leb-true m u (and_both (leb m u) (ltb u r) e).0 in
        rw (le-ltb v m (omega arith)) (and-false (leb l v))

-- the early and the late of an interval
pub halves : (left len : ℕ)
    → Parts (λ u. contains left len u && is_early left len u) (λ u. contains left len u && not (is_early left len u)) (contains left len)
halves left len = record { either = λ u. go (contains left len u) (is_early left len u); no_more = past }
  where
    go : (a b : Bool) → a ≡ ((a && b) || (a && not b))
    go true true = refl
    go true false = refl
    go false b = refl

    past : (u v : ℕ) → u ≤ v → (contains left len u && not (is_early left len u)) ≡ true
        → (contains left len v && is_early left len v) ≡ false
    past u v j e =
        let t = (and_both (contains left len u) (not (is_early left len u)) e).1 in
        let b : len ≤ 2 * (u - left) = ltb-false (2 * (u - left)) len (not-true (is_early left len u) t) in
        rw (le-ltb (2 * (v - left)) len (omega arith)) (and-false (contains left len v))

-- the onsets of two intervals that adjoin are those of the two together
pub within-append : (l m r least : ℕ) (os : List Onset) → l ≤ m → m ≤ r → Rising least os
    → whose (within l m) os ++ whose (within m r) os ≡ whose (within l r) os
within-append l m r least os h k = whose_parts _ _ _ (intervals l m r h k) least os

-- an empty interval has none
pub within_none : (l least : ℕ) (os : List Onset) → Rising least os → whose (within l l) os ≡ []
within_none l least os r =
    let none = whose (within l l) os in
    append_cancel_left none none [] (within-append l l l least os (omega arith) (omega arith) r ∙ sym (append-nil none))

-- the whole piece has all
pub within_all : (end : ℕ) (os : List Onset) → Every (λ o. o.unit < end) os → whose (within 0 end) os ≡ os
unfolding whose
within_all end [] b = refl
within_all end (o ∷ os) b = rw (le-leb 0 o.unit (omega arith), lt-ltb o.unit end b.0) (ap (o ∷◌) (within_all end os b.1))

-- the early ones of an interval, then the late ones, are all that lie inside
pub early_then_late : (s : Sheet) (left len least : ℕ) → Rising least s.playing.onsets
    → early s left len ++ late s left len ≡ whose (within left (left + len)) s.playing.onsets
unfolding early late inside
early_then_late s left len least r = rw (whose_both, whose_both) (whose_parts _ _ _ (halves left len) least s.playing.onsets r)

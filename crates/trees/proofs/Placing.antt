-- Where the leaves of a forest lie and what is placed at them: leaves adjoin, the distances of placed onsets add up leaf by leaf, and each
-- onset of the sheet is placed once.
use Rattle.std.specs.Prelude.{ℕ, ◌+◌, ◌*◌, ◌/◌, ◌≤◌, ◌≡◌, refl, true, List, [], ◌∷◌, ◌++◌, length, replicate}
use Rattle.std.proofs.Common.{sym, ap, subst, append_assoc, append-nil, arith}
use Rattle.std.proofs.lemmas.List.{length-replicate}
use Rattle.sheet.specs.Sheet.{Onset, Sheet, bar_units}
use Rattle.sheet.specs.Good.{Rising, GoodOnsets}
use Rattle.derivations.specs.Derivation.{Item}
use Rattle.trees.specs.ValidTrees.{Forest, whose, early, late, adjoining, bars, may_divide, Leaf, by_leaf, by_division}
use Rattle.trees.specs.ValidTrees.{ParsedAll, empty_forest, next_tree, Entry, placed_from, carried_out, entries, ValidTree, distance_to}
use Rattle.trees.specs.ValidTrees.{distance_of}
use Rattle.trees.specs.Instance.{own_distance}
use Rattle.trees.specs.Expansions.{may_divide_lem, parts_whole}
use Rattle.trees.specs.Order.{within}
use Rattle.trees.proofs.OrderLaws.{within-append, within_none, within_all, early_then_late}

-- ---- intervals in a row

module _ {A : Type 0} (begin len : A → ℕ) where
  -- each begins where the one before ends, the first at `left`, and the last ends at `right`
  abbrev pub Adjoin : (left : ℕ) → List A → (right : ℕ) → Type 0
  Adjoin left [] right = left ≡ right
  Adjoin left (x ∷ xs) right = (begin x ≡ left) × Adjoin (left + len x) xs right

  pub adjoin_append : (a b c : ℕ) (xs ys : List A) → Adjoin a xs b → Adjoin b ys c → Adjoin a (xs ++ ys) c
  adjoin_append a b c [] ys p q = rw p q
  adjoin_append a b c (x ∷ xs) ys p q = (p.0, adjoin_append (a + len x) b c xs ys p.1 q)

  pub adjoin_le : (a b : ℕ) (xs : List A) → Adjoin a xs b → a ≤ b
  adjoin_le a b [] p = omega arith
  adjoin_le a b (x ∷ xs) p = omega (arith, adjoin_le (a + len x) b xs p.1)

abbrev pub ItemsAdjoin : (left : ℕ) → List Item → (right : ℕ) → Type 0
ItemsAdjoin = Adjoin (λ g. g.left) (λ g. g.len)

abbrev pub LeavesAdjoin : (left : ℕ) → List Leaf → (right : ℕ) → Type 0
LeavesAdjoin = Adjoin (λ l. l.left) (λ l. l.len)

pub adjoining_items : (left len : ℕ) (ks : List ℕ) → ItemsAdjoin left (adjoining left len ks) (left + length ks * len)
adjoining_items left len [] = omega arith
adjoining_items left len (k ∷ ks) =
    (refl, subst (ItemsAdjoin (left + len) (adjoining (left + len) len ks)) (omega arith) (adjoining_items (left + len) len ks))

-- the parts of a division fill its interval
pub parts_adjoin : (s : Sheet) (left len : ℕ) (ks : List ℕ) → may_divide s (length ks) left len ≡ true
    → ItemsAdjoin left (adjoining left (len / length ks) ks) (left + len)
parts_adjoin s left len ks e =
    let k = length ks in
    subst (ItemsAdjoin left (adjoining left (len / k) ks)) (ap (left +◌) (parts_whole k len (may_divide_lem s k left len e).0))
    (adjoining_items left (len / k) ks)

-- the leaves of a tree fill its item, and the leaves of a forest adjoin if its items do
pub forest_adjoins : (s : Sheet) {ts : Forest} {gs : List Item} {ls : List Leaf} → ParsedAll s ts gs ls → (left right : ℕ)
    → ItemsAdjoin left gs right → LeavesAdjoin left ls right
forest_adjoins s p =
    elim p as (λ t g ls q. LeavesAdjoin g.left ls (g.left + g.len))
    (λ ts gs ls q. (left right : ℕ) → ItemsAdjoin left gs right → LeavesAdjoin left ls right) [
      | by_leaf r h w n g e f ↦ (refl, refl)
      | by_division r h w ks g ts ls e f d (q → ih) ↦ ih g.left (g.left + g.len) (parts_adjoin s g.left g.len ks d)
      | empty_forest ↦ λ left right a. a
      | next_tree t g ls ts gs ms (q → ih) (qs → ihs) ↦ λ left right a.
          adjoin_append (λ l. l.left) (λ l. l.len) left (left + g.len) right ls ms
          (subst (λ x. LeavesAdjoin x ls (x + g.len)) a.0 ih) (ihs (left + g.len) right a.1)
    ]

-- the leaves of the bars fill the piece
pub leaves_adjoin : (s : Sheet) {ts : Forest} {ls : List Leaf} → ParsedAll s ts (bars s) ls
    → LeavesAdjoin 0 ls (s.playing.bars * bar_units)
unfolding bars
leaves_adjoin s p =
    let n = s.playing.bars in
    let ks : List ℕ = replicate n s.grammar.start in
    forest_adjoins s p 0 (n * bar_units)
    (subst (ItemsAdjoin 0 (adjoining 0 bar_units ks)) (omega (arith, length-replicate n s.grammar.start))
    (adjoining_items 0 bar_units ks))

-- ---- distances

distance_to-append : (place : ℕ) (xs ys : List Onset) → distance_to place (xs ++ ys) ≡ distance_to place xs + distance_to place ys
unfolding distance_to
distance_to-append place [] ys = omega arith
distance_to-append place (o ∷ xs) ys = omega (arith, distance_to-append place xs ys)

-- the distances of the onsets inside leaves, each counted at the leaf that it lies in
unfoldable pub own_distances : Sheet → List Leaf → ℕ
own_distances s [] = 0
own_distances s (l ∷ ls) = own_distance s l.left l.len + own_distances s ls

pub own_distances-append : (s : Sheet) (ls ms : List Leaf) → own_distances s (ls ++ ms) ≡ own_distances s ls + own_distances s ms
unfolding own_distances
own_distances-append s [] ms = omega arith
own_distances-append s (l ∷ ls) ms = omega (arith, own_distances-append s ls ms)

-- A late onset is placed at the next leaf's left bound, which is its own leaf's right bound. So the distances of what is placed, and to
-- `right` of what is carried out, are those to `left` of what is carried in and those of what lies inside.
pub distance_placed : (s : Sheet) (left right : ℕ) (cs : List Onset) (ls : List Leaf) → LeavesAdjoin left ls right
    → distance_of (placed_from s cs ls) + distance_to right (carried_out s cs ls) ≡ distance_to left cs + own_distances s ls
unfolding distance_of placed_from carried_out own_distances own_distance
distance_placed s left right cs [] a = rw a (omega arith)
distance_placed s left right cs (l ∷ ls) a =
    let out = late s l.left l.len in
    omega (
      arith,
      distance_placed s (left + l.len) right out ls a.1,
      distance_to-append l.left cs (early s l.left l.len),
      ap (λ x. distance_to x cs) a.0,
      ap (λ x. distance_to (x + l.len) out) a.0,
    )

-- of a piece with nothing carried out of its last leaf
pub distance_own : (s : Sheet) {ts : Forest} {ls : List Leaf} → ParsedAll s ts (bars s) ls → carried_out s [] ls ≡ []
    → distance_of (entries s ls) ≡ own_distances s ls
unfolding distance_to
distance_own s {ls = ls} p e =
    let end = s.playing.bars * bar_units in
    omega (arith, distance_placed s 0 end [] ls (leaves_adjoin s p), ap (distance_to end) e)

-- ---- each onset is placed once

-- the onsets placed at entries, from left to right
unfoldable pub all_placed : List Entry → List Onset
all_placed [] = []
all_placed (e ∷ es) = e.placed ++ all_placed es

-- what is carried in and what lies inside is what is placed and what is carried out, in this order
pub placed_in_order : (s : Sheet) (least left right : ℕ) (cs : List Onset) (ls : List Leaf) → Rising least s.playing.onsets
    → LeavesAdjoin left ls right
    → cs ++ whose (within left right) s.playing.onsets ≡ all_placed (placed_from s cs ls) ++ carried_out s cs ls
unfolding all_placed placed_from carried_out
placed_in_order s least left right cs [] r a = rw (a, within_none right least s.playing.onsets r) (append-nil cs)
placed_in_order s least left right cs (l ∷ ls) r a =
    rw (← split) (simp append_assoc (ap (λ xs. cs ++ (soon ++ xs)) (placed_in_order s least (left + l.len) right out ls r a.1)))
  where
    os : List Onset
    os = s.playing.onsets

    soon : List Onset
    soon = early s l.left l.len

    out : List Onset
    out = late s l.left l.len

    own : soon ++ out ≡ whose (within left (left + l.len)) os
    own = subst (λ x. soon ++ out ≡ whose (within x (x + l.len)) os) a.0 (early_then_late s l.left l.len least r)

    split : soon ++ out ++ whose (within (left + l.len) right) os ≡ whose (within left right) os
    split =
        rw own
        (within-append left (left + l.len) right least os (omega arith) (adjoin_le (λ l. l.left) (λ l. l.len) _ right ls a.1) r)

-- the onsets placed in a valid tree are the sheet's
pub each_placed_once : (s : Sheet) → GoodOnsets s.playing → (bs : List ℕ) (v : ValidTree s bs)
    → all_placed (entries s v.leaves) ≡ s.playing.onsets
each_placed_once s g bs v =
    let end = s.playing.bars * bar_units in
    let all = placed_in_order s 0 0 end [] v.leaves g.rising (leaves_adjoin s v.parsed) in
    sym (rw (within_all end s.playing.onsets g.below, v.none_carried_out, append-nil) at all)

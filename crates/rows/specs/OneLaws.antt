-- A row of parts with one onset, entered with nothing carried and an onset before it: the parts before the onset's are leaves of nothing,
-- and of those behind it the first may be a leaf of what is carried. At most one onset is carried on.
use Prim.Native.Nat.{ℕ, ◌+◌, ◌*◌, ◌≤◌, ◌<◌, min}
use Rattle.std.specs.Prelude.{◌≡◌}
use Rattle.std.proofs.Math.Path.{refl, ap}
use Rattle.std.proofs.Common.{◌∙◌, not-suc-le-zero}
use mathlib.Core.List.{List, [], ◌∷◌, ◌++◌}
use native.Mathlib.Omega.{arith}
use Rattle.std.proofs.Math.ListN.{length}
use Rattle.sheet.specs.Sheet.{Sheet}
use Rattle.sheet.specs.Good.{GoodRules}
use Rattle.derivations.specs.Derivation.{Item}
use Rattle.derivations.specs.Minima.{lowest, only, only_same}
use Rattle.derivations.specs.Folds.{Cells, forward, onward}
use Rattle.trees.specs.ValidTrees.{onsets_before, adjoining, token}
use Rattle.trees.proofs.KindLaws.{kind_before}
use Rattle.trees.specs.Instance.{onsets_in}
use Rattle.trees.specs.LeastTotal.{NONE, carries, cell_of}
use Rattle.trees.proofs.Onsets.{onsets-add, before_later}
use Rattle.trees.proofs.Laws.{adjoining-append}
use Rattle.plan.specs.Plan.{least_leaf}
use Rattle.plan.specs.PlanLaws.{least_leaf_most}
use Rattle.rows.specs.CellLaws.{cell_empty}
use Rattle.rows.specs.CarryLaws.{carry_most}

-- ---- vectors with values at carry states 0 and 1 only

pub record Two (f : ℕ → ℕ) (a b : ℕ) : Type 0 where
  pub zeroth : f 0 ≡ a
  pub first : f 1 ≡ b
  pub second : f 2 ≡ NONE
  pub third : f 3 ≡ NONE

pub two_eq : {f : ℕ → ℕ} {a b a' b' : ℕ} → a ≡ a' → b ≡ b' → Two f a b → Two f a' b'
two_eq e k t = record { zeroth = t.zeroth ∙ e; first = t.first ∙ k; second = t.second; third = t.third }

two_same : {f g : ℕ → ℕ} {a b : ℕ} → ((x : ℕ) → f x ≡ g x) → Two g a b → Two f a b
two_same e t = record { zeroth = e 0 ∙ t.zeroth; first = e 1 ∙ t.first; second = e 2 ∙ t.second; third = e 3 ∙ t.third }

-- minima over the carry states
low_two : (h : ℕ → ℕ) (a b : ℕ) → h 0 ≡ a → h 1 ≡ b → NONE ≤ h 2 → NONE ≤ h 3 → lowest NONE h 4 ≡ min NONE (min a b)
unfolding lowest
low_two h a b p q x y = omega arith

low_none : (h : ℕ → ℕ) → NONE ≤ h 0 → NONE ≤ h 1 → NONE ≤ h 2 → NONE ≤ h 3 → lowest NONE h 4 ≡ NONE
unfolding lowest
low_none h w x y z = omega arith

-- items in a row, then more of them
forward-append : (C cap : ℕ) (cell : Cells) (gs hs : List Item) (f : ℕ → ℕ) (x : ℕ)
    → forward C cap cell (gs ++ hs) f x ≡ forward C cap cell hs (forward C cap cell gs f) x
unfolding forward
forward-append C cap cell [] hs f x = refl
forward-append C cap cell (g ∷ gs) hs f x = forward-append C cap cell gs hs (onward C cap f (cell g)) x

-- the sum of the least leaves of nothing, each with an onset before it, and the same with n placed at the first
abbrev pub leaf_sum : Sheet → List ℕ → ℕ
leaf_sum s [] = 0
leaf_sum s (q ∷ qs) = least_leaf s q (token 0 1) + leaf_sum s qs

abbrev pub leaf_sum_from : Sheet → (n : ℕ) → List ℕ → ℕ
leaf_sum_from s n [] = 0
leaf_sum_from s n (q ∷ qs) = least_leaf s q (token n 1) + leaf_sum s qs

module _ (s : Sheet) (good : GoodRules s.grammar) where
  abbrev past : Item → (ℕ → ℕ) → ℕ → ℕ
  past g f = onward carries NONE f (cell_of s g)

  -- to a carry state above the number of onsets inside
  past_none : (g : Item) (f : ℕ → ℕ) (m : ℕ) → m < 4 → onsets_in s g.left g.len < m → past g f m ≡ NONE
  past_none g f m h few =
      let none : (c : ℕ) → c < 4 → cell_of s g c m ≡ NONE = λ c hc. carry_most s good g c m hc h few in
      low_none (λ c. f c + cell_of s g c m) (omega (arith, none 0 (omega arith))) (omega (arith, none 1 (omega arith)))
      (omega (arith, none 2 (omega arith))) (omega (arith, none 3 (omega arith)))

  -- over an item without an onset
  over_empty : (g : Item) (f : ℕ → ℕ) (a b : ℕ) → onsets_in s g.left g.len ≡ 0
      → 0 < onsets_before s g.left → Two f a b
      → Two (past g f) (min NONE (min (a + least_leaf s g.nonterminal (token 0 1)) (b + least_leaf s g.nonterminal (token 1 1)))) NONE
  over_empty g f a b e begun t = record {
    zeroth = low_two (λ c. f c + cell_of s g c 0) (a + least_leaf s q (token 0 1)) (b + least_leaf s q (token 1 1))
        (omega (arith, t.zeroth, leaf_cell_lem 0 (omega arith))) (omega (arith, t.first, leaf_cell_lem 1 (omega arith)))
        (omega (arith, t.second)) (omega (arith, t.third));
    first = past_none g f 1 (omega arith) (omega arith);
    second = past_none g f 2 (omega arith) (omega arith);
    third = past_none g f 3 (omega arith) (omega arith);
  }
    where
      q : ℕ
      q = g.nonterminal

      leaf_cell_lem : (c : ℕ) → c < 4 → cell_of s g c 0 ≡ least_leaf s q (token c 1)
      leaf_cell_lem c hc =
          omega (
            arith,
            cell_empty s good g c 0 hc (omega arith) e,
            ap (least_leaf s q) (kind_before c (onsets_before s g.left) begun),
            least_leaf_most s q (token c 1),
            only_same NONE 0,
          )

  -- over one with a single onset, with nothing carried
  over_one_lem : (g : Item) (f : ℕ → ℕ) (a : ℕ) → onsets_in s g.left g.len ≡ 1 → Two f a NONE
      → Two (past g f) (min NONE (a + cell_of s g 0 0)) (min NONE (a + cell_of s g 0 1))
  over_one_lem g f a e t = record {
    zeroth = to 0;
    first = to 1;
    second = past_none g f 2 (omega arith) (omega arith);
    third = past_none g f 3 (omega arith) (omega arith);
  }
    where
      to : (m : ℕ) → lowest NONE (λ c. f c + cell_of s g c m) 4 ≡ min NONE (a + cell_of s g 0 m)
      to m =
          low_two (λ c. f c + cell_of s g c m) (a + cell_of s g 0 m) (NONE + cell_of s g 1 m) (ap (◌+ cell_of s g 0 m) t.zeroth)
          (ap (◌+ cell_of s g 1 m) t.first) (omega (arith, t.second)) (omega (arith, t.third))
          ∙ omega arith

  -- over a row without an onset
  over_row : (l p : ℕ) (qs : List ℕ) (f : ℕ → ℕ) (a : ℕ) → a ≤ NONE → onsets_in s l (length qs * p) ≡ 0 → 0 < onsets_before s l
      → Two f a NONE → Two (forward carries NONE (cell_of s) (adjoining l p qs) f) (min NONE (a + leaf_sum s qs)) NONE
  unfolding forward
  over_row l p [] f a low e begun t =
      record { zeroth = omega (arith, t.zeroth); first = t.first; second = t.second; third = t.third }
  over_row l p (q ∷ qs) f a low e begun t =
      let g : Item = record { nonterminal = q; left = l; len = p } in
      let whole : onsets_in s l (p + length qs * p) ≡ 0 = ap (onsets_in s l) (omega arith) ∙ e in
      let here : onsets_in s l p ≡ 0 = omega (arith, onsets-add s l p (length qs * p)) in
      let rest : onsets_in s (l + p) (length qs * p) ≡ 0 = omega (arith, onsets-add s l p (length qs * p)) in
      let one : Two (past g f) (min NONE (a + least_leaf s q (token 0 1))) NONE =
      two_eq (omega arith) refl (over_empty g f a NONE here begun t) in
      two_eq (omega arith) refl (over_row (l + p) p qs (past g f) (min NONE (a + least_leaf s q (token 0 1))) (omega arith) rest
      (before_later s l p begun) one)

  -- behind an item that leaves a and b, over a row without an onset
  over_behind : (l p : ℕ) (qs : List ℕ) (f : ℕ → ℕ) (a b : ℕ) → 0 < length qs → onsets_in s l (length qs * p) ≡ 0
      → 0 < onsets_before s l → Two f a b
      → Two (forward carries NONE (cell_of s) (adjoining l p qs) f) (min NONE (min (a + leaf_sum_from s 0 qs) (b + leaf_sum_from s 1 qs))) NONE
  unfolding forward
  over_behind l p [] f a b some_part e begun t = absurd (not-suc-le-zero some_part)
  over_behind l p (q ∷ qs) f a b some_part e begun t =
      let g : Item = record { nonterminal = q; left = l; len = p } in
      let low = min (a + least_leaf s q (token 0 1)) (b + least_leaf s q (token 1 1)) in
      let whole : onsets_in s l (p + length qs * p) ≡ 0 = ap (onsets_in s l) (omega arith) ∙ e in
      let here : onsets_in s l p ≡ 0 = omega (arith, onsets-add s l p (length qs * p)) in
      let rest : onsets_in s (l + p) (length qs * p) ≡ 0 = omega (arith, onsets-add s l p (length qs * p)) in
      two_eq (omega arith) refl (over_row (l + p) p qs (past g f) (min NONE low) (omega arith) rest (before_later s l p begun)
      (over_empty g f a b here begun t))

  -- over a row of which the part behind those of xs has the onset
  module _ (l p k : ℕ) (xs ys : List ℕ) (begun : 0 < onsets_before s l) (before : onsets_in s l (length xs * p) ≡ 0)
      (here : onsets_in s (l + length xs * p) p ≡ 1)
      (after : onsets_in s (l + length xs * p + p) (length ys * p) ≡ 0) where
    abbrev the_one : Item
    the_one = record { nonterminal = k; left = l + length xs * p; len = p }

    abbrev whole_row : ℕ → ℕ
    whole_row = forward carries NONE (cell_of s) (adjoining l p (xs ++ (k ∷ ys))) (only NONE 0)

    up_to : ℕ → ℕ
    up_to = past the_one (forward carries NONE (cell_of s) (adjoining l p xs) (only NONE 0))

    up_to_is : Two up_to (min NONE (cell_of s the_one 0 0 + leaf_sum s xs)) (min NONE (cell_of s the_one 0 1 + leaf_sum s xs))
    unfolding up_to only
    up_to_is =
        let start : Two (only NONE 0) 0 NONE = record { zeroth = refl; first = refl; second = refl; third = refl } in
        two_eq (omega arith) (omega arith)
        (over_one_lem the_one (forward carries NONE (cell_of s) (adjoining l p xs) (only NONE 0)) (min NONE (0 + leaf_sum s xs)) here
        (over_row l p xs (only NONE 0) 0 (omega arith) before begun start))

    row_is : (m : ℕ) → whole_row m ≡ forward carries NONE (cell_of s) (adjoining (l + length xs * p + p) p ys) up_to m
    unfolding up_to forward
    row_is m =
        ap (λ gs. forward carries NONE (cell_of s) gs (only NONE 0) m) (adjoining-append l p xs (k ∷ ys))
        ∙ forward-append carries NONE (cell_of s) (adjoining l p xs) (adjoining (l + length xs * p) p (k ∷ ys)) (only NONE 0) m

    -- it is the last part
    pub one_last : length ys ≡ 0
        → Two whole_row (min NONE (cell_of s the_one 0 0 + leaf_sum s xs)) (min NONE (cell_of s the_one 0 1 + leaf_sum s xs))
    unfolding forward
    one_last e = two_same row_is (go ys e)
      where
        go : (zs : List ℕ) → length zs ≡ 0 → Two (forward carries NONE (cell_of s) (adjoining (l + length xs * p + p) p zs) up_to)
            (min NONE (cell_of s the_one 0 0 + leaf_sum s xs)) (min NONE (cell_of s the_one 0 1 + leaf_sum s xs))
        go [] k = two_same (λ m. refl) up_to_is
        go (z ∷ zs) k = let none : ⊥ = omega arith in absurd none

    -- there are parts behind it
    pub one_inner : 0 < length ys
        → Two whole_row
        (min NONE (min (cell_of s the_one 0 0 + (leaf_sum s xs + leaf_sum_from s 0 ys))
        (cell_of s the_one 0 1 + (leaf_sum s xs + leaf_sum_from s 1 ys)))) NONE
    one_inner h =
        two_same row_is
        (two_eq (omega arith) refl (over_behind (l + length xs * p + p) p ys up_to _ _ h after
        (before_later s (l + length xs * p) p (before_later s l (length xs * p) begun)) up_to_is))

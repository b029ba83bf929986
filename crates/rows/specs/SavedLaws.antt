-- What carried onsets can save, where an onset lies before. Those carried into an item are placed at its first leaf, so they change the
-- kind of that leaf alone, and save at most what they save at some leaf. Before the first onset there is no such bound: without them that
-- leaf is a rest, and there may be no rule for one. Assumes nothing.
use Prim.Native.Nat.{ℕ, zero, suc, ◌+◌, ◌/◌, ◌≤◌, ◌<◌, min}
use Rattle.std.specs.Prelude.{◌≡◌}
use Rattle.std.proofs.Math.Path.{refl, ap}
use Rattle.std.proofs.Common.{sym, ◌∙◌, ne_eqb}
use mathlib.Core.List.{List, [], ◌∷◌}
use Rattle.std.proofs.Math.Logic.{inl, inr}
use Rattle.std.proofs.Math.Option.{Option, none, some}
use Rattle.std.proofs.Math.Nat.{zero-add, le_trans, max-le}
use Rattle.std.proofs.Math.Decide.{dec_lt}
use native.Mathlib.Omega.{arith}
use Rattle.std.proofs.Math.ListN.{length}
use Rattle.slices.specs.Every.{Every, every_some}
use Rattle.sheet.specs.Sheet.{Rule, division, leaf, Sheet}
use Rattle.sheet.specs.Good.{GoodRule, GoodRules}
use Rattle.derivations.specs.Derivation.{Item, Expansion}
use Rattle.derivations.specs.Minima.{lowest, lowest_cap, only}
use Rattle.derivations.specs.Folds.{Cells, onward, forward}
use Rattle.derivations.specs.Cells.{EveryPart, depth_rec}
use Rattle.trees.specs.ValidTrees.{onsets_before, adjoining, rule_at, token}
use Rattle.trees.proofs.KindLaws.{kind_before}
use Rattle.trees.specs.Instance.{early_count, late_count, own_distance, at_division, instance_of}
use Rattle.trees.specs.LeastTotal.{NONE, carries, cell_of}
use Rattle.trees.specs.Expansions.{DivisionStep, step_of, division_expands}
use Rattle.trees.proofs.Laws.{falls}
use Rattle.trees.proofs.RoomLaws.{good_division}
use Rattle.sizes.specs.Sizes.{largest}
use Rattle.plan.specs.Leaves.{rule_count, leaf_cost, least_leaf}
use Rattle.plan.specs.Plan.{saved_at, saved_by}
use Rattle.plan.specs.PlanLaws.{least_leaf_most, token_sounds}
use Rattle.rows.specs.VectorLaws.{lowest_none}
use Rattle.rows.specs.OnsetLaws.{largest_le}
use Rattle.rows.specs.CellLaws.{leaf_total, leaf_no_division, total_by, division_by, division_total}
use Rattle.rows.specs.CellLaws.{cell_none, cell_split, total_none, total_some}

-- ---- what a carry saves

largest_under : (f : ℕ → ℕ) (n m : ℕ) → ((i : ℕ) → i < n → f i ≤ m) → largest f n ≤ m
unfolding largest
largest_under f zero m h = omega arith
largest_under f (suc n) m h = max-le (largest_under f n m (λ i k. h i (omega arith))) (h n (omega arith))

saved_under : (s : Sheet) (c m : ℕ) → ((q e : ℕ) → e < 4 → saved_at s q c e ≤ m) → saved_by s c ≤ m
unfolding saved_by
saved_under s c m h =
    largest_under (λ q. largest (saved_at s q c) 4) s.grammar.nonterminals m (λ q _. largest_under (saved_at s q c) 4 m (h q))

pub saved_most : (s : Sheet) (c : ℕ) → saved_by s c ≤ NONE
saved_most s c = saved_under s c NONE (λ q e _. omega (arith, least_leaf_most s q (token e 1)))

token_many : (n : ℕ) → 3 ≤ n → token n 1 ≡ 3
token_many zero h = let none : ⊥ = omega arith in absurd none
token_many (suc zero) h = let none : ⊥ = omega arith in absurd none
token_many (suc (suc zero)) h = let none : ⊥ = omega arith in absurd none
token_many (suc (suc (suc n))) h = refl

-- the kind of a sum is that of the sum with a kind
token_again : (c e : ℕ) → token (c + token e 1) 1 ≡ token (c + e) 1
token_again c zero = refl
token_again c (suc zero) = refl
token_again c (suc (suc zero)) = refl
token_again c (suc (suc (suc e))) = token_many (c + 3) (omega arith) ∙ sym (token_many (c + suc (suc (suc e))) (omega arith))

module _ (s : Sheet) (good : GoodRules s.grammar) where
  -- what is no nonterminal has no leaf
  no_leaf : (q n : ℕ) → s.grammar.nonterminals ≤ q → least_leaf s q n ≡ NONE
  unfolding least_leaf
  no_leaf q n h = lowest_none NONE _ (rule_count s) (λ r. go r (rule_at s r) refl)
    where
      by : (a : ℕ) (ru : Rule) → GoodRule s.grammar.nonterminals ru → NONE ≤ leaf_cost a q n (some ru)
      by a (leaf x w m) k = rw (ne_eqb x q (λ e. omega (arith, k.head))) (omega arith)
      by a (division x w ks) k = omega arith

      go : (r : ℕ) (o : Option Rule) → rule_at s r ≡ o → NONE ≤ leaf_cost s.grammar.multiplier q n o
      go r none e = omega arith
      go r (some ru) e =
          by s.grammar.multiplier ru (every_some (GoodRule s.grammar.nonterminals) s.grammar.rules r ru good.rules e)

  -- c saves no more at any leaf
  saved_most_at : (q c e : ℕ) → q < s.grammar.nonterminals → e < 4 → saved_at s q c e ≤ saved_by s c
  unfolding saved_by
  saved_most_at q c e hq he =
      le_trans (largest_le (saved_at s q c) 4 e he) (largest_le (λ p. largest (saved_at s p c) 4) s.grammar.nonterminals q hq)

  -- a leaf with an onset before it and c onsets carried in is no cheaper than with none by more than what c saves
  leaf_saved : (q c e : ℕ) → least_leaf s q (token e 1) ≤ least_leaf s q (token (c + e) 1) + saved_by s c
  leaf_saved q c e = elim (dec_lt q s.grammar.nonterminals) [
    | no k ↦ omega (arith, no_leaf q (token (c + e) 1) (omega arith), least_leaf_most s q (token e 1))
    | yes h ↦
        omega (
          arith,
          saved_most_at q c (token e 1) h (token_sounds e),
          ap (least_leaf s q) (rw (zero-add (token e 1), zero-add e) at (token_again 0 e)),
          ap (least_leaf s q) (token_again c e),
        )
  ]

-- ---- minima and folds of functions that differ by k at most

module _ (k : ℕ) where
  lowest_within : (cap : ℕ) (f g : ℕ → ℕ) (n : ℕ) → ((i : ℕ) → i < n → min cap (f i) ≤ g i + k) → lowest cap f n ≤ lowest cap g n + k
  unfolding lowest
  lowest_within cap f g zero h = omega arith
  lowest_within cap f g (suc n) h =
      omega (arith, h n (omega arith), lowest_cap cap f n, lowest_within cap f g n (λ i b. h i (omega arith)))

  forward_within : (cell : Cells) (gs : List Item) (f g : ℕ → ℕ) → ((x : ℕ) → x < 4 → f x ≤ g x + k) → (x : ℕ) → x < 4
      → forward carries NONE cell gs f x ≤ forward carries NONE cell gs g x + k
  unfolding forward
  forward_within cell [] f g h x b = h x b
  forward_within cell (a ∷ gs) f g h x b =
      forward_within cell gs (onward carries NONE f (cell a)) (onward carries NONE g (cell a))
      (λ y _. lowest_within NONE (λ m. f m + cell a m y) (λ m. g m + cell a m y) carries (λ m hm. omega (arith, h m hm))) x b

-- one item, entered with c alone: its cell from c
onward_only : (y : ℕ → ℕ) → ((m : ℕ) → y m ≤ NONE) → (c : ℕ) → c < 4 → lowest NONE (λ m. only NONE c m + y m) carries ≡ y c
unfolding lowest only
onward_only y low zero h = omega (arith, low 0)
onward_only y low (suc zero) h = omega (arith, low 1)
onward_only y low (suc (suc zero)) h = omega (arith, low 2)
onward_only y low (suc (suc (suc zero))) h = omega (arith, low 3)
onward_only y low (suc (suc (suc (suc c)))) h = let no_more : ⊥ = omega arith in absurd no_more

-- ---- what a carry saves of a cell

leaf_within : (a b d l k : ℕ) → a ≤ b + k → min NONE (a + d + l) ≤ min NONE (b + d + l) + k
leaf_within a b d l k h = omega arith

module _ (s : Sheet) (good : GoodRules s.grammar) (c : ℕ) (few : c < 4) where
  abbrev Saved : Item → Type 0
  Saved g = 0 < onsets_before s g.left → (m : ℕ) → m < 4 → cell_of s g 0 m ≤ cell_of s g c m + saved_by s c

  leaf_total_saved : (g : Item) → 0 < onsets_before s g.left → (m : ℕ) → leaf_total s g 0 m ≤ leaf_total s g c m + saved_by s c
  unfolding leaf_total
  leaf_total_saved g begun m =
      let early = early_count s g.left g.len in
      let before = onsets_before s g.left in
      leaf_within (least_leaf s g.nonterminal (token (0 + early) before)) (least_leaf s g.nonterminal (token (c + early) before))
      (own_distance s g.left g.len) (only NONE (late_count s g.left g.len) m) (saved_by s c)
      (rw (kind_before (0 + early) before begun, kind_before (c + early) before begun, zero-add early)
      (leaf_saved s good g.nonterminal c early))

  -- the parts of a division: the carry goes into the first, which has the left bound of the whole
  parts_saved : (l p : ℕ) (qs : List ℕ) → 2 ≤ length qs → 0 < onsets_before s l → Every Saved (adjoining l p qs) → (m : ℕ) → m < 4
      → forward carries NONE (cell_of s) (adjoining l p qs) (only NONE 0) m
      ≤ forward carries NONE (cell_of s) (adjoining l p qs) (only NONE c) m + saved_by s c
  unfolding forward
  parts_saved l p [] h begun saved m b = let no_more : ⊥ = omega arith in absurd no_more
  parts_saved l p (q ∷ qs) h begun (first, _) m b =
      let g : Item = record { nonterminal = q; left = l; len = p } in
      forward_within (saved_by s c) (cell_of s) (adjoining (l + p) p qs) (onward carries NONE (only NONE 0) (cell_of s g))
      (onward carries NONE (only NONE c) (cell_of s g)) (λ x hx. omega (
        arith,
        first begun x hx,
        onward_only (λ i. cell_of s g i x) (λ i. cell_none s g i x) 0 (omega arith),
        onward_only (λ i. cell_of s g i x) (λ i. cell_none s g i x) c few,
      ))
      m b

  -- a division that is made from c is made from 0, with the same parts
  module _ (g : Item) (begun : 0 < onsets_before s g.left) (parts : EveryPart (instance_of s) Saved g) (m : ℕ) (hm : m < 4) (r : ℕ) where
    abbrev Within : ℕ → ℕ → Type 0
    Within x y = min NONE x ≤ y + saved_by s c

    from_both : (x : Expansion) → (instance_of s).expand g c r ≡ some x → DivisionStep s g c r x
        → total_by s g 0 m r ≤ total_by s g c m r + saved_by s c
    unfolding at_division
    from_both x e d =
        let ks : List ℕ = d.kids in
        let is : (instance_of s).expand g c r ≡ some (at_division g c ks) = e ∙ ap some d.is in
        let from-none = division_expands s g 0 r (at_division g 0 ks)
        (record { weight = d.weight; kids = ks; rule = d.rule; allowed = d.allowed; is = refl }) in
        omega (
          arith,
          total_some s g c m r (at_division g c ks) is,
          total_some s g 0 m r (at_division g 0 ks) from-none,
          parts_saved g.left (g.len / length ks) ks (good_division s good r g.nonterminal d.weight ks d.rule).two begun
              (parts c r (at_division g c ks) is) m hm,
        )

    division_saved : Within (division_total s g 0 m r) (division_total s g c m r)
    unfolding division_total
    division_saved = go (rule_at s r) refl
      where
        by : (h w : ℕ) (ks : List ℕ) → rule_at s r ≡ some (division h w ks) → (o : Option Expansion) → (instance_of s).expand g c r ≡ o
            → Within (total_by s g 0 m r) (total_by s g c m r)
        by h w ks e none k = omega (arith, total_none s g c m r k)
        by h w ks e (some x) k = elim (step_of s g c r x k) [
          | inl l ↦ absurd (leaf_no_division (sym l.rule ∙ e))
          | inr d ↦ omega (arith, from_both x k d)
        ]

        go : (o : Option Rule) → rule_at s r ≡ o → Within (division_by o (total_by s g 0 m r)) (division_by o (total_by s g c m r))
        go none e = omega arith
        go (some (leaf h w n)) e = omega arith
        go (some (division h w ks)) e = by h w ks e ((instance_of s).expand g c r) refl

  -- with an onset before the item, its cell from c is no cheaper than that from 0 by more than what c saves
  pub cell_saved : (g : Item) → 0 < onsets_before s g.left → (m : ℕ) → m < 4 → cell_of s g 0 m ≤ cell_of s g c m + saved_by s c
  cell_saved g = depth_rec (instance_of s) (λ g. g.len) (falls s good) (λ _. Saved) step (suc g.len) g (omega arith)
    where
      step : (d : ℕ) (g : Item) → EveryPart (instance_of s) Saved g → Saved g
      step d g parts begun m hm =
          omega (
            arith,
            cell_split s good g 0 m (omega arith) hm,
            cell_split s good g c m few hm,
            leaf_total_saved g begun m,
            lowest_within (saved_by s c) NONE (division_total s g 0 m) (division_total s g c m) (rule_count s)
                (λ r _. division_saved g begun parts m hm r),
          )

-- Carry states that no least list passes: where carrying nothing is cheaper by more than all that a carry can save, with an onset before.
-- Leaving them out of the vector behind an item changes no first least list.
use Prim.Native.Nat.{ℕ, ◌+◌, ◌≤◌, ◌<◌}
use Rattle.std.specs.Prelude.{◌≡◌, List, [], ◌∷◌, ◌⊎◌}
use Rattle.std.proofs.Math.Path.{refl}
use Rattle.std.proofs.Common.{inl, inr}
use Rattle.std.proofs.Math.Decide.{dec_lt}
use native.Mathlib.Omega.{arith}
use Rattle.sheet.specs.Sheet.{Sheet}
use Rattle.sheet.specs.Good.{GoodRules}
use Rattle.derivations.specs.Derivation.{Item}
use Rattle.derivations.specs.Minima.{lowest, lowest_cap, lowest_le, lowest_at}
use Rattle.derivations.specs.Folds.{backward}
use Rattle.derivations.specs.Interchange.{Interchangeable, interchangeable_item}
use Rattle.trees.specs.ValidTrees.{onsets_before}
use Rattle.trees.specs.Instance.{instance_of}
use Rattle.trees.specs.LeastTotal.{NONE, carries, cell_of}
use Rattle.trees.proofs.Laws.{lawful}
use Rattle.trees.proofs.Found.{cells_least}
use Rattle.plan.specs.Plan.{saved_by}
use Rattle.rows.specs.SavedLaws.{cell_saved}
use Rattle.rows.specs.IdleLaws.{Idle}
use Rattle.building.specs.Clauses.{at, suffix_costs, Dominated, SuffixCosts}

module _ (s : Sheet) (good : GoodRules s.grammar) where
  -- with an item in front nothing is above the cap
  pub suffix_low : (g : Item) (gs : List Item) (v : ℕ → ℕ) (c : ℕ) → suffix_costs s (g ∷ gs) v c ≤ NONE
  unfolding backward
  suffix_low g gs v c = lowest_cap NONE _ carries

  -- with an onset before them, items total from carry state 0 at most what they total from c, and what c can save
  pub suffix_saved : (g : Item) (gs : List Item) (v : ℕ → ℕ) (c : ℕ) → c < carries → 0 < onsets_before s g.left
      → suffix_costs s (g ∷ gs) v 0 ≤ suffix_costs s (g ∷ gs) v c + saved_by s c
  unfolding backward
  suffix_saved g gs v c hc begun = elim (dec_lt (suffix_costs s (g ∷ gs) v c) NONE) [
    | yes h ↦
        let u : ℕ → ℕ = suffix_costs s gs v in
        let (m, hm, e) = lowest_at NONE (λ i. cell_of s g c i + u i) carries h in
        omega (arith, e, lowest_le NONE (λ i. cell_of s g 0 i + u i) carries m hm, cell_saved s good c hc g begun m hm)
    | no h ↦ omega (arith, suffix_low g gs v 0)
  ]

  -- so no least list passes an idle carry state
  pub idle_dominated : (g : Item) (gs : List Item) (y v : ℕ → ℕ) (c : ℕ) → c < carries → Idle s (onsets_before s g.left) y c
      → Dominated s (g ∷ gs) y v c
  idle_dominated g gs y v c hc (inl h) = inl h
  idle_dominated g gs y v c hc (inr (_, begun, h)) = inr (omega (arith, suffix_saved g gs v c hc begun))

  -- an item with the totals y, and the vector w that stands for what is behind it
  module _ (g : Item) {rows : List ℕ} {gs : List Item} {y v w : List ℕ} (c : ℕ) (hc : c < carries)
      (row : (m : ℕ) → m < carries → at y m ≡ cell_of s g c m) (b : SuffixCosts s rows gs y v w) (reached : suffix_costs s (g ∷ gs)
      (at v) c < NONE) where
    abbrev goal : ℕ
    goal = suffix_costs s (g ∷ gs) (at v) c

    abbrev u : ℕ → ℕ
    u = suffix_costs s gs (at v)

    goal_is : goal ≡ lowest NONE (λ m. cell_of s g c m + u m) carries
    unfolding backward
    goal_is = refl

    pub interchangeable_suffix : Interchangeable (instance_of s) s.grammar.multiplier (g ∷ []) u (at w) c goal
    interchangeable_suffix = interchangeable_item (lawful s) s.grammar.multiplier NONE (cell_of s) (cells_least s good) g u
        (at w) c goal hc goal_is reached apart
      where
        apart : (m : ℕ) → m < carries → (at w m ≡ u m) ⊎ ((goal < cell_of s g c m + u m) × (goal < cell_of s g c m + at w m))
        apart m hm = go (b.each m hm)
          where
            go : (at w m ≡ u m) ⊎ (Dominated s gs (at y) (at v) m × (NONE ≤ at w m))
                → (at w m ≡ u m) ⊎ ((goal < cell_of s g c m + u m) × (goal < cell_of s g c m + at w m))
            go (inl e) = inl e
            go (inr (inl h, k)) = inr (omega (arith, row m hm), omega arith)
            go (inr (inr h, k)) = inr (
              omega (arith, row m hm, row 0 (omega arith), goal_is, lowest_le NONE (λ i. cell_of s g c i + u i) carries 0 (omega arith)),
              omega arith,
            )

    -- and the item's least total with w behind it is the same
    pub interchangeable_reached : suffix_costs s (g ∷ []) (at w) c < NONE
    unfolding backward
    interchangeable_reached = go (lowest_at NONE (λ m. cell_of s g c m + u m) carries (omega (arith, goal_is)))
      where
        go : (m : ℕ) × (m < carries) × (lowest NONE (λ i. cell_of s g c i + u i) carries ≡ cell_of s g c m + u m)
            → lowest NONE (λ m. cell_of s g c m + at w m) carries < NONE
        go (m, hm, e) = by (b.each m hm)
          where
            by : (at w m ≡ u m) ⊎ (Dominated s gs (at y) (at v) m × (NONE ≤ at w m))
                → lowest NONE (λ m. cell_of s g c m + at w m) carries < NONE
            by (inl k) = omega (arith, k, e, goal_is, lowest_le NONE (λ i. cell_of s g c i + at w i) carries m hm)
            by (inr (inl h, k)) = absurd (omega (arith, e, goal_is, row m hm))
            by (inr (inr h, k)) = absurd (omega (
              arith,
              e,
              goal_is,
              row m hm,
              row 0 (omega arith),
              lowest_le NONE (λ i. cell_of s g c i + u i) carries 0 (omega arith),
            ))

-- The exact cells as a function, where a rank falls from each item to its parts: an item's cell is the least over its rules, from the cells
-- of the parts. First by a depth, and then free of any depth.
use Rattle.std.specs.Prelude.{ℕ, zero, suc, ◌≤◌, ◌<◌, ◌≡◌, [], ◌∷◌}
use Rattle.std.proofs.Math.Option.{some}
use Rattle.std.proofs.Common.{not-suc-le-zero, arith}
use Rattle.slices.specs.Every.{Every, every_weaken, every_all}
use Rattle.derivations.specs.Derivation.{Item, Expansion, Instance, Lawful}
use Rattle.derivations.specs.Minima.{lowest, lowest_cap, only}
use Rattle.derivations.specs.Least.{least_same}
use Rattle.derivations.specs.Folds.{Cells, rule_total, rules_least, forward, Exact, parts_least}

-- a property of every part of each expansion of an item
abbrev pub EveryPart : Instance → (Item → Type 0) → Item → Type 0
EveryPart P X g = (c r : ℕ) (m : Expansion) → P.expand g c r ≡ some m → Every X m.parts

-- the rank falls from each item to its parts
abbrev pub Falls : Instance → (Item → ℕ) → Type 0
Falls P rank = (g : Item) → EveryPart P (λ h. rank h < rank g) g

-- Induction on items by depth: what an item has at depth d + 1 if its parts have it at depth d, it has at each depth above its rank.
pub depth_rec : (P : Instance) (rank : Item → ℕ) → Falls P rank → (X : ℕ → Item → Type 0)
    → ((d : ℕ) (g : Item) → EveryPart P (X d) g → X (suc d) g) → (d : ℕ) (g : Item) → rank g < d → X d g
depth_rec P rank falls X step zero g h = absurd (not-suc-le-zero h)
depth_rec P rank falls X step (suc d) g h =
    step d g (λ c r m e. every_weaken (λ x. rank x < rank g) (X d) (λ x k. depth_rec P rank falls X step d x (omega arith)) m.parts
    (falls g c r m e))

module _ (P : Instance) (a cap C : ℕ) where
  -- a cell of g from the cells of the parts: the least over the rules, by the forward fold from the rule's carry state to m
  abbrev pub cell_from : Cells → Cells
  cell_from cell g c m = lowest cap (rule_total P a cap (λ parts k. forward C cap cell parts (only cap k) m) g c) P.count

  -- the cells by depth
  unfoldable pub cell_to : ℕ → Cells
  cell_to zero g c m = cap
  cell_to (suc d) g c m = cell_from (cell_to d) g c m

  -- the cells of an item, at a depth that its rank gives
  abbrev pub cell : (Item → ℕ) → Cells
  cell rank g = cell_to (suc (rank g)) g

  pub cell_cap : (rank : Item → ℕ) (g : Item) (c m : ℕ) → cell rank g c m ≤ cap
  unfolding cell_to
  cell_cap rank g c m = lowest_cap cap _ P.count

module _ {P : Instance} {C : ℕ} (L : Lawful P C) (a cap : ℕ) where
  pub cell_from_exact : (old : Cells) (g : Item) → EveryPart P (Exact P a cap C old) g → Exact P a cap C (cell_from P a cap C old) g
  cell_from_exact old g parts c m hc hm =
      rules_least L a cap (λ parts k. forward C cap old parts (only cap k) m) g (only cap m) c
      (λ r n e. parts_least L a cap old n.parts n.carry m (L.fits g c r n hc e) hm (parts c r n e))

  module _ (rank : Item → ℕ) (falls : Falls P rank) where
    -- the cells at depth d are exact for each item whose rank is below d
    pub cell_to_exact : (d : ℕ) (g : Item) → rank g < d → Exact P a cap C (cell_to P a cap C d) g
    unfolding cell_to
    cell_to_exact = depth_rec P rank falls (λ d. Exact P a cap C (cell_to P a cap C d)) (λ d. cell_from_exact (cell_to P a cap C d))

    pub cell_exact : (g : Item) → Exact P a cap C (cell P a cap C rank) g
    cell_exact g = cell_to_exact (suc (rank g)) g (omega arith)

    -- a cell comes of the cells of the parts
    pub cell_step : (g : Item) (c m : ℕ) → c < C → m < C → cell P a cap C rank g c m ≡ cell_from P a cap C (cell P a cap C rank) g c m
    cell_step g c m hc hm =
        let old : Cells = cell P a cap C rank in
        least_same P a cap (g ∷ []) (only cap m) c (old g c m) (cell_from P a cap C old g c m) (cell_exact g c m hc hm)
        (cell_from_exact old g (λ c r n e. every_all (Exact P a cap C old) cell_exact n.parts) c m hc hm) (cell_cap P a cap C rank g c m)
        (lowest_cap cap _ P.count)

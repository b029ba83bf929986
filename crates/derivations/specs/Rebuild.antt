-- Rebuilding the first least list from exact cells: at an item the first rule that comes to least by the backward fold, then its parts from
-- left to right, each with the backward fold of the items after it behind it.
use Prim.Native.Nat.{ℕ, suc, ◌+◌, ◌*◌, ◌<◌}
use Rattle.std.specs.Prelude.{◌≡◌}
use Rattle.std.proofs.Math.Path.{refl}
use mathlib.Core.List.{List, [], ◌∷◌, ◌++◌, append-nil}
use Rattle.std.proofs.Math.Option.{Option, none, some}
use Rattle.std.proofs.Common.{arith}
use Rattle.slices.specs.Every.{Every, every_all}
use Rattle.derivations.specs.Derivation.{Item, Expansion, Price, Instance, Lawful, unspent, price_of, ◌⊞◌}
use Rattle.derivations.specs.Minima.{lowest, lowest_cap, FirstPlace, lowest_first}
use Rattle.derivations.specs.Least.{Least, least_same, carry_fits}
use Rattle.derivations.specs.First.{First, first_nil, first_total, first-append, first_rule}
use Rattle.derivations.specs.Folds.{Cells, via, rule_total, LeastParts, rule_opening, rules_least}
use Rattle.derivations.specs.Folds.{backward, Exact, backward_least}
use Rattle.derivations.specs.Cells.{Falls, EveryPart, depth_rec, cell, cell_exact}

-- there is a first least list
abbrev pub Rebuilt : Instance → ℕ → List Item → (ℕ → ℕ) → ℕ → Type 0
Rebuilt P a gs v c = (bs : List ℕ) × (p : Price) × First P a gs v c bs p

-- an item alone has one wherever its least total is below the cap
abbrev pub RebuiltItem : (P : Instance) (a cap C : ℕ) → Item → Type 0
RebuiltItem P a cap C g = (v : ℕ → ℕ) (c u : ℕ) → c < C → Least P a cap (g ∷ []) v c u → u < cap → Rebuilt P a (g ∷ []) v c

module _ {P : Instance} {C : ℕ} (L : Lawful P C) (a cap : ℕ) (cell : Cells) (exact : (g : Item) → Exact P a cap C cell g) where
  -- the backward fold is least
  row_least : (gs : List Item) (v : ℕ → ℕ) (c : ℕ) → c < C → Least P a cap gs v c (backward C cap cell gs v c)
  row_least gs v c = backward_least L a cap cell gs v c (every_all (Exact P a cap C cell) exact gs)

  -- parts by the backward fold, with the vector v behind them; and what rule r then totals at an item
  abbrev rest : (ℕ → ℕ) → List Item → ℕ → ℕ
  rest v parts = backward C cap cell parts v

  abbrev pub rest_total : Item → (ℕ → ℕ) → ℕ → ℕ → ℕ
  rest_total g v c = rule_total P a cap (rest v) g c

  rest_least : (g : Item) (v : ℕ → ℕ) (c : ℕ) → c < C → (r : ℕ) → LeastParts P a cap (rest v) g v c r
  rest_least g v c hc r m e = row_least m.parts v m.carry (L.fits g c r m hc e)

  -- the least over the rules is the backward fold over the item
  pub rules_backward : (g : Item) (v : ℕ → ℕ) (c : ℕ) → c < C → lowest cap (rest_total g v c) P.count ≡ backward C cap cell (g ∷ []) v c
  unfolding backward
  rules_backward g v c hc =
      least_same P a cap (g ∷ []) v c _ _ (rules_least L a cap (rest v) g v c (rest_least g v c hc)) (row_least (g ∷ []) v c hc)
      (lowest_cap cap _ P.count) (lowest_cap cap _ C)

  -- behind a first list the vector is below the cap where the whole is
  pub suffix_below : (g : Item) (gs : List Item) (v : ℕ → ℕ) (c : ℕ) (b : List ℕ) (p : Price) → c < C
      → backward C cap cell (g ∷ gs) v c < cap
      → First P a (g ∷ []) (backward C cap cell gs v) c b p → backward C cap cell gs v p.carry < cap
  unfolding backward
  suffix_below g gs v c b p hc h f =
      let u : ℕ → ℕ = backward C cap cell gs v in
      let s : ℕ = backward C cap cell (g ∷ gs) v c in
      omega (arith, first_total P a cap (g ∷ []) u c s b p (row_least (g ∷ []) u c hc) h f)

  -- an item, and then the items behind it: the first for the item, with the backward fold of those behind it, and then the first for them
  pub first_next : (g : Item) (gs : List Item) (v : ℕ → ℕ) (c : ℕ) (b₁ b₂ : List ℕ) (p₁ p₂ : Price) → c < C
      → backward C cap cell (g ∷ gs) v c < cap → First P a (g ∷ []) (backward C cap cell gs v) c b₁ p₁ → First P a gs v p₁.carry b₂ p₂
      → First P a (g ∷ gs) v c (b₁ ++ b₂) (p₁ ⊞ p₂)
  first_next g gs v c b₁ b₂ p₁ p₂ hc h f₁ f₂ =
      first-append L a cap (g ∷ []) gs v (backward C cap cell gs v) c b₁ b₂ p₁ p₂ hc (row_least gs v)
      (suffix_below g gs v c b₁ p₁ hc h f₁) f₁
      f₂

  -- an item, by the first rule that comes to least, and then the first for its parts
  pub first_chosen : (g : Item) (v : ℕ → ℕ) (c r : ℕ) → c < C → FirstPlace (rest_total g v c) P.count r → rest_total g v c r < cap
      → (m : Expansion) (bs : List ℕ) (p : Price) → P.expand g c r ≡ some m → First P a m.parts v m.carry bs p
      → First P a (g ∷ []) v c (r ∷ bs) (price_of (P.weight r) m ⊞ p)
  first_chosen g v c r hc place ht m bs p e f =
      first_rule L a cap g [] v c (rest_total g v c) (λ i _. rule_opening P a cap (rest v) g v c i (rest_least g v c hc i)) r place ht m bs
      p e
      (rw append-nil f)

  -- items in a row, each with what follows it in the vector behind it
  pub rebuilt_row : (gs : List Item) → Every (RebuiltItem P a cap C) gs → (v : ℕ → ℕ) (c : ℕ) → c < C → backward C cap cell gs v c < cap
      → Rebuilt P a gs v c
  unfolding backward
  rebuilt_row [] items v c hc h = ([], unspent c, first_nil P a v c)
  rebuilt_row (g ∷ gs) (item, items) v c hc h =
      let u : ℕ → ℕ = backward C cap cell gs v in
      let s : ℕ = backward C cap cell (g ∷ gs) v c in
      let (b₁, p₁, f₁) = item u c s hc (row_least (g ∷ []) u c hc) h in
      let h₁ = carry_fits L b₁ (g ∷ []) c p₁ f₁.reads hc in
      let (b₂, p₂, f₂) = rebuilt_row gs items v p₁.carry h₁ (suffix_below g gs v c b₁ p₁ hc h f₁) in
      (b₁ ++ b₂, p₁ ⊞ p₂, first_next g gs v c b₁ b₂ p₁ p₂ hc h f₁ f₂)

  -- an item: the first rule that comes to least, and then its parts
  pub rebuilt_one : (g : Item) → EveryPart P (RebuiltItem P a cap C) g → RebuiltItem P a cap C g
  unfolding via
  rebuilt_one g items v c u hc l h =
      let (r, place, e) = lowest_first cap (rest_total g v c) P.count low in
      by r place (omega (arith, low)) (P.expand g c r) refl
    where
      low : lowest cap (rest_total g v c) P.count < cap
      low =
          let (bs, p, hd, e) = l.attained h in
          omega (arith, (rules_least L a cap (rest v) g v c (rest_least g v c hc)).below bs p hd)

      by : (r : ℕ) → FirstPlace (rest_total g v c) P.count r → rest_total g v c r < cap → (o : Option Expansion) → P.expand g c r ≡ o
          → Rebuilt P a (g ∷ []) v c
      by r place ht none e = absurd (omega (arith, rw e at ht))
      by r place ht (some m) e =
          let h' : a * P.weight r + m.distance + backward C cap cell m.parts v m.carry < cap = rw e at ht in
          let (bs, p, fp) = rebuilt_row m.parts (items c r m e) v m.carry (L.fits g c r m hc e) (omega arith) in
          (r ∷ bs, price_of (P.weight r) m ⊞ p, first_chosen g v c r hc place ht m bs p e fp)

  -- every item, where a rank falls
  pub rebuilt : (rank : Item → ℕ) → Falls P rank → (g : Item) → RebuiltItem P a cap C g
  rebuilt rank falls g = depth_rec P rank falls (λ d. RebuiltItem P a cap C) (λ d. rebuilt_one) (suc (rank g)) g (omega arith)

-- Wherever the backward fold over the exact cells is below the cap, there is a first least list.
pub first_exists : {P : Instance} {C : ℕ} → Lawful P C → (a cap : ℕ) (rank : Item → ℕ) → Falls P rank → (gs : List Item) (v : ℕ → ℕ)
    (c : ℕ) → c < C → backward C cap (cell P a cap C rank) gs v c < cap → Rebuilt P a gs v c
first_exists {P = P} {C = C} L a cap rank falls gs =
    let exact = cell_exact L a cap rank falls in
    rebuilt_row L a cap (cell P a cap C rank) exact gs
    (every_all (RebuiltItem P a cap C) (rebuilt L a cap (cell P a cap C rank) exact rank falls) gs)

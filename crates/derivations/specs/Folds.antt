-- Least totals from a table with a cell for each item, carry state in and carry state out: what a rule totals at an item, and the backward
-- and the forward fold over the items of its parts. Each is least where the cells are.
use Rattle.std.specs.Prelude.{ℕ, ◌+◌, ◌*◌, ◌<◌, ◌≡◌, refl}
use Rattle.std.proofs.Math.Path.{subst}
use mathlib.Core.List.{List, [], ◌∷◌, ◌++◌, append-nil, append_assoc}
use Rattle.std.proofs.Math.Option.{Option, none, some}
use Rattle.std.proofs.Common.{arith}
use Rattle.slices.specs.Every.{Every}
use Rattle.derivations.specs.Derivation.{Item, Expansion, Instance, Lawful}
use Rattle.derivations.specs.Minima.{lowest, only, only_sym}
use Rattle.derivations.specs.Least.{Least, Opening, least_nil, least_rule, least_append}

-- by item, carry state in and carry state out
abbrev pub Cells : Type 0
Cells = Item → ℕ → ℕ → ℕ

-- ---- a rule at an item

-- what a rule comes to that adds w and makes the expansion given, or none, where `rest` says what parts come to from a carry state
unfoldable pub via : (rest : List Item → ℕ → ℕ) (cap w : ℕ) → Option Expansion → ℕ
via rest cap w none = cap
via rest cap w (some m) = w + m.distance + rest m.parts m.carry

-- what rule r comes to at item g from carry state c
abbrev pub rule_total : (P : Instance) (a cap : ℕ) (rest : List Item → ℕ → ℕ) → Item → ℕ → ℕ → ℕ
rule_total P a cap rest g c r = via rest cap (a * P.weight r) (P.expand g c r)

module _ (P : Instance) (a cap : ℕ) where
  -- `rest` is least at the parts of rule r at item g from c, with the vector v behind them
  abbrev pub LeastParts : (List Item → ℕ → ℕ) → Item → (ℕ → ℕ) → ℕ → ℕ → Type 0
  LeastParts rest g v c r =
      (m : Expansion) → P.expand g c r ≡ some m → Least P a cap m.parts v m.carry (rest m.parts m.carry)

  pub rule_opening : (rest : List Item → ℕ → ℕ) (g : Item) (v : ℕ → ℕ) (c r : ℕ) → LeastParts rest g v c r
      → Opening P a cap g [] v c r (rule_total P a cap rest g c r)
  unfolding via
  rule_opening rest g v c r least = record {
    unexpanded = λ e. rw e (omega arith);
    expanded = λ m e. (rest m.parts m.carry, rw append-nil (least m e), rw e);
  }

-- an item alone: the least over the rules
pub rules_least : {P : Instance} {C : ℕ} → Lawful P C → (a cap : ℕ) (rest : List Item → ℕ → ℕ) (g : Item) (v : ℕ → ℕ) (c : ℕ)
    → ((r : ℕ) → LeastParts P a cap rest g v c r) → Least P a cap (g ∷ []) v c (lowest cap (rule_total P a cap rest g c) P.count)
rules_least {P = P} L a cap rest g v c least =
    least_rule L a cap g [] v c (rule_total P a cap rest g c) (λ r _. rule_opening P a cap rest g v c r (least r))

-- ---- items in a row

-- from right to left: what the items come to, entered with carry state c, with the vector v behind them
unfoldable pub backward : (C cap : ℕ) → Cells → List Item → (ℕ → ℕ) → ℕ → ℕ
backward C cap cell [] v c = v c
backward C cap cell (g ∷ gs) v c = lowest cap (λ m. cell g c m + backward C cap cell gs v m) C

-- the vector f by carry state, taken over one item: `row` has its cells
abbrev pub onward : (C cap : ℕ) → (ℕ → ℕ) → (ℕ → ℕ → ℕ) → ℕ → ℕ
onward C cap f row x = lowest cap (λ m. f m + row m x) C

-- from left to right: the vector f, taken over the items
unfoldable pub forward : (C cap : ℕ) → Cells → List Item → (ℕ → ℕ) → ℕ → ℕ
forward C cap cell [] f x = f x
forward C cap cell (g ∷ gs) f x = forward C cap cell gs (onward C cap f (cell g)) x

pub forward_snoc : (C cap : ℕ) (cell : Cells) (gs : List Item) (g : Item) (f : ℕ → ℕ) (x : ℕ)
    → forward C cap cell (gs ++ (g ∷ [])) f x ≡ onward C cap (forward C cap cell gs f) (cell g) x
unfolding forward
forward_snoc C cap cell [] g f x = refl
forward_snoc C cap cell (h ∷ gs) g f x = forward_snoc C cap cell gs g (onward C cap f (cell h)) x

-- the cells of g are the least totals of g
abbrev pub Exact : (P : Instance) (a cap C : ℕ) → Cells → Item → Type 0
Exact P a cap C cell g = (c m : ℕ) → c < C → m < C → Least P a cap (g ∷ []) (only cap m) c (cell g c m)

module _ {P : Instance} {C : ℕ} (L : Lawful P C) (a cap : ℕ) where
  pub backward_least : (cell : Cells) (gs : List Item) (v : ℕ → ℕ) (c : ℕ) → Every (Exact P a cap C cell) gs → c < C
      → Least P a cap gs v c (backward C cap cell gs v c)
  unfolding backward
  backward_least cell [] v c ok hc = least_nil P a cap v c
  backward_least cell (g ∷ gs) v c (one, ok) hc =
      least_append L a cap (g ∷ []) gs v c (cell g c) (backward C cap cell gs v) hc (λ m. one c m hc) (λ m. backward_least cell gs v m ok)

  -- with items g₀ before, of which the vector f has the least totals
  pub forward_least : (cell : Cells) (gs g₀ : List Item) (f : ℕ → ℕ) (c : ℕ) → c < C → Every (Exact P a cap C cell) gs
      → ((m : ℕ) → m < C → Least P a cap g₀ (only cap m) c (f m)) → (m : ℕ) → m < C
      → Least P a cap (g₀ ++ gs) (only cap m) c (forward C cap cell gs f m)
  unfolding forward
  forward_least cell [] g₀ f c hc ok h m hm = rw append-nil (h m hm)
  forward_least cell (g ∷ gs) g₀ f c hc (one, ok) h m hm =
      subst (λ zs. Least P a cap zs (only cap m) c (forward C cap cell gs (onward C cap f (cell g)) m)) (append_assoc g₀ (g ∷ []) gs)
      (forward_least cell gs (g₀ ++ (g ∷ [])) (onward C cap f (cell g)) c hc ok
      (λ x hx. least_append L a cap g₀ (g ∷ []) (only cap x) c f (λ y. cell g y x) hc h (λ y hy. one y x hy hx)) m hm)

  -- from carry state c to carry state m
  pub parts_least : (cell : Cells) (gs : List Item) (c m : ℕ) → c < C → m < C → Every (Exact P a cap C cell) gs
      → Least P a cap gs (only cap m) c (forward C cap cell gs (only cap c) m)
  parts_least cell gs c m hc hm ok =
      forward_least cell gs [] (only cap c) c hc ok (λ x hx. rw (only_sym cap c x) (least_nil P a cap (only cap x) c)) m hm

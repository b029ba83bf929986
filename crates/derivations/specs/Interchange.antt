-- Interchangeable suffix costs behind some items: where two vectors of them differ, no list that comes there is least with either. So the
-- first least list with the one is the first least list with the other, and a search may leave out what no least list passes. And the least
-- total over items that are cut in two.
use Rattle.std.specs.Prelude.{ℕ, ◌+◌, ◌*◌, ◌≤◌, ◌<◌, ◌≡◌, ◌⊎◌}
use Rattle.std.proofs.Common.{sym, arith}
use mathlib.Core.List.{List, [], ◌∷◌, ◌++◌}
use Rattle.std.proofs.Math.Logic.{inl, inr}
use Rattle.std.proofs.Math.Option.{some}
use Rattle.slices.specs.Every.{every_all}
use Rattle.derivations.specs.Derivation.{Item, Price, Instance, Lawful, derive}
use Rattle.derivations.specs.Minima.{lowest, lowest_cap, only, only_same}
use Rattle.derivations.specs.Least.{total, Reached, least_same, least_append, carry_fits}
use Rattle.derivations.specs.First.{First, Lex}
use Rattle.derivations.specs.Folds.{Cells, backward, forward, Exact, backward_least, parts_least}

-- some list totals `goal` with the vector v; w is v at the carry state behind each list, or the list totals more with either
pub record Interchangeable (P : Instance) (a : ℕ) (gs : List Item) (v w : ℕ → ℕ) (c goal : ℕ) : Type 0 where
  pub reached : Reached P a gs v c goal
  pub each : (bs : List ℕ) (p : Price) → derive P bs gs c ≡ some p
      → (w p.carry ≡ v p.carry) ⊎ ((goal < total a v p) × (goal < total a w p))

-- the first least list with w is the first least list with v
pub first_interchanged : {P : Instance} {a : ℕ} {gs : List Item} {v w : ℕ → ℕ} {c goal : ℕ} {bs : List ℕ} {p : Price}
    → Interchangeable P a gs v w c goal → First P a gs w c bs p → First P a gs v c bs p
first_interchanged {P} {a} {gs} {v} {w} {c} {goal} {bs} {p} alike f =
    record { reads = f.reads; least = low; first = lex }
  where
    no_more : total a w p ≤ goal
    no_more = go alike.reached
      where
        go : Reached P a gs v c goal → total a w p ≤ goal
        go (xs, q, h, e) = elim (alike.each xs q h) [
          | inl same ↦ omega (arith, same, e, f.least xs q h)
          | inr (k, _) ↦ absurd (omega (arith, e))
        ]

    agrees : w p.carry ≡ v p.carry
    agrees = elim (alike.each bs p f.reads) [
      | inl same ↦ same
      | inr (_, k) ↦ absurd (omega (arith, no_more))
    ]

    low : (xs : List ℕ) (q : Price) → derive P xs gs c ≡ some q → total a v p ≤ total a v q
    low xs q h = elim (alike.each xs q h) [
      | inl same ↦ omega (arith, same, agrees, f.least xs q h)
      | inr (k, _) ↦ omega (arith, agrees, no_more)
    ]

    lex : (xs : List ℕ) (q : Price) → derive P xs gs c ≡ some q → total a v q ≤ total a v p → Lex bs xs
    lex xs q h k = elim (alike.each xs q h) [
      | inl same ↦ f.first xs q h (omega (arith, same, agrees))
      | inr (i, _) ↦ absurd (omega (arith, agrees, no_more))
    ]

-- a vector that is raised by the same everywhere changes no first least list
pub first_raised : {P : Instance} {a : ℕ} {gs : List Item} {v : ℕ → ℕ} {c : ℕ} {bs : List ℕ} {p : Price} (k : ℕ)
    → First P a gs v c bs p → First P a gs (λ m. v m + k) c bs p
first_raised k f = record {
  reads = f.reads;
  least = λ xs q h. omega (arith, f.least xs q h);
  first = λ xs q h low. f.first xs q h (omega arith);
}

module _ {P : Instance} {C : ℕ} (L : Lawful P C) (a cap : ℕ) (cell : Cells) (exact : (g : Item) → Exact P a cap C cell g) where
  -- what an item's list comes to is at least the cell of the carry state behind it
  pub cell_below : (g : Item) (c : ℕ) (bs : List ℕ) (p : Price) → c < C → derive P bs (g ∷ []) c ≡ some p
      → cell g c p.carry ≤ a * p.weight + p.distance
  cell_below g c bs p hc h =
      let few = carry_fits L bs (g ∷ []) c p h hc in
      omega (arith, (exact g c p.carry hc few).below bs p h, only_same cap p.carry)

  -- an item, where at each carry state the vectors agree or the item's cell with either is above the least total
  pub interchangeable_item : (g : Item) (v w : ℕ → ℕ) (c goal : ℕ) → c < C → goal ≡ lowest cap (λ m. cell g c m + v m) C → goal < cap
      → ((m : ℕ) → m < C → (w m ≡ v m) ⊎ ((goal < cell g c m + v m) × (goal < cell g c m + w m)))
      → Interchangeable P a (g ∷ []) v w c goal
  unfolding backward
  interchangeable_item g v w c goal hc e low apart = record {
    reached = rw (sym e) at ((backward_least L a cap cell (g ∷ []) v c (exact g, tt) hc).attained (omega (arith, e)));
    each = λ bs p h. elim (apart p.carry (carry_fits L bs (g ∷ []) c p h hc)) [
      | inl same ↦ inl same
      | inr (i, k) ↦ inr (omega (arith, cell_below g c bs p hc h), omega (arith, cell_below g c bs p hc h))
    ];
  }

  backward_cap : (gs : List Item) (v : ℕ → ℕ) → ((x : ℕ) → v x ≤ cap) → (c : ℕ) → backward C cap cell gs v c ≤ cap
  unfolding backward
  backward_cap [] v h c = h c
  backward_cap (g ∷ gs) v h c = lowest_cap cap _ C

  -- items cut in two: the least over the carry states between them
  pub cut_total : (gs hs : List Item) (v : ℕ → ℕ) (c : ℕ) → ((x : ℕ) → v x ≤ cap) → c < C
      → backward C cap cell (gs ++ hs) v c
      ≡ lowest cap (λ m. forward C cap cell gs (only cap c) m + backward C cap cell hs v m) C
  cut_total gs hs v c h hc =
      let all = every_all (Exact P a cap C cell) exact in
      least_same P a cap (gs ++ hs) v c _ _ (backward_least L a cap cell (gs ++ hs) v c (all (gs ++ hs)) hc)
      (least_append L a cap gs hs v c (forward C cap cell gs (only cap c)) (backward C cap cell hs v) hc
      (λ m hm. parts_least L a cap cell gs c m hc hm (all gs)) (λ m hm. backward_least L a cap cell hs v m (all hs) hm))
      (backward_cap (gs ++ hs) v h c) (lowest_cap cap _ C)

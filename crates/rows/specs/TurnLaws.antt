-- What one turn of the loops does: one carry state more of a part, one rule more of an item. A turn that lowers nothing is idle.
use Rattle.std.specs.Prelude.{ℕ, ◌+◌, ◌-◌, ◌*◌, ◌≤◌, ◌<◌, min, ◌≡◌, refl, List, [], ◌∷◌, get_or}
use Rattle.std.proofs.Common.{sym, ap, ◌∙◌, arith}
use Rattle.std.proofs.Math.Numerals.{add-one}
use Rattle.sheet.specs.declared.clock.Units.{Units}
use Rattle.sheet.specs.Sheet.{Sheet}
use Rattle.sheet.specs.Good.{GoodRules}
use Rattle.derivations.specs.Derivation.{Item}
use Rattle.derivations.specs.Minima.{lowest, only}
use Rattle.trees.specs.ValidTrees.{onsets_before, token, weight_at}
use Rattle.trees.specs.Instance.{onsets_in}
use Rattle.trees.specs.LeastTotal.{NONE, cell_of}
use Rattle.plan.specs.Plan.{rule_count, least_leaf, Divides, NoDivision}
use Rattle.plan.specs.PlanLaws.{least_leaf_most}
use Rattle.rows.specs.Vectors.{vec, Low, lowered, LowCells, totals_of, lowered_by}
use Rattle.rows.specs.VectorLaws.{four, vec_same, vec_at, low_eq, low_cells, totals_vec, lowered_vec, lowest_same, lowest_none}
use Rattle.rows.specs.CellLaws.{cell_none, cell_empty}
use Rattle.rows.specs.PackedLaws.{packed_cell, packed_leaf_total, packed_cell_most, packed_cell_is}
use Rattle.rows.specs.Slots.{item_at, Inhabited, Sound}
use Rattle.rows.specs.Rows.{Row, Taken, Parted}
use Rattle.rows.specs.PackedTurnLaws.{packed_to, packed_to_most, packed_none, packed_all, packed_idle, packed_idles, packed_lowered}

-- ---- a row

pub row_cells_low : {s : Sheet} {rows : List ℕ} {g : Item} {c : ℕ} {r : List ℕ} → Row s rows g c r → LowCells r
row_cells_low {s} {g = g} {c} {r} p = low_cells r (packed_cell s g c) p.is (packed_cell_most s g c)

-- its totals are the cells
module _ {s : Sheet} {rows : List ℕ} {g : Item} {c : ℕ} {r y : List ℕ} (good : GoodRules s.grammar) (few : c < 4)
    (p : Row s rows g c r) (e : y ≡ totals_of r) where
  pub row_totals : y ≡ vec (cell_of s g c)
  row_totals =
      e ∙ totals_vec (packed_cell s g c) p.is
      ∙ vec_same _ (cell_of s g c) (λ x h. packed_cell_is s good g c x few h)

  pub row_low : Low y
  row_low = low_eq y (cell_of s g c) row_totals (cell_none s g c)

-- ---- carry states

pub taken_none : {s : Sheet} {rows : List ℕ} (g : Item) (v : List ℕ) → Sound s rows → Taken s rows g v 0 (vec (λ _. NONE))
unfolding lowest
taken_none g v sound = record { is = refl; sound = sound }

module _ {s : Sheet} {rows : List ℕ} {g : Item} {v : List ℕ} {m : ℕ} {o : List ℕ} (p : Taken s rows g v m o) where
  abbrev up_to : (n x : ℕ) → ℕ
  up_to n x = lowest NONE (λ c. get_or v c 0 + cell_of s g c x) n

  -- from a carry state that is reached
  pub taken_more : {after y t o' : List ℕ} → GoodRules s.grammar → m < 4 → Row s after g m y → t ≡ totals_of y
      → o' ≡ lowered o (get_or v m 0) t → Taken s after g v (m + 1) o'
  unfolding lowest
  taken_more good few row et e = record {
    is = rw add-one (lowered_vec (up_to m) (cell_of s g m) (get_or v m 0) p.is (row_totals good few row et) e);
    sound = row.sound;
  }

-- a part without an onset: the least leaf of each kind, and nothing is carried on
pub taken_empty : {s : Sheet} {rows : List ℕ} (g : Item) (v leaves : List ℕ) (x : ℕ) → GoodRules s.grammar
    → onsets_in s g.left g.len ≡ 0 → Sound s rows
    → leaves ≡ vec (λ c. least_leaf s g.nonterminal (token c (onsets_before s g.left)))
    → x ≡ lowest NONE (λ m. get_or leaves m 0 + get_or v m 0) 4 → Taken s rows g v 4 (x ∷ NONE ∷ NONE ∷ NONE ∷ [])
unfolding only
taken_empty {s} {rows} g v leaves x good none sound e k =
    record { is = four zeroth (other 1 refl (omega arith)) (other 2 refl (omega arith)) (other 3 refl (omega arith)); sound = sound }
  where
    leaf : ℕ → ℕ
    leaf c = least_leaf s g.nonterminal (token c (onsets_before s g.left))

    cell : (c m : ℕ) → c < 4 → m < 4 → cell_of s g c m ≡ min NONE (leaf c + only NONE 0 m)
    cell c m hc hm = cell_empty s good g c m hc hm none

    zeroth : x ≡ lowest NONE (λ c. get_or v c 0 + cell_of s g c 0) 4
    zeroth = k ∙ lowest_same NONE _ (λ c. get_or v c 0 + cell_of s g c 0) 4 (λ c h. omega (
      arith,
      cell c 0 h (omega arith),
      least_leaf_most s g.nonterminal (token c (onsets_before s g.left)),
      ap (λ u. get_or u c 0) e ∙ vec_at leaf c h,
    ))

    other : (m : ℕ) → only NONE 0 m ≡ NONE → m < 4 → NONE ≡ lowest NONE (λ c. get_or v c 0 + cell_of s g c m) 4
    other m z h =
        sym (lowest_same NONE (λ c. get_or v c 0 + cell_of s g c m) (λ c. get_or v c 0 + NONE) 4
        (λ c hc. ap (λ (y : ℕ). get_or v c 0 + y) (omega (arith, cell c m hc h, z)))
        ∙ lowest_none NONE (λ c. get_or v c 0 + NONE) 4 (λ c. omega arith))

-- ---- rules

-- the first n rules are done: the lesser of what is packed of a leaf at the item and of those of them that are divisions
pub record Ruled (s : Sheet) (rows : List ℕ) (g : Item) (c n : ℕ) (o : List ℕ) : Type 0 where
  pub is : o ≡ vec (packed_to s g c n)
  pub sound : Sound s rows

pub ruled_low : {s : Sheet} {rows : List ℕ} {g : Item} {c n : ℕ} {o : List ℕ} → Ruled s rows g c n o → LowCells o
ruled_low {s} {g = g} {c} {n} {o} p = low_cells o (packed_to s g c n) p.is (packed_to_most s g c n)

pub ruled_none : {s : Sheet} {rows : List ℕ} (g : Item) (c : ℕ) {o : List ℕ} → o ≡ vec (packed_leaf_total s g c) → Sound s rows
    → Ruled s rows g c 0 o
ruled_none {s} g c e sound = record {
  is = e ∙ vec_same (packed_leaf_total s g c) (packed_to s g c 0) (λ x _. sym (packed_none s g c x));
  sound = sound;
}

-- all rules: the item's row
pub ruled_all : {s : Sheet} {rows : List ℕ} {g : Item} {c n : ℕ} {o : List ℕ} → GoodRules s.grammar → c < 4 → n ≡ rule_count s
    → Ruled s rows g c n o → Row s rows g c o
ruled_all {s} {g = g} {c} {n} good h e p = record {
  is = p.is ∙ vec_same (packed_to s g c n) (packed_cell s g c) (λ x k. packed_all s g c good h n x e k);
  sound = p.sound;
}

module _ (s : Sheet) (q l : ℕ) (left : Units) {rows : List ℕ} {c n : ℕ} {o : List ℕ} (p : Ruled s rows (item_at s q l left) c n o) where
  abbrev g : Item
  g = item_at s q l left

  -- a rule that does not divide the item
  pub ruled_idle : NoDivision s q l n → Ruled s rows g c (n + 1) o
  ruled_idle no_division = record {
    is = p.is ∙ vec_same (packed_to s g c n) (packed_to s g c (n + 1)) (λ x _. sym (packed_idle s q l left c n x no_division));
    sound = p.sound;
  }

  -- one that does
  pub ruled_more : {after y o' : List ℕ} {k h a : ℕ} → GoodRules s.grammar → Divides s q l n k h → Inhabited s l left
      → a ≡ s.grammar.multiplier * weight_at s n → Parted s after n 0 h left c y → o' ≡ lowered_by o a n y → Ruled s after g c (n + 1) o'
  ruled_more good d on ea parted e = record {
    is = packed_lowered s q l left c good d on ea p.is (parted.is q d.weight d.parts d.rule) e;
    sound = parted.sound;
  }

  -- the first m rules, where those from n on do not divide the item
  pub ruled_past : (m : ℕ) → n ≤ m → ((i : ℕ) → n ≤ i → i < m → NoDivision s q l i) → Ruled s rows g c m o
  ruled_past m h idle = record {
    is = p.is ∙ vec_same (packed_to s g c n) (packed_to s g c m) (λ x _. sym (ap (λ (i : ℕ). packed_to s g c i x) whole ∙ through x));
    sound = p.sound;
  }
    where
      whole : m ≡ n + (m - n)
      whole = omega arith

      through : (x : ℕ) → packed_to s g c (n + (m - n)) x ≡ packed_to s g c n x
      through x = packed_idles s q l left c n (m - n) x (λ i least less. idle i least (omega arith))

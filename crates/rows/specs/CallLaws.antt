-- What the functions that solve rows ask of each other and tell each other: `lift` of `solve`, `part` of `lift`. Assumes nothing.
use Rattle.std.specs.Prelude.{ℕ, ◌+◌, ◌-◌, ◌*◌, ◌/◌, ◌≤◌, ◌<◌, min, ◌≡◌, refl, List, [], ◌∷◌, get_or}
use Rattle.std.proofs.Common.{ap, subst, ◌∙◌, arith}
use Rattle.sheet.specs.declared.clock.Units.{Units}
use Rattle.sheet.specs.Sheet.{Sheet}
use Rattle.derivations.specs.Derivation.{Item}
use Rattle.derivations.specs.Minima.{lowest, only, only_same}
use Rattle.trees.specs.ValidTrees.{token}
use Rattle.trees.specs.LeastTotal.{NONE}
use Rattle.expansions.specs.Tables.{last_unit}
use Rattle.expansions.specs.Items.{first_at, item_of}
use Rattle.expansions.specs.Places.{first_most}
use Rattle.plan.specs.Plan.{length_at, least_leaf, leaf_cell, length_cell}
use Rattle.plan.specs.Layout.{kinds}
use Rattle.plan.specs.PlanLaws.{least_leaf_most, leaf_cell_least, token_below}
use Rattle.plan.specs.Packed.{packed_leaf, packed_leaf_most}
use Rattle.rows.specs.declared.slots.Bar.{Bar}
use Rattle.rows.specs.Vectors.{vec, Low, lowered, totals_of}
use Rattle.rows.specs.VectorLaws.{four, low_eq, only_other}
use Rattle.rows.specs.PackedLaws.{packed_cell, packed_leaf_total, packed_cell_empty}
use Rattle.rows.specs.Slots.{item_at, Inhabited, slot_in, SlotEntry}
use Rattle.rows.specs.Rows.{Entry, Row, Taken, SolveEntry, PartEntry, LiftEntry, ReachedTo, MovedTo, LeafEntry}
use Rattle.rows.specs.NameLaws.{stands_near, stands_head, stands_len, stands_next, stands_some, stands_none}
use Rattle.rows.specs.NameLaws.{slot_entry}
use Rattle.rows.specs.IdleLaws.{taken_rest}
use Rattle.rows.specs.TurnLaws.{taken_none, taken_more, taken_empty}

-- ---- `lift` calls `place_of` and `solve`

-- what a call of `place_of` tells
abbrev pub PlaceOf : List ℕ → Bar → (q l from c at : ℕ) → Type 0
PlaceOf plan bar q l from c at =
    (s : Sheet) → SlotEntry s plan bar q l from c → at ≡ 4 * slot_in s bar.number q l (from - bar.first) c

module _ {s : Sheet} {plan units rows : List ℕ} {bar : Bar} {q l : ℕ} {left : Units} {from : ℕ} {v : List ℕ} {zero a c : ℕ}
    {o : List ℕ}
    (h : LiftEntry s plan units rows bar q l left from v zero a c o) where
  pub lift_slot : SlotEntry s plan bar q l from c
  lift_slot = slot_entry h.stands h.inhabited h.few

  pub lift_solve : {at : ℕ} → PlaceOf plan bar q l from c at → SolveEntry s plan units rows bar q l left from c at
  lift_solve told = record {
    entry = record { stands = h.stands; few = h.few; sound = h.taken.sound };
    inhabited = h.inhabited;
    place = told s lift_slot;
  }

  -- the row of the item from c
  pub lift_more : {after y t o' : List ℕ} → Row s after (item_at s q l left) c y → t ≡ totals_of y → o' ≡ lowered o a t
      → Taken s after (item_at s q l left) v (c + 1) o'
  lift_more {t = t} row et e =
      taken_more h.taken h.stands.in_bar_lem.prepared.good h.few row et (e ∙ ap (λ (x : ℕ). lowered o x t) h.total_is)

-- ---- `part` calls `least_placed`, or `lift` for each carry state

module _ {s : Sheet} {plan units rows : List ℕ} {bar : Bar} {q l : ℕ} {left : Units} {from to : ℕ} {v : List ℕ}
    (h : PartEntry s plan units rows bar q l left from to v) where
  abbrev g : Item
  g = item_at s q l left

  -- the part has no onset: its leaf costs are looked up
  pub leaf_asked : q < 16
  leaf_asked = stands_head h.stands

  -- the least leaf that c onsets are placed at
  abbrev leaf_of : ℕ → ℕ
  leaf_of c = least_leaf s q (token c (first_at s left.0))

  module _ {w x y z : ℕ} (ew : w ≡ leaf_cell plan q (token 0 from) / 64) (ex : x ≡ leaf_cell plan q (token 1 from) / 64)
      (ey : y ≡ leaf_cell plan q (token 2 from) / 64) (ez : z ≡ leaf_cell plan q (token 3 from) / 64) where
    leaves_are : w ∷ x ∷ y ∷ z ∷ [] ≡ vec leaf_of
    leaves_are = four (ew ∙ at 0) (ex ∙ at 1) (ey ∙ at 2) (ez ∙ at 3)
      where
        at : (c : ℕ) → leaf_cell plan q (token c from) / 64 ≡ leaf_of c
        at c =
            leaf_cell_least s plan h.stands.in_bar_lem.prepared q (token c from) (stands_head h.stands) (token_below c from)
            ∙ ap (λ (b : ℕ). least_leaf s q (token c b)) h.stands.first

    pub dot_asked : Low (w ∷ x ∷ y ∷ z ∷ []) × Low v
    dot_asked = (low_eq _ leaf_of leaves_are (λ c. least_leaf_most s q (token c (first_at s left.0))), h.low)

    pub part_empty : {d : ℕ} → to ≤ from → d ≡ lowest NONE (λ m. get_or (w ∷ x ∷ y ∷ z ∷ []) m 0 + get_or v m 0) 4
        → Taken s rows g v 4 (d ∷ NONE ∷ NONE ∷ NONE ∷ [])
    part_empty {d} k e =
        taken_empty g v (w ∷ x ∷ y ∷ z ∷ []) d h.stands.in_bar_lem.prepared.good (omega (arith, h.ends, stands_next h.stands))
        h.sound leaves_are e

  -- the part has one: the vector is taken over it by carry state
  module _ (k : from < to) where
    pub lift_entry : {now o : List ℕ} {zero a b d c : ℕ} → c < 4 → zero ≡ get_or v 0 0 → MovedTo v c a b d → Taken s now g v c o
        → LiftEntry s plan units now bar q l left from v zero a c o
    lift_entry few first moved taken = record {
      stands = h.stands;
      few = few;
      inhabited = omega (arith, h.ends, stands_next h.stands);
      low = h.low;
      zero_is = first;
      total_is = moved.first few;
      taken = taken;
    }

    -- none yet
    pub lift_none : Taken s rows g v 0 (vec (λ _. NONE))
    lift_none = taken_none g v h.sound

    -- those behind the last that is reached lower nothing
    pub lift_all : {now o : List ℕ} {c n : ℕ} → ReachedTo v n → c ≡ n → Taken s now g v c o → Taken s now g v 4 o
    lift_all {now} {o} {c} {n} reached e taken = taken_rest s h.stands.in_bar_lem.prepared.good g reached (subst (λ
        (m : ℕ). Taken s now g v m o) e taken)

-- the totals move up
pub moved_none : (v : List ℕ) → MovedTo v 0 (get_or v 0 0) (get_or v 1 0) (get_or v 2 0)
moved_none v = record { first = λ _. refl; second = λ _. refl; third = λ _. refl }

pub moved_more : {v : List ℕ} {c a b d e : ℕ} → MovedTo v c a b d → e ≡ get_or v 3 0 → MovedTo v (c + 1) b d e
moved_more {v} {c} {b = b} {d} {e} m k = record {
  first = m.second;
  second = λ h. m.third (omega arith) ∙ ap (λ (i : ℕ). get_or v i 0) (omega arith);
  third = λ h. k ∙ ap (λ (i : ℕ). get_or v i 0) (omega arith);
}

-- ---- `solve` calls `leaf_row`

module _ {s : Sheet} {plan units rows : List ℕ} {bar : Bar} {q l : ℕ} {left : Units} {from c : ℕ} {len : Units}
    (e : Entry s plan units rows bar q l left from c) (el : len.0 ≡ length_cell plan l) where
  same_len : len.0 ≡ length_at s l
  same_len = stands_len e.stands el

  pub leaf_entry : LeafEntry s plan units q (record { left = left; len = len }) from c
  leaf_entry = record {
    prepared = e.stands.in_bar_lem.prepared;
    entered = record {
      here = record {
        onsets = e.stands.in_bar_lem.onsets;
        within = omega (arith, same_len, stands_near e.stands);
        first = e.stands.first;
      };
      few = omega (arith, e.few);
    };
    nonterminal = e.stands.nonterminal;
  }

  pub leaf_told : {r : List ℕ} → r ≡ vec (packed_leaf_total s (item_of q (record { left = left; len = len })) c)
      → r ≡ vec (packed_leaf_total s (item_at s q l left) c)
  leaf_told k = k ∙ ap (λ (n : ℕ). vec (packed_leaf_total s (record { nonterminal = q; left = left.0; len = n }) c)) same_len

  -- ---- `cells` looks whether an onset lies inside

  pub entry_near : left.0 + len.0 ≤ last_unit
  entry_near = omega (arith, same_len, stands_near e.stands)

  pub entry_first : from ≤ 512
  entry_first = omega (arith, e.stands.first, first_most s e.stands.in_bar_lem.onsets.good left.0)

  -- none does: the item is a leaf of what is carried in, and nothing is carried on
  pub entry_asked : {kind : ℕ} → kind ≡ token c from → (q < 16) × (kind < kinds)
  entry_asked ek = (stands_head e.stands, omega (arith, ek, token_below c from))

  pub entry_leaf : {kind w : ℕ} → left.0 + len.0 ≤ get_or units from 0 → kind ≡ token c from → w ≡ leaf_cell plan q kind
      → Row s rows (item_at s q l left) c (w ∷ 64 * NONE ∷ 64 * NONE ∷ 64 * NONE ∷ [])
  entry_leaf {kind} {w} k ek f =
      record {
        is = four zeroth (other 1 (omega arith) (λ z. omega arith)) (other 2 (omega arith) (λ z. omega arith))
            (other 3 (omega arith) (λ z. omega arith));
        sound = e.sound;
      }
    where
      g : Item
      g = item_at s q l left

      cell : (x : ℕ) → x < 4
          → packed_cell s g c x ≡ min (64 * NONE) (packed_leaf s q (token c (first_at s left.0)) + 64 * only NONE 0 x)
      cell x h =
          packed_cell_empty s e.stands.in_bar_lem.prepared.good g c x e.few h (stands_none e.stands (omega (arith, same_len)))

      zeroth : w ≡ packed_cell s g c 0
      zeroth =
          omega (
            arith,
            f,
            e.stands.in_bar_lem.prepared.leaves q kind (entry_asked ek).0 (entry_asked ek).1,
            ap (packed_leaf s q) (ek ∙ ap (token c) e.stands.first),
            cell 0 (omega arith),
            only_same NONE 0,
            packed_leaf_most s q kind,
          )

      other : (x : ℕ) → x < 4 → (x ≡ 0 → ⊥) → 64 * NONE ≡ packed_cell s g c x
      other x h n = omega (arith, cell x h, only_other 0 x n)

  -- one does: its row has a place
  module _ (k : get_or units from 0 < left.0 + len.0) where
    some_inside : Inhabited s l left
    some_inside = stands_some e.stands (omega (arith, same_len))

    pub entry_slot : SlotEntry s plan bar q l from c
    entry_slot = slot_entry e.stands some_inside e.few

    pub entry_solve : {at : ℕ} → PlaceOf plan bar q l from c at → SolveEntry s plan units rows bar q l left from c at
    entry_solve told = record { entry = e; inhabited = some_inside; place = told s entry_slot }

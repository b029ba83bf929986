-- One nonterminal more of an interval is stored: its row in the table, which stays sound, and its cells in the scratch array. Assumes
-- nothing.
use Rattle.std.specs.Prelude.{◌≡◌, ℕ, ◌+◌, ◌*◌, ◌<◌, ◌≤◌, List, [], ◌∷◌, length, slice_index, refl}
use Rattle.std.proofs.Common.{sym, ap, subst, ◌∙◌, arith}
use Rattle.std.proofs.Math.Decide.{ℕ_discrete}
use Rattle.sheet.specs.Sheet.{Sheet}
use Rattle.trees.specs.LeastTotal.{NONE}
use Rattle.plan.specs.PlanLaws.{lengths_most}
use Rattle.rows.specs.declared.one.Pair.{Pair}
use Rattle.rows.specs.declared.slots.Bar.{Bar}
use Rattle.rows.specs.Vectors.{LowCells}
use Rattle.rows.specs.VectorLaws.{four}
use Rattle.rows.specs.Memo.{stored}
use Rattle.rows.specs.PackedLaws.{packed_cell}
use Rattle.rows.specs.Slots.{item_at, Stands, Inhabited, Sound, SlotEntry}
use Rattle.rows.specs.Rows.{Row, SolveEntry}
use Rattle.rows.specs.TurnLaws.{row_cells_low}
use Rattle.rows.specs.NameLaws.{stands_bar, slot_entry, solve_room, solve_stored}
use Rattle.rows.specs.CallLaws.{PlaceOf}
use Rattle.rows.specs.OneTurnLaws.{packed_one_none}
use Rattle.filling.specs.Order.{used_in}
use Rattle.filling.specs.Pairs.{pair_at, put_pair, cell_in, put_size, put_other, put_own, pair_cell}
use Rattle.filling.specs.Filling.{KeepEntry, KeptTo}
use Rattle.filling.specs.RuleLaws.{lone_stands}

module _ {s : Sheet} {plan order rows pairs best : List ℕ} {bar : Bar} {l from : ℕ}
    (e : KeepEntry s plan order rows pairs best bar l from) where
  pub keep_begin : KeptTo s rows pairs pairs best l 0
  keep_begin = record { sound = e.sound; size = e.size; cell = λ q m h. absurd (omega arith); kept = λ i h. refl }

  pub keep_below : {used q : ℕ} → used ≡ used_in order → q < used → q < used_in order
  keep_below eu h = omega arith

  pub keep_few : used_in order ≤ 16
  keep_few = omega (arith, e.ordered.used.most, e.in_bar_lem.prepared.good.sixteen)

  -- all nonterminals in use
  pub keep_end : {now cells : List ℕ} {used q : ℕ} → used ≡ used_in order → q ≤ used → used ≤ q → KeptTo s now pairs cells best l q
      → KeptTo s now pairs cells best l (used_in order)
  keep_end {now} {cells} {used} {q} eu h k p = subst (KeptTo s now pairs cells best l) (omega arith) p

  module _ {q : ℕ} (h : q < used_in order) where
    stands : Stands s plan e.us bar q l e.left from
    stands = lone_stands e.in_bar_lem e.lone (omega (arith, e.ordered.used.most))

    inhabited : Inhabited s l e.left
    inhabited = omega (arith, e.lone.one)

    pub keep_best : 2 * q + 1 < length best
    keep_best = omega (arith, keep_few, e.solved.size)

    pub keep_slot : SlotEntry s plan bar q l from 0
    keep_slot = slot_entry stands inhabited (omega arith)

    pub keep_bar : bar.number < 64
    keep_bar = stands_bar stands

    pub keep_pairs : {now cells : List ℕ} → KeptTo s now pairs cells best l q
        → (32 * l + 2 * q + 1 < length cells) × (32 * l + 2 * q + 1 < 2688)
    keep_pairs p = (
      omega (arith, keep_few, e.lone.length_in, lengths_most s, p.size),
      omega (arith, keep_few, e.lone.length_in, lengths_most s),
    )

    module _ {y : Pair} (ey : y ≡ pair_at best (2 * q)) where
      -- the row with cells 0 and 1
      row : {now : List ℕ} → Sound s now → Row s now (item_at s q l e.left) 0 (y.zero ∷ y.one ∷ 64 * NONE ∷ 64 * NONE ∷ [])
      row sound = record {
        is = four (cell 0 (omega arith)) (cell 1 (omega arith)) (none 2 (omega arith) (omega arith)) (none 3 (omega arith) (omega arith));
        sound = sound;
      }
        where
          cell : (m : ℕ) → m < 2 → cell_in y m ≡ packed_cell s (item_at s q l e.left) 0 m
          cell m k = ap (λ (z : Pair). cell_in z m) ey ∙ pair_cell best (2 * q) m k ∙ e.solved.cell q m h k

          none : (m : ℕ) → 1 < m → m < 4 → 64 * NONE ≡ packed_cell s (item_at s q l e.left) 0 m
          none m i k = sym (packed_one_none s (item_at s q l e.left) e.lone.one e.in_bar_lem.prepared.good m i k)

      module _ {now : List ℕ} {at : ℕ} (sound : Sound s now) (told : PlaceOf plan bar q l from 0 at) where
        entry : SolveEntry s plan e.us now bar q l e.left from 0 at
        entry = record {
          entry = record { stands = stands; few = omega arith; sound = sound };
          inhabited = inhabited;
          place = told s keep_slot;
        }

        pub keep_room : at + 4 ≤ length now
        keep_room = solve_room entry sound

        pub keep_low : LowCells (y.zero ∷ y.one ∷ 64 * NONE ∷ 64 * NONE ∷ [])
        keep_low = row_cells_low (row sound)

        pub keep_sound : {after : List ℕ}
            → after ≡ stored now at (y.zero ∷ y.one ∷ 64 * NONE ∷ 64 * NONE ∷ []) (bar.number + 1) → Sound s after
        keep_sound is = (solve_stored entry (row sound) is).sound

      -- the cells in the scratch array
      module _ {now cells : List ℕ} (p : KeptTo s now pairs cells best l q) where
        abbrev at : ℕ
        at = 32 * l + 2 * q

        pub keep_more : {after more : List ℕ} → Sound s after → more ≡ put_pair cells at y → KeptTo s after pairs more best l (q + 1)
        keep_more {after} {more} sound is =
            subst (λ (xs : List ℕ). KeptTo s after pairs xs best l (q + 1)) (sym is) (record {
              sound = sound;
              size = put_size cells at y ∙ p.size;
              cell = each;
              kept = λ i k. put_other cells at y i (λ z. omega (arith, keep_few)) (λ z. omega (arith, keep_few)) ∙ p.kept i k;
            })
          where
            own : (m : ℕ) → m < 2 → slice_index (put_pair cells at y) (at + m) ≡ slice_index best (2 * q + m)
            own m k = put_own cells at y (keep_pairs p).0 m k ∙ ap (λ (z : Pair). cell_in z m) ey ∙ pair_cell best (2 * q) m k

            each : (a m : ℕ) → a < q + 1 → m < 2 → slice_index (put_pair cells at y) (32 * l + 2 * a + m) ≡ slice_index best (2 * a + m)
            each a m i k = elim (ℕ_discrete a q) [
              | yes z ↦ rw z (own m k)
              | no z ↦
                  put_other cells at y (32 * l + 2 * a + m) (λ w. z (omega arith)) (λ w. z (omega arith)) ∙ p.cell a m (omega arith) k
            ]

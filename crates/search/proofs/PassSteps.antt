-- The steps of `pass` and `forward`: a bar's rows by carry state, and the bars from the first to the last. `Passing` is the invariant of
-- `pass`: it begins with no row (`passing_none`), goes on by a row (`passing_more`) and ends with the bar passed (`passing_all`). A bar
-- that is passed is one more of which `forward` has the rows (`forward_more`).
use Prim.Native.Nat.{ℕ, ◌+◌, ◌*◌, ◌/◌, ◌≤◌, ◌<◌, min}
use mathlib.Core.Path.{◌≡◌, refl, sym, ap, subst, ◌∙◌}
use mathlib.Core.List.{List}
use mathlib.Core.Logic.{inl, inr}
use native.Mathlib.Decide.{ℕ_discrete}
use native.Mathlib.Omega.{arith}
use lib.ListN.{length, get_or}
use Rattle.sheet.specs.Sheet.{Sheet}
use Rattle.sheet.specs.Good.{GoodRules}
use Rattle.derivations.specs.Minima.{lowest, lowest_cap, only}
use Rattle.trees.specs.LeastTotal.{NONE, carries, cell_of}
use Rattle.rows.specs.declared.slots.Bar.{Bar}
use Rattle.rows.specs.Vectors.{vec, Low, LowCells, lowered, totals_of}
use Rattle.rows.specs.VectorLaws.{vec_same, low_eq, low_cells, totals_vec, lowered_vec, lowest_same}
use Rattle.rows.specs.Memo.{row_at, stored}
use Rattle.rows.specs.MemoLaws.{stored_size, stored_own, kept_row}
use Rattle.rows.specs.PackedLaws.{packed_cell, packed_cell_most}
use Rattle.rows.specs.Slots.{Sound}
use Rattle.rows.specs.Rows.{Taken}
use Rattle.rows.specs.IdleLaws.{taken_skip}
use Rattle.rows.specs.TurnLaws.{taken_none, taken_more}
use Rattle.search.specs.Clauses.{bar_item, prefix_costs, bar_of, BarsPre, PassPre, RootRow, Rooted, RootsTo, PassedBar}
use Rattle.search.proofs.BarLaws.{prefix_none, prefix_more}
use Rattle.search.proofs.EnterSteps.{at_vec, idle_same}

-- a store keeps the number of cells
pub length-stored : (rows : List ℕ) {after : List ℕ} (v : List ℕ) (i : ℕ) → i + 4 ≤ length rows → after ≡ stored rows i v 0
    → length after ≡ length rows
length-stored rows v i h e = ap length e ∙ stored_size rows i v 0 h

-- ---- a bar's row

-- its cells, and so its totals, are low
pub root_cells_low : (s : Sheet) (b c : ℕ) (y : List ℕ) → RootRow s b c y → LowCells y
root_cells_low s b c y (inl e) = low_cells y (packed_cell s (bar_item s b) c) e (packed_cell_most s (bar_item s b) c)
root_cells_low s b c y (inr (_, e)) = low_cells y (λ _. 64 * NONE) e (λ x. omega arith)

pub totals_low : (y : List ℕ) {t : List ℕ} → LowCells y → t ≡ totals_of y → Low t
totals_low y {t} h e = low_eq t (λ x. get_or y x 0 / 64) e (λ x. omega (arith, h x))

-- ---- `pass`

-- the rows of bar b from the carry states before c are stored, and v is taken over the bar from them
pub record Passing (s : Sheet) (rows roots : List ℕ) (b : ℕ) (v : List ℕ) (c : ℕ) (o : List ℕ) : Type 0 where
  pub roots_are : RootsTo s roots b c
  pub taken : Taken s rows (bar_item s b) v c o

module _ {s : Sheet} {rows roots : List ℕ} {b : ℕ} {v : List ℕ} where
  pub passing_none : RootsTo s roots b 0 → Sound s rows → Passing s rows roots b v 0 (vec (λ _. NONE))
  passing_none are sound = record { roots_are = are; taken = taken_none (bar_item s b) v sound }

  -- all carry states
  pub passing_all : {c : ℕ} {o : List ℕ} → c ≡ 4 → v ≡ vec (prefix_costs s b) → Passing s rows roots b v c o → PassedBar s rows roots b o
  passing_all {c} {o} ec ev passing = record { roots_are = all; is = p.taken.is ∙ vec_same _ _ each; sound = p.taken.sound }
    where
      p : Passing s rows roots b v 4 o
      p = subst (λ (n : ℕ). Passing s rows roots b v n o) ec passing

      all : RootsTo s roots (b + 1) 0
      all = record { size = p.roots_are.size; each = own; last = λ m h. let none : ⊥ = omega arith in absurd none }
        where
          own : (i m : ℕ) → i < b + 1 → m < carries → RootRow s i m (row_at roots (4 * (4 * i + m)))
          own i m hi hm = elim (ℕ_discrete i b) [
            | yes e ↦ rw e (p.roots_are.last m hm)
            | no e ↦ p.roots_are.each i m (omega arith) hm
          ]

      each : (x : ℕ) → x < 4 → lowest NONE (λ c. get_or v c 0 + cell_of s (bar_item s b) c x) 4 ≡ prefix_costs s (b + 1) x
      each x hx =
          lowest_same NONE (λ c. get_or v c 0 + cell_of s (bar_item s b) c x) (λ c. prefix_costs s b c + cell_of s (bar_item s b) c x) 4
          (λ c hc. ap (◌+ cell_of s (bar_item s b) c x) (at_vec (prefix_costs s b) ev c hc))
          ∙ sym (prefix_more s b x)

  module _ {c : ℕ} {o : List ℕ} (p : Passing s rows roots b v c o) (few : c < 4) (hb : b < s.playing.bars) where
    pub passing_room : 4 * (4 * b + c) + 4 ≤ length roots
    passing_room = omega (arith, p.roots_are.size)

    pub passing_stored : {roots' : List ℕ} (y : List ℕ) → roots' ≡ stored roots (16 * b + 4 * c) y 0 → length roots' ≡ length roots
    passing_stored y e = length-stored roots y (16 * b + 4 * c) (omega (arith, passing_room)) e

    -- one carry state more
    module _ {rows' y : List ℕ} (rooted : Rooted s rows' b c y) where
      pub passing_row : LowCells y
      passing_row = root_cells_low s b c y rooted.is

      more_roots : RootsTo s (stored roots (4 * (4 * b + c)) y 0) b (c + 1)
      more_roots = record {
        size = omega (arith, p.roots_are.size, stored_size roots (4 * (4 * b + c)) y 0 passing_room);
        each = λ i m hi hm. subst (RootRow s i m) (sym (kept i m (λ e. omega arith))) (p.roots_are.each i m hi hm);
        last = last;
      }
        where
          kept : (i m : ℕ) → (4 * i + m ≡ 4 * b + c → ⊥)
              → row_at (stored roots (4 * (4 * b + c)) y 0) (4 * (4 * i + m)) ≡ row_at roots (4 * (4 * i + m))
          kept i m n = kept_row roots (4 * b + c) y 0 passing_room (4 * i + m) n

          own : RootRow s b c y → RootRow s b c (row_at (stored roots (4 * (4 * b + c)) y 0) (4 * (4 * b + c)))
          own (inl e) =
              inl (stored_own roots (4 * (4 * b + c)) y 0 passing_room (packed_cell s (bar_item s b) c) e
              (omega (arith, packed_cell_most s (bar_item s b) c 0)))
          own (inr (idle, e)) = inr (idle, stored_own roots (4 * (4 * b + c)) y 0 passing_room (λ _. 64 * NONE) e (omega arith))

          last : (m : ℕ) → m < c + 1 → RootRow s b m (row_at (stored roots (4 * (4 * b + c)) y 0) (4 * (4 * b + m)))
          last m hm = elim (ℕ_discrete m c) [
            | yes e ↦ rw e (own rooted.is)
            | no e ↦ subst (RootRow s b m) (sym (kept b m (λ k. e (omega arith)))) (p.roots_are.last m (omega arith))
          ]

      module _ (good : GoodRules s.grammar) (ev : v ≡ vec (prefix_costs s b)) {t o' : List ℕ} (et : t ≡ totals_of y)
          (eo : o' ≡ lowered o (get_or v c 0) t) where
        more_taken : RootRow s b c y → Taken s rows' (bar_item s b) v (c + 1) o'
        more_taken (inl e) = taken_more p.taken good few (record { is = e; sound = rooted.sound }) et eo
        more_taken (inr (idle, e)) =
            taken_skip s good (bar_item s b) few (record { is = kept; sound = rooted.sound })
            (idle_same s (prefix_costs s b) (λ i. get_or v i 0) c (sym (at_vec (prefix_costs s b) ev 0 (omega arith)))
            (sym (at_vec (prefix_costs s b) ev c few)) idle)
          where
            up_to : ℕ → ℕ
            up_to x = lowest NONE (λ i. get_or v i 0 + cell_of s (bar_item s b) i x) c

            -- the cap lowers nothing
            kept : o' ≡ vec up_to
            kept =
                lowered_vec up_to (λ _. NONE) (get_or v c 0) p.taken.is (et ∙ totals_vec (λ _. 64 * NONE) e) eo
                ∙ vec_same (λ x. min (up_to x) (get_or v c 0 + NONE)) up_to
                (λ x _. omega (arith, lowest_cap NONE (λ i. get_or v i 0 + cell_of s (bar_item s b) i x) c))

        pub passing_more : {roots' : List ℕ} → roots' ≡ stored roots (16 * b + 4 * c) y 0 → Passing s rows' roots' b v (c + 1) o'
        passing_more er =
            let same : 16 * b + 4 * c ≡ 4 * (4 * b + c) = omega arith in
            record {
              roots_are = subst (λ (x : List ℕ). RootsTo s x b (c + 1)) (sym (er ∙ ap (λ (i : ℕ). stored roots i y 0) same)) more_roots;
              taken = more_taken rooted.is;
            }

-- ---- `forward`

-- the rows of all bars before bar b are stored, and v is the prefix costs there
pub record Forwarded (s : Sheet) (rows roots : List ℕ) (b : ℕ) (v : List ℕ) : Type 0 where
  pub roots_are : RootsTo s roots b 0
  pub is : v ≡ vec (prefix_costs s b)
  pub sound : Sound s rows

module _ {s : Sheet} {plan us rows : List ℕ} {start count : ℕ} (e : BarsPre s plan us rows start count) where
  pub forward_none : {roots v : List ℕ} → 16 * count ≤ length roots → v ≡ vec (only NONE 0) → Forwarded s rows roots 0 v
  forward_none size ev = record {
    roots_are = record {
      size = omega (arith, e.count_is);
      each = λ i m hi hm. let none : ⊥ = omega arith in absurd none;
      last = λ m hm. let none : ⊥ = omega arith in absurd none;
    };
    is = ev ∙ vec_same (only NONE 0) (prefix_costs s 0) (λ x _. sym (prefix_none s x));
    sound = e.sound;
  }

  module _ {now roots : List ℕ} {b : ℕ} {v : List ℕ} (p : Forwarded s now roots b v) where
    pub forward_pass : {bar : Bar} → b < count → bar ≡ bar_of s b
        → PassPre s plan us now bar start v × RootsTo s roots bar.number 0
    forward_pass {bar} hb eb =
        subst (λ (x : Bar). PassPre s plan us now x start v × RootsTo s roots x.number 0) (sym eb) (
          record {
            prepared = e.prepared;
            onsets = e.onsets;
            start_is = e.start_is;
            bar_in = omega (arith, e.count_is);
            bar_is = refl;
            before = p.is;
            sound = p.sound;
          },
          p.roots_are,
        )

pub forward_more : {s : Sheet} {now roots : List ℕ} {b : ℕ} {bar : Bar} {w : List ℕ} → bar ≡ bar_of s b
    → PassedBar s now roots bar.number w → Forwarded s now roots (b + 1) w
forward_more {s} {now} {roots} {b} {bar} {w} eb passed =
    let at_b : PassedBar s now roots b w = subst (λ (x : Bar). PassedBar s now roots x.number w) eb passed in
    record { roots_are = at_b.roots_are; is = at_b.is; sound = at_b.sound }

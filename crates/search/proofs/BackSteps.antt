-- The steps of `suffix_step` and `backward`: suffix costs from the last bar to the first. Each cell of `suffix_step` is the least sum of a
-- row and the suffix costs behind the bar (`suffix_step_cell`). `Backward` is the invariant of `backward`: it begins behind the last bar
-- (`backward_none`) and goes on by a bar (`backward_more`).
use Prim.Native.Nat.{ℕ, ◌+◌, ◌-◌, ◌*◌, ◌/◌, ◌≤◌, ◌<◌}
use mathlib.Core.Path.{◌≡◌, refl, sym, ap, subst, ◌∙◌}
use mathlib.Core.List.{List, [], ◌∷◌}
use native.Mathlib.Decide.{ℕ_discrete}
use native.Mathlib.Omega.{arith}
use lib.ListN.{length, get_or}
use Rattle.sheet.specs.Sheet.{Sheet}
use Rattle.derivations.specs.Minima.{lowest, lowest_cap, only}
use Rattle.trees.specs.LeastTotal.{NONE, carries}
use Rattle.rows.specs.Vectors.{vec, Low, totals_of}
use Rattle.rows.specs.VectorLaws.{four, low_eq, lowest_same}
use Rattle.rows.specs.Memo.{row_at, stored}
use Rattle.rows.specs.MemoLaws.{stored_size, stored_own, kept_row}
use Rattle.search.specs.Clauses.{Suffix, VectorsFrom, SuffixStepPre, SuffixStep, BackwardPre}
use Rattle.search.proofs.BarLaws.{suffix_more, suffix_last}
use Rattle.search.proofs.EnterSteps.{at_vec}
use Rattle.search.proofs.PassSteps.{length-stored, root_cells_low, totals_low}

-- ---- `suffix_step`

module _ {s : Sheet} {roots : List ℕ} {e b : ℕ} {v : List ℕ} (h : SuffixStepPre s roots e b v) where
  module _ (c : ℕ) (hc : c < carries) (i : ℕ) (ei : i ≡ 4 * (4 * b + c)) {y t : List ℕ} (ey : y ≡ row_at roots i)
      (et : t ≡ totals_of y) where
    abbrev row : List ℕ
    row = row_at roots (4 * (4 * b + c))

    y_is : y ≡ row
    y_is = ey ∙ ap (row_at roots) ei

    pub suffix_step_asked : Low t × Low v
    suffix_step_asked = (
      totals_low row (root_cells_low s b c row (h.roots_are.each b c h.bar_in hc)) (et ∙ ap totals_of y_is),
      h.low,
    )

    pub suffix_step_cell : {d : ℕ} → d ≡ lowest NONE (λ m. get_or t m 0 + get_or v m 0) 4
        → d ≡ lowest NONE (λ m. get_or row m 0 / 64 + get_or v m 0) carries
    suffix_step_cell e =
        e ∙ lowest_same NONE (λ m. get_or t m 0 + get_or v m 0) (λ m. get_or row m 0 / 64 + get_or v m 0) 4
        (λ m hm. ap (◌+ get_or v m 0) (at_vec (λ x. get_or row x 0 / 64) (et ∙ ap totals_of y_is) m hm))

  abbrev sums : ℕ → ℕ
  sums c = lowest NONE (λ m. get_or (row_at roots (4 * (4 * b + c))) m 0 / 64 + get_or v m 0) carries

  pub suffix_step_all : {w x y z : ℕ} → w ≡ sums 0 → x ≡ sums 1 → y ≡ sums 2 → z ≡ sums 3 → SuffixStep roots b v (w ∷ x ∷ y ∷ z ∷ [])
  suffix_step_all ew ex ey ez =
      let all = four ew ex ey ez in
      record {
        four = refl;
        is = at_vec sums all;
        low = low_eq _ sums all (λ c. lowest_cap NONE (λ m. get_or (row_at roots (4 * (4 * b + c))) m 0 / 64 + get_or v m 0) carries);
      }

-- ---- `backward`

-- v is the suffix costs from bar b on, and so are those of the table
pub record Backward (s : Sheet) (vectors : List ℕ) (e b : ℕ) (v : List ℕ) : Type 0 where
  pub vectors_are : VectorsFrom s vectors e b
  pub suffix : Suffix s e b v

-- four numbers are the vector of their places
vec_of : (v : List ℕ) → length v ≡ 4 → v ≡ vec (λ x. get_or v x 0)
vec_of [] e = let none : ⊥ = omega arith in absurd none
vec_of (a ∷ []) e = let none : ⊥ = omega arith in absurd none
vec_of (a ∷ b ∷ []) e = let none : ⊥ = omega arith in absurd none
vec_of (a ∷ b ∷ c ∷ []) e = let none : ⊥ = omega arith in absurd none
vec_of (a ∷ b ∷ c ∷ d ∷ []) e = refl
vec_of (a ∷ b ∷ c ∷ d ∷ x ∷ v) e = let none : ⊥ = omega arith in absurd none

-- what is stored is loaded again
stored_suffix : {s : Sheet} {e b : ℕ} {v : List ℕ} (vectors : List ℕ) → 4 * b + 4 ≤ length vectors → Suffix s e b v
    → row_at (stored vectors (4 * b) v 0) (4 * b) ≡ v
stored_suffix {b = b} {v} vectors room p =
    let is = vec_of v p.four in
    stored_own vectors (4 * b) v 0 room (λ x. get_or v x 0) is (omega (arith, p.low 0)) ∙ sym is

module _ {s : Sheet} {roots vectors₀ : List ℕ} {from e : ℕ} (h : BackwardPre s roots vectors₀ from e) where
  -- for another table that is as long
  pub back_again : (vectors : List ℕ) → length vectors ≡ length vectors₀ → BackwardPre s roots vectors from e
  back_again vectors same = record {
    good = h.good;
    rising = h.rising;
    end_in = h.end_in;
    few = h.few;
    roots_are = h.roots_are;
    room = omega (arith, same, h.room);
    reached = h.reached;
  }

  pub back_stored : {after : List ℕ} (v : List ℕ) → after ≡ stored vectors₀ (4 * e) v 0 → length after ≡ length vectors₀
  back_stored v ea = length-stored vectors₀ v (4 * e) (omega (arith, h.room)) ea

  pub backward_none : {after v : List ℕ} → v ≡ vec (only NONE 0) → after ≡ stored vectors₀ (4 * e) v 0 → Backward s after e e v
  backward_none {after} {v} ev ea =
      rw ea (record {
        vectors_are = record {
          size = omega (arith, h.room, stored_size vectors₀ (4 * e) v 0 room);
          each = λ i lo hi. last i (omega arith);
        };
        suffix = whole;
      })
    where
      room : 4 * e + 4 ≤ length vectors₀
      room = omega (arith, h.room)

      whole : Suffix s e e v
      whole = suffix_last s e v ev

      last : (i : ℕ) → i ≡ e → Suffix s e i (row_at (stored vectors₀ (4 * e) v 0) (4 * i))
      last i ei = rw ei (subst (Suffix s e e) (sym (stored_suffix vectors₀ room whole)) whole)

  module _ {vectors : List ℕ} {n : ℕ} {v : List ℕ} (more : from < n) (most : n ≤ e) (p : Backward s vectors e n v) where
    -- the bar before
    abbrev b : ℕ
    b = n - 1

    next : b + 1 ≡ n
    next = omega arith

    below : b < e
    below = omega arith

    pub backward_entry : SuffixStepPre s roots e b v
    backward_entry = record {
      roots_are = h.roots_are;
      bar_in = below;
      end_in = h.end_in;
      few = h.few;
      low = p.suffix.low;
    }

    pub backward_room : 4 * b + 4 ≤ length vectors
    backward_room = omega (arith, p.vectors_are.size, below)

    pub backward_more : {after w : List ℕ} → SuffixStep roots b v w → after ≡ stored vectors (4 * b) w 0 → Backward s after e b w
    backward_more {after} {w} told ea =
        rw ea (record {
          vectors_are = record {
            size = omega (arith, p.vectors_are.size, stored_size vectors (4 * b) w 0 backward_room);
            each = each;
          };
          suffix = whole;
        })
      where
        whole : Suffix s e b w
        whole =
            suffix_more s e h.good h.reached b below {v = v} (subst (λ (i : ℕ). Suffix s e i v) (sym next) p.suffix)
            (λ c. row_at roots (4 * (4 * b + c)))
            (λ c hc. h.roots_are.each b c below hc)
            told.four told.is told.low

        each : (i : ℕ) → b ≤ i → i ≤ e → Suffix s e i (row_at (stored vectors (4 * b) w 0) (4 * i))
        each i lo hi = elim (ℕ_discrete i b) [
          | yes z ↦ rw z (subst (Suffix s e b) (sym (stored_suffix vectors backward_room whole)) whole)
          | no z ↦ subst (Suffix s e i) (sym (kept_row vectors b w 0 backward_room i z)) (p.vectors_are.each i (omega arith) hi)
        ]

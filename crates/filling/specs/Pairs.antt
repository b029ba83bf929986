-- Pairs of cells in a flat array: what stands at a place, and what a store leaves.
use Rattle.std.specs.Prelude.{◌≡◌, ℕ, zero, suc, ◌+◌, ◌<◌, min, List, length, ◌≢◌, slice_index, slice_index_or, slice_set, refl}
use Rattle.std.proofs.Common.{ap, ◌∙◌, add-zero, arith, length-set, get_or-set_same, get_or-set_other}
use Rattle.rows.specs.declared.one.Pair.{Pair}

-- the pair at a place
abbrev pub pair_at : List ℕ → ℕ → Pair
pair_at cells at = record { zero = slice_index cells at; one = slice_index cells (at + 1) }

-- a pair stored at a place
abbrev pub put_pair : List ℕ → ℕ → Pair → List ℕ
put_pair cells at x = slice_set (slice_set cells at x.zero) (at + 1) x.one

-- cell by cell the lesser of two pairs
abbrev pub lesser_pair : Pair → Pair → Pair
lesser_pair x y = record { zero = min x.zero y.zero; one = min x.one y.one }

-- a cell of a pair
abbrev pub cell_in : Pair → ℕ → ℕ
cell_in x zero = x.zero
cell_in x (suc m) = x.one

pub pair_same : {x y : Pair} → x.zero ≡ y.zero → x.one ≡ y.one → x ≡ y
pair_same e k = λ i. record { zero = e i; one = k i }

module _ (cells : List ℕ) (at : ℕ) (x : Pair) where
  pub put_size : length (put_pair cells at x) ≡ length cells
  put_size = length-set (slice_set cells at x.zero) (at + 1) x.one ∙ length-set cells at x.zero

  -- other cells are kept
  pub put_other : (i : ℕ) → (i ≢ at) → (i ≢ at + 1) → slice_index (put_pair cells at x) i ≡ slice_index cells i
  put_other i a b =
      get_or-set_other (slice_set cells at x.zero) (at + 1) i x.one 0 b ∙ get_or-set_other cells at i x.zero 0 a

  module _ (room : at + 1 < length cells) where
    pub put_zeroth : slice_index_or (put_pair cells at x) at 0 ≡ x.zero
    put_zeroth =
        get_or-set_other (slice_set cells at x.zero) (at + 1) at x.one 0 (λ e. omega arith)
        ∙ get_or-set_same cells at x.zero 0 (omega arith)

    pub put_first : slice_index_or (put_pair cells at x) (at + 1) 0 ≡ x.one
    put_first = get_or-set_same (slice_set cells at x.zero) (at + 1) x.one 0 (omega (arith, length-set cells at x.zero))

    -- the pair is the one stored
    pub put_own : (m : ℕ) → m < 2 → slice_index (put_pair cells at x) (at + m) ≡ cell_in x m
    put_own zero h = ap (λ (i : ℕ). slice_index (put_pair cells at x) i) (add-zero at) ∙ put_zeroth
    put_own (suc zero) h = put_first
    put_own (suc (suc m)) h = let none : ⊥ = omega arith in absurd none

-- the cells at a place
pub pair_cell : (cells : List ℕ) (at m : ℕ) → m < 2 → cell_in (pair_at cells at) m ≡ slice_index cells (at + m)
pair_cell cells at zero h = ap (λ (i : ℕ). slice_index cells i) (omega arith)
pair_cell cells at (suc zero) h = refl
pair_cell cells at (suc (suc m)) h = let none : ⊥ = omega arith in absurd none

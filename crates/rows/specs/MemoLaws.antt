-- A table of rows stays sound: cleared it claims nothing, and a store of the right row keeps every claim right.
use Rattle.std.specs.Prelude.{ℕ, ◌+◌, ◌*◌, ◌/◌, ◌%◌, ◌≤◌, ◌<◌, ◌≡◌, List, length, set, get_or}
use Rattle.std.proofs.Common.{ap, ◌∙◌, arith, length-set, get_or-set_same, get_or-set_other}
use Rattle.std.proofs.Math.Decide.{ℕ_discrete}
use Rattle.rows.specs.Vectors.{vec}
use Rattle.rows.specs.VectorLaws.{four}
use Rattle.rows.specs.Memo.{MARK, row_at, stored, Memo}

-- a table of zeros claims nothing
pub memo_clear : (f : ℕ → ℕ → ℕ → ℕ) (rows : List ℕ) (n : ℕ) → length rows ≡ 4 * n → ((i : ℕ) → i < 4 * n → get_or rows i 0 ≡ 0)
    → Memo f rows n
memo_clear f rows n e z = record { size = e; right = λ t b h k. absurd (omega (arith, z (4 * t) (omega arith))) }

-- the cells of a table after a store
module _ (rows : List ℕ) (at : ℕ) (v : List ℕ) (stamp : ℕ) (h : at + 4 ≤ length rows) where
  abbrev x0 : ℕ
  x0 = get_or v 0 0 + stamp * MARK

  abbrev t1 : List ℕ
  t1 = set rows at x0

  abbrev t2 : List ℕ
  t2 = set t1 (at + 1) (get_or v 1 0)

  abbrev t3 : List ℕ
  t3 = set t2 (at + 2) (get_or v 2 0)

  l1 : length t1 ≡ length rows
  l1 = length-set rows at x0

  l2 : length t2 ≡ length rows
  l2 = length-set t1 (at + 1) (get_or v 1 0) ∙ l1

  l3 : length t3 ≡ length rows
  l3 = length-set t2 (at + 2) (get_or v 2 0) ∙ l2

  pub stored_size : length (stored rows at v stamp) ≡ length rows
  stored_size = length-set t3 (at + 3) (get_or v 3 0) ∙ l3

  stored_other : (i : ℕ) → (i ≡ at → ⊥) → (i ≡ at + 1 → ⊥) → (i ≡ at + 2 → ⊥) → (i ≡ at + 3 → ⊥)
      → get_or (stored rows at v stamp) i 0 ≡ get_or rows i 0
  stored_other i n0 n1 n2 n3 =
      get_or-set_other t3 (at + 3) i (get_or v 3 0) 0 n3 ∙ get_or-set_other t2 (at + 2) i (get_or v 2 0) 0 n2
      ∙ get_or-set_other t1 (at + 1) i (get_or v 1 0) 0 n1 ∙ get_or-set_other rows at i x0 0 n0

  stored_0 : get_or (stored rows at v stamp) at 0 ≡ x0
  stored_0 =
      get_or-set_other t3 (at + 3) at (get_or v 3 0) 0 (λ e. omega arith) ∙ get_or-set_other t2 (at + 2) at (get_or v 2 0) 0 (λ e. omega arith)
      ∙ get_or-set_other t1 (at + 1) at (get_or v 1 0) 0 (λ e. omega arith) ∙ get_or-set_same rows at x0 0 (omega arith)

  stored_1 : get_or (stored rows at v stamp) (at + 1) 0 ≡ get_or v 1 0
  stored_1 =
      get_or-set_other t3 (at + 3) (at + 1) (get_or v 3 0) 0 (λ e. omega arith)
      ∙ get_or-set_other t2 (at + 2) (at + 1) (get_or v 2 0) 0 (λ e. omega arith)
      ∙ get_or-set_same t1 (at + 1) (get_or v 1 0) 0 (omega (arith, l1))

  stored_2 : get_or (stored rows at v stamp) (at + 2) 0 ≡ get_or v 2 0
  stored_2 =
      get_or-set_other t3 (at + 3) (at + 2) (get_or v 3 0) 0 (λ e. omega arith)
      ∙ get_or-set_same t2 (at + 2) (get_or v 2 0) 0 (omega (arith, l2))

  stored_3 : get_or (stored rows at v stamp) (at + 3) 0 ≡ get_or v 3 0
  stored_3 = get_or-set_same t3 (at + 3) (get_or v 3 0) 0 (omega (arith, l3))

  -- the row stored, whatever its stamp
  pub stored_own : (f : ℕ → ℕ) → v ≡ vec f → f 0 < MARK → row_at (stored rows at v stamp) at ≡ vec f
  stored_own f e small =
      let e0 : get_or v 0 0 ≡ f 0 = rw e in
      four (omega (arith, stored_0, e0)) (stored_1 ∙ rw e) (stored_2 ∙ rw e) (stored_3 ∙ rw e)

-- every other row is kept, with its stamp
module _ (rows : List ℕ) (t : ℕ) (v : List ℕ) (stamp : ℕ) (h : 4 * t + 4 ≤ length rows) (x : ℕ) (p : x ≡ t → ⊥) where
  abbrev other : (i : ℕ) → (i ≡ 4 * t → ⊥) → (i ≡ 4 * t + 1 → ⊥) → (i ≡ 4 * t + 2 → ⊥) → (i ≡ 4 * t + 3 → ⊥)
      → get_or (stored rows (4 * t) v stamp) i 0 ≡ get_or rows i 0
  other = stored_other rows (4 * t) v stamp h

  pub kept_first : get_or (stored rows (4 * t) v stamp) (4 * x) 0 ≡ get_or rows (4 * x) 0
  kept_first = other (4 * x) (λ q. p (omega arith)) (λ q. omega arith) (λ q. omega arith) (λ q. omega arith)

  pub kept_row : row_at (stored rows (4 * t) v stamp) (4 * x) ≡ row_at rows (4 * x)
  kept_row =
      four (ap (λ (a : ℕ). a % MARK) kept_first)
      (other (4 * x + 1) (λ q. omega arith) (λ q. p (omega arith)) (λ q. omega arith) (λ q. omega arith))
      (other (4 * x + 2) (λ q. omega arith) (λ q. omega arith) (λ q. p (omega arith)) (λ q. omega arith))
      (other (4 * x + 3) (λ q. omega arith) (λ q. omega arith) (λ q. omega arith) (λ q. p (omega arith)))

-- a store of the right row keeps every claim right: its own, and those of all other slots
pub memo_store : (f : ℕ → ℕ → ℕ → ℕ) (rows : List ℕ) (n t b : ℕ) (v : List ℕ) → Memo f rows n → t < n → f b t 0 < MARK → v ≡ vec (f b t)
    → Memo f (stored rows (4 * t) v (b + 1)) n
memo_store f rows n t b v m h small e = record { size = stored_size rows (4 * t) v (b + 1) room ∙ m.size; right = each }
  where
    room : 4 * t + 4 ≤ length rows
    room = omega (arith, m.size)

    after : List ℕ
    after = stored rows (4 * t) v (b + 1)

    each : (x y : ℕ) → x < n → get_or after (4 * x) 0 / MARK ≡ y + 1 → row_at after (4 * x) ≡ vec (f y x)
    each x y hx k = elim (ℕ_discrete x t) [ yes p ↦ own p | no p ↦ kept p ]
      where
        own : x ≡ t → row_at after (4 * x) ≡ vec (f y x)
        own p =
            let k' : get_or after (4 * t) 0 / MARK ≡ y + 1 = rw p at k in
            let e0 : get_or v 0 0 ≡ f b t 0 = rw e in
            let w : y ≡ b = omega (arith, stored_0 rows (4 * t) v (b + 1) room, k', e0) in
            rw (p, w) (stored_own rows (4 * t) v (b + 1) room (f b t) e small)

        kept : (x ≡ t → ⊥) → row_at after (4 * x) ≡ vec (f y x)
        kept p =
            kept_row rows t v (b + 1) room x p
            ∙ m.right x y hx (omega (arith, kept_first rows t v (b + 1) room x p, k))

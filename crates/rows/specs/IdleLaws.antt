-- Carry states that lower nothing: one that is not reached, or that costs more above carrying nothing than it can save where an onset lies
-- before. They may be left out of every minimum over the carry states. Assumes nothing.
use Rattle.std.specs.Prelude.{ℕ, zero, suc, ◌+◌, ◌-◌, ◌≤◌, ◌<◌, ◌≡◌, List, ◌⊎◌, get_or}
use Rattle.std.proofs.Common.{sym, subst, ◌∙◌, inl, inr, add-one, arith}
use Rattle.std.proofs.Math.Decide.{ℕ_discrete}
use Rattle.sheet.specs.Sheet.{Sheet}
use Rattle.sheet.specs.Good.{GoodRules}
use Rattle.derivations.specs.Derivation.{Item}
use Rattle.derivations.specs.Minima.{lowest, lowest_cap, lowest_le}
use Rattle.trees.specs.ValidTrees.{onsets_before}
use Rattle.trees.specs.LeastTotal.{NONE, cell_of}
use Rattle.plan.specs.Plan.{saved_by}
use Rattle.rows.specs.VectorLaws.{vec_same}
use Rattle.rows.specs.Rows.{Taken, ReachedTo}
use Rattle.rows.specs.SavedLaws.{cell_saved}

-- carry state c of the vector v, where so many onsets lie before, is not reached; or one does, and carrying nothing is cheaper by more than
-- all that c can save
abbrev pub Idle : Sheet → (before : ℕ) (v : ℕ → ℕ) (c : ℕ) → Type 0
Idle s before v c = (NONE ≤ v c) ⊎ ((0 < c) × (0 < before) × (v 0 + saved_by s c < v c))

-- no carry state from 4 on is looked at, and of the others those not below the cap need not be
pub reached_all : (v : List ℕ) → ReachedTo v 4
reached_all v = record { most = omega arith; none = λ i lo hi. absurd (omega arith) }

pub reached_less : (v : List ℕ) (n : ℕ) → ReachedTo v (n + 1) → NONE ≤ get_or v n 0 → ReachedTo v n
reached_less v n r h = record { most = omega (arith, r.most); none = each }
  where
    each : (i : ℕ) → n ≤ i → i < 4 → NONE ≤ get_or v i 0
    each i lo hi = elim (ℕ_discrete i n) [
      | yes e ↦ rw e h
      | no k ↦ r.none i (omega arith) hi
    ]

module _ (s : Sheet) (good : GoodRules s.grammar) (g : Item) where
  -- what the vector v and the item's cell to x come to, from carry state c
  abbrev through : (v : ℕ → ℕ) (x c : ℕ) → ℕ
  through v x c = v c + cell_of s g c x

  abbrev before : ℕ
  before = onsets_before s g.left

  pub idle_carry : (v : ℕ → ℕ) (c : ℕ) → c < 4 → 0 < before → v 0 + saved_by s c ≤ v c → (x : ℕ) → x < 4
      → v 0 + cell_of s g 0 x ≤ v c + cell_of s g c x
  idle_carry v c few begun h x b = omega (arith, cell_saved s good c few g begun x b)

  -- an idle carry state lowers nothing behind those before it
  pub idle_lowest : (v : ℕ → ℕ) (c : ℕ) → c < 4 → Idle s before v c → (x : ℕ) → x < 4
      → lowest NONE (λ i. v i + cell_of s g i x) (suc c) ≡ lowest NONE (λ i. v i + cell_of s g i x) c
  unfolding lowest
  idle_lowest v c few (inl h) x b = omega (arith, lowest_cap NONE (through v x) c)
  idle_lowest v c few (inr (z, begun, h)) x b =
      omega (arith, lowest_le NONE (through v x) c 0 z, idle_carry v c few begun (omega arith) x b)

  -- a turn of the loop over the carry states
  pub taken_skip : {rows v o : List ℕ} {c : ℕ} → c < 4 → Taken s rows g v c o → Idle s before (λ i. get_or v i 0) c
      → Taken s rows g v (c + 1) o
  taken_skip {v = v} {c = c} few p idle = record {
    is = rw add-one (p.is ∙ vec_same (up_to c) (up_to (suc c)) (λ x b. sym (idle_lowest (λ i. get_or v i 0) c few idle x b)));
    sound = p.sound;
  }
    where
      up_to : (n x : ℕ) → ℕ
      up_to n x = lowest NONE (through (λ i. get_or v i 0) x) n

  -- none from n on is reached
  pub taken_rest : {rows v o : List ℕ} {n : ℕ} → ReachedTo v n → Taken s rows g v n o → Taken s rows g v 4 o
  taken_rest {rows} {v} {o} {n} reached = go (4 - n) n (omega (arith, reached.most)) (omega arith)
    where
      go : (k m : ℕ) → m + k ≡ 4 → n ≤ m → Taken s rows g v m o → Taken s rows g v 4 o
      go zero m e h taken = subst (λ (i : ℕ). Taken s rows g v i o) (omega arith) taken
      go (suc k) m e h taken =
          go k (m + 1) (omega arith) (omega arith) (taken_skip (omega arith) taken (inl (reached.none m h (omega arith))))

-- Steps of looking for an arity times a divisor among the lengths found, from the arity's cursor on.
use Prim.Native.Nat.{ℕ, ◌+◌, ◌*◌, ◌<◌, ◌≤◌}
use mathlib.Core.Path.{◌≡◌, refl, sym, ap, ◌∙◌}
use mathlib.Core.Bool.{true, false}
use mathlib.Core.List.{List}
use borrow.Author.Tests.{eq-eqb, ne_eqb}
use lib.Dec.{eqb}
use Rattle.std.proofs.Math.Decide.{ℕ_discrete}
use native.Mathlib.Decide.{dec_lt}
use native.Mathlib.Nat.{mul-le-mul, mul-le-mul_left}
use native.Mathlib.Omega.{arith}
use lib.ListN.{length, get_or, set, replicate, length-set, get_or-replicate, get_or-eq_default}
use lib.Seq.{get_or-set_same, get_or-set_other}
use Rattle.slices.specs.Pad.{get_or-pad}
use Rattle.sizes.specs.Sizes.{member, divisors}
use Rattle.sizes.specs.Held.{LengthsIn, FirstAtMost, Cursors}
use Rattle.sizes.specs.Members.{not_true_false, by_equal, member_at, place_of}
use Rattle.sizes.specs.Divisors.{divisors_fall, divisors-length, falls_at}

-- the cursors are those of every divisor from place j on
abbrev pub CursorsFrom : (cells : List ℕ) (count : ℕ) (at : List ℕ) (j : ℕ) → Type 0
CursorsFrom cells count at j = (i d : ℕ) → j ≤ i → i < 84 → d ≡ get_or divisors i 0 → Cursors cells count d at

-- an arity times a divisor is small
pub times_small : (k d : ℕ) → k < 9 → d ≤ 20160 → k * d ≤ 161280
times_small k d h m = mul-le-mul {n₁ = k} {m₁ = d} {n₂ = 8} {m₂ = 20160} (omega arith) m

-- every cursor is at the first place
pub cursors_first : (cells : List ℕ) (d : ℕ) → Cursors cells 0 d (replicate 9 0)
cursors_first cells d =
    record { size = refl; within = λ k. omega (arith, first k); above = λ k i l. absurd (omega (arith, first k)) }
  where
    first : (k : ℕ) → get_or {A = ℕ} (replicate 9 0) k 0 ≡ 0
    first k = elim (dec_lt k 9) [
      | yes h ↦ get_or-replicate 9 k 0 0 h
      | no h ↦ get_or-eq_default (replicate 9 0) 0 {n = k} (omega arith)
    ]

module _ (cells : List ℕ) (count d : ℕ) (at : List ℕ) (cursors : Cursors cells count d at) where
  -- those of a divisor are cursors of every later one, which is smaller
  pub cursors_later : (j : ℕ) → d ≡ get_or divisors j 0 → CursorsFrom cells count at (j + 1)
  cursors_later j is i e h l q =
      let less : e < d = omega (arith, is, q, falls_at divisors divisors_fall j i (omega arith) (omega (arith, divisors-length))) in
      record {
        size = cursors.size;
        within = cursors.within;
        above = λ k m b. omega (arith, cursors.above k m b, mul-le-mul_left {m = e} {n = d} k (omega arith));
      }

  -- and of one length more
  pub cursors_more : (x : ℕ) → Cursors (set cells count x) (count + 1) d at
  cursors_more x =
      record {
        size = cursors.size;
        within = λ k. omega (arith, cursors.within k);
        above = λ k i l. rw (get_or-set_other cells count i x 0 (λ e. omega (arith, cursors.within k))) (cursors.above k i l);
      }

  -- the cursor of k moves on to place i
  module _ (k i : ℕ) (h : k < 9) (first : FirstAtMost cells count (get_or at k 0) (k * d) i) where
    -- every cell before it is above
    before_cursor : (j : ℕ) → j < i → k * d < get_or cells j 0
    before_cursor j l = elim (dec_lt j (get_or at k 0)) [
      | yes m ↦ cursors.above k j m
      | no m ↦ first.above j (omega arith) l
    ]

    pub cursors_moved : Cursors cells count d (set at k i)
    cursors_moved =
        let here : get_or (set at k i) k 0 ≡ i = get_or-set_same at k i 0 (omega (arith, cursors.size)) in
        record {
          size = length-set at k i ∙ cursors.size;
          within = λ m.
              by_equal m k (λ e. rw (e, here) first.within) (λ e. rw (get_or-set_other at k m i 0 e) (cursors.within m));
          above = λ m j.
              by_equal m k (λ e. rw (e, here) (before_cursor j)) (λ e. rw (get_or-set_other at k m i 0 e) (cursors.above m j));
        }

    module _ (most : count ≤ 84) (xs : List ℕ) (lengths : LengthsIn cells count xs) where
      cell_at : (j : ℕ) → j < count → get_or cells j 0 ≡ get_or xs j 0
      cell_at j l = ap (λ (c : List ℕ). get_or c j 0) lengths.held ∙ get_or-pad 84 0 xs j (omega arith)

      -- the cell there is k times d
      among_here : i < count → get_or cells i 0 ≡ k * d → true ≡ member (k * d) xs
      among_here l e =
          sym (ap (λ (x : ℕ). member x xs) (sym e ∙ cell_at i l) ∙ member_at xs i (omega (arith, lengths.counted)))

      -- it is not, so that no cell is: those before it are larger, and those behind it smaller
      pub among_none : (i < count → get_or cells i 0 ≡ k * d → ⊥) → false ≡ member (k * d) xs
      among_none n = sym (not_true_false _ (λ m. nowhere (place_of (k * d) xs m)))
        where
          nowhere : (j : ℕ) × (j < length xs) × (get_or xs j 0 ≡ k * d) → ⊥
          nowhere (j, l, e) =
              let within : j < count = omega (arith, lengths.counted) in
              elim (dec_lt j i) [
                | yes m ↦ omega (arith, before_cursor j m, cell_at j within)
                | no m ↦
                    elim (dec_lt i j) [
                      | yes p ↦
                          omega (arith, falls_at xs lengths.falls i j p l, cell_at i (omega arith), first.at_most (omega arith))
                      | no p ↦ let same : j ≡ i = omega arith in n (omega arith) (rw (← same) (cell_at j within ∙ e))
                    ]
              ]

      -- it is if and only if it equals it
      pub among_told : i < count → eqb (get_or cells i 0) (k * d) ≡ member (k * d) xs
      among_told l = elim (ℕ_discrete (get_or cells i 0) (k * d)) [
        | yes e ↦ eq-eqb _ _ e ∙ among_here l e
        | no n ↦ ne_eqb _ _ n ∙ among_none (λ _. n)
      ]

-- Laws of `collect`, which finds the lengths among divisors that fall: what it finds are lengths that fall, and every part of a length
-- is found, since the length is larger and was looked at before. Assumes nothing.
use Prim.Native.Nat.{ℕ, zero, suc, ◌+◌, ◌*◌, ◌<◌, ◌≤◌}
use Rattle.std.specs.Prelude.{◌≡◌, Bool, false, ◌&&◌, ◌⊎◌, eqb}
use Rattle.std.proofs.Math.Path.{refl, subst}
use Rattle.std.proofs.Common.{sym, ◌∙◌, eqb-true}
use Rattle.std.proofs.Math.Bool.{true, or-true}
use Rattle.std.proofs.lemmas.Bool.{false≢true}
use Rattle.std.proofs.Math.Logic.{inl, inr, ⊎_elim}
use mathlib.Core.List.{List, [], ◌∷◌, ◌++◌, append_assoc, append-nil}
use Rattle.std.proofs.Math.Nat.{mul-le-mul_right}
use native.Mathlib.Omega.{arith}
use Rattle.std.proofs.Math.ListN.{length, get_or, length-append}
use Rattle.slices.specs.Test.{and_both}
use Rattle.slices.specs.Every.{Every, every_more}
use Rattle.sheet.specs.Sheet.{Rule, bar_units}
use Rattle.sizes.specs.Sizes.{has_arity, Length, whole, part, member, some_arity, reached, collect}
use Rattle.sizes.specs.Members.{by_or, member_here, member_there, member_cases, no_member}
use Rattle.sizes.specs.Members.{member_front, member_last, member_more, every_member}
use Rattle.sizes.specs.Divisors.{Falls, falls_skip}

module _ (f : ℕ → Bool) where
  -- a test that some arity passes
  pub some_arity_lem : (k : ℕ) → 2 ≤ k → k ≤ 8 → f k ≡ true → some_arity f ≡ true
  unfolding some_arity
  some_arity_lem zero l m e = let g : ⊥ = omega arith in absurd g
  some_arity_lem (suc zero) l m e = let g : ⊥ = omega arith in absurd g
  some_arity_lem (suc (suc zero)) l m e = simp e
  some_arity_lem (suc (suc (suc zero))) l m e = simp (e, or-true)
  some_arity_lem (suc (suc (suc (suc zero)))) l m e = simp (e, or-true)
  some_arity_lem (suc (suc (suc (suc (suc zero))))) l m e = simp (e, or-true)
  some_arity_lem (suc (suc (suc (suc (suc (suc zero)))))) l m e = simp (e, or-true)
  some_arity_lem (suc (suc (suc (suc (suc (suc (suc zero))))))) l m e = simp (e, or-true)
  some_arity_lem (suc (suc (suc (suc (suc (suc (suc (suc zero)))))))) l m e = simp (e, or-true)
  some_arity_lem (suc (suc (suc (suc (suc (suc (suc (suc (suc k))))))))) l m e = let g : ⊥ = omega arith in absurd g

  -- a test that no arity passes
  pub no_arity : ((k : ℕ) → 2 ≤ k → k < 9 → f k ≡ false) → some_arity f ≡ false
  unfolding some_arity
  no_arity n =
      simp (
        n 2 (omega arith) (omega arith),
        n 3 (omega arith) (omega arith),
        n 4 (omega arith) (omega arith),
        n 5 (omega arith) (omega arith),
        n 6 (omega arith) (omega arith),
        n 7 (omega arith) (omega arith),
        n 8 (omega arith) (omega arith),
      )

  -- which arity passes
  which_arity : some_arity f ≡ true → (k : ℕ) × (f k ≡ true)
  unfolding some_arity
  which_arity =
      by_or (f 2) _ (λ e. (2, e))
      (by_or (f 3) _ (λ e. (3, e))
      (by_or (f 4) _ (λ e. (4, e))
      (by_or (f 5) _ (λ e. (5, e))
      (by_or (f 6) _ (λ e. (6, e))
      (by_or (f 7) (f 8) (λ e. (7, e)) (λ e. (8, e)))))))

module _ (rs : List Rule) where
  -- a length found is whole or a part of one found before
  reached-length : (found : List ℕ) (d : ℕ) → Every (Length rs) found → reached rs found d ≡ true → Length rs d
  unfolding reached
  reached-length found d ev e =
      by_or (eqb d bar_units) _
      (λ q. subst (λ (x : ℕ). Length rs x) (sym (eqb-true d bar_units q)) whole)
      (λ q.
      let w = which_arity (λ (k : ℕ). has_arity k rs && member (k * d) found) q in
      let k = w.0 in
      let both = and_both (has_arity k rs) (member (k * d) found) w.1 in
      part (k * d) k d (every_member (Length rs) found (k * d) ev both.1) both.0 refl)
      e

  -- a part of one found before is found
  pub reached_part : (found : List ℕ) (k d : ℕ) → has_arity k rs ≡ true → 2 ≤ k → k ≤ 8 → member (k * d) found ≡ true
      → reached rs found d ≡ true
  unfolding reached
  reached_part found k d a l m e =
      simp (some_arity_lem (λ (k : ℕ). has_arity k rs && member (k * d) found) k l m (simp (a, e)), or-true)

  -- d is a length, and is found
  pub collect_in : (d : ℕ) (ds found : List ℕ) → reached rs found d ≡ true
      → collect rs (d ∷ ds) found ≡ collect rs ds (found ++ (d ∷ []))
  unfolding collect
  collect_in d ds found e = simp (collect, e)

  -- d is none
  pub collect_out : (d : ℕ) (ds found : List ℕ) → reached rs found d ≡ false → collect rs (d ∷ ds) found ≡ collect rs ds found
  unfolding collect
  collect_out d ds found e = simp (collect, e)

  -- no divisor is left
  pub collect_end : (found : List ℕ) → collect rs [] found ≡ found
  unfolding collect
  collect_end found = refl

  -- a fact of the lengths found, by whether d is one
  by_reached : (P : List ℕ → Type 0) (d : ℕ) (ds found : List ℕ)
      → (reached rs found d ≡ true → P (collect rs ds (found ++ (d ∷ []))))
      → (reached rs found d ≡ false → P (collect rs ds found)) → P (collect rs (d ∷ ds) found)
  by_reached P d ds found f g = go (reached rs found d) refl
    where
      go : (b : Bool) → reached rs found d ≡ b → P (collect rs (d ∷ ds) found)
      go true e = rw (collect_in d ds found e) (f e)
      go false e = rw (collect_out d ds found e) (g e)

  -- what is found stays
  pub collect_keeps : (ds found : List ℕ) (x : ℕ) → member x found ≡ true → member x (collect rs ds found) ≡ true
  unfolding collect
  collect_keeps [] found x m = m
  collect_keeps (d ∷ ds) found x m =
      by_reached (λ (l : List ℕ). member x l ≡ true) d ds found
      (λ e. collect_keeps ds (found ++ (d ∷ [])) x (member_front x found (d ∷ []) m))
      (λ e. collect_keeps ds found x m)

  -- what is found in the end was found before or is among the divisors looked at
  collect_from : (ds found : List ℕ) (x : ℕ) → member x (collect rs ds found) ≡ true
      → (member x found ≡ true) ⊎ (member x ds ≡ true)
  unfolding collect
  collect_from [] found x m = inl m
  collect_from (d ∷ ds) found x m =
      by_reached (λ (l : List ℕ). member x l ≡ true → (member x found ≡ true) ⊎ (member x (d ∷ ds) ≡ true)) d ds found
      (λ e n.
      ⊎_elim
      (λ q. ⊎_elim (λ w. inl w) (λ w. inr (member_here x d ds w)) (member_more x d found q))
      (λ q. inr (member_there x d ds q))
      (collect_from ds (found ++ (d ∷ [])) x n))
      (λ e n. ⊎_elim (λ q. inl q) (λ q. inr (member_there x d ds q)) (collect_from ds found x n))
      m

  -- what is found are lengths
  pub collect_lengths : (ds found : List ℕ) → Every (Length rs) found → Every (Length rs) (collect rs ds found)
  unfolding collect
  collect_lengths [] found ev = ev
  collect_lengths (d ∷ ds) found ev =
      by_reached (Every (Length rs)) d ds found
      (λ e. collect_lengths ds (found ++ (d ∷ [])) (every_more (Length rs) found d ev (reached-length found d ev e)))
      (λ e. collect_lengths ds found ev)

  -- what is found falls, where the divisors looked at go on falling behind what was found before
  pub collect_falls : (ds found : List ℕ) → Falls (found ++ ds) → Falls (collect rs ds found)
  unfolding collect
  collect_falls [] found f = subst Falls (append-nil found) f
  collect_falls (d ∷ ds) found f =
      by_reached Falls d ds found
      (λ e. collect_falls ds (found ++ (d ∷ [])) (subst Falls (sym (append_assoc found (d ∷ []) ds)) f))
      (λ e. collect_falls ds found (falls_skip found d ds f))

  -- a divisor is found where k times it is, which is larger and so was looked at before
  pub collect_part : (ds found : List ℕ) (k y : ℕ) → Falls ds → has_arity k rs ≡ true → 2 ≤ k → k ≤ 8 → 0 < y
      → member y ds ≡ true
      → member (k * y) (collect rs ds found) ≡ true → member y (collect rs ds found) ≡ true
  unfolding collect
  collect_part [] found k y f a l m p h n = absurd (no_member y h)
  collect_part (d ∷ ds) found k y f a l m p h n =
      let larger : y < k * y = omega (arith, mul-le-mul_right {m = 2} {n = k} y l) in
      ⊎_elim
      (λ e.
      let before : member (k * y) found ≡ true =
      ⊎_elim (λ q. q)
      (λ q. absurd (⊎_elim (λ w. omega arith) (λ w. omega (arith, f.0 (k * y) w)) (member_cases (k * y) d ds q)))
      (collect_from (d ∷ ds) found (k * y) n) in
      let found-now : reached rs found d ≡ true =
      reached_part found k d a l m (subst (λ (z : ℕ). member (k * z) found ≡ true) e before) in
      by_reached (λ (l : List ℕ). member y l ≡ true) d ds found
      (λ t. collect_keeps ds (found ++ (d ∷ [])) y (rw e (member_last d found)))
      (λ t. absurd (false≢true (sym t ∙ found-now))))
      (λ e.
      by_reached (λ (l : List ℕ). member (k * y) l ≡ true → member y l ≡ true) d ds found
      (λ t. collect_part ds (found ++ (d ∷ [])) k y f.1 a l m p e)
      (λ t. collect_part ds found k y f.1 a l m p e)
      n)
      (member_cases y d ds h)

  -- no more lengths are found than divisors looked at
  pub length-collect : (ds found : List ℕ) → length (collect rs ds found) ≤ length found + length ds
  unfolding collect
  length-collect [] found = omega arith
  length-collect (d ∷ ds) found =
      by_reached (λ (l : List ℕ). length l ≤ length found + suc (length ds)) d ds found
      (λ e. omega (arith, length-collect ds (found ++ (d ∷ [])), length-append found (d ∷ [])))
      (λ e. omega (arith, length-collect ds found))

  -- the first length found stays the first
  pub first_collect : (ds found : List ℕ) (x : ℕ) → get_or (collect rs ds (x ∷ found)) 0 0 ≡ x
  unfolding collect
  first_collect [] found x = refl
  first_collect (d ∷ ds) found x =
      by_reached (λ (l : List ℕ). get_or l 0 0 ≡ x) d ds (x ∷ found)
      (λ e. first_collect ds (found ++ (d ∷ [])) x)
      (λ e. first_collect ds found x)

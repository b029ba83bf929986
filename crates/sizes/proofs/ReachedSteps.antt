-- Steps of looking for an arity that, times a divisor, is among the lengths found.
use Prim.Native.Nat.{ℕ, ◌+◌, ◌*◌, ◌<◌, ◌≤◌}
use mathlib.Core.Path.{◌≡◌, sym, ap, ◌∙◌}
use mathlib.Core.Bool.{Bool, true, false, ◌&&◌, and-false}
use mathlib.Core.List.{List}
use native.Mathlib.Omega.{arith}
use lib.ListN.{get_or}
use borrow.Author.Count.{below_more}
use borrow.Author.Tests.{eq-eqb, ne_eqb}
use Rattle.sheet.specs.Sheet.{Rule, bar_units}
use Rattle.sizes.specs.Sizes.{has_arity, member, reached}
use Rattle.sizes.specs.Held.{arity_flags, LengthsIn, AmongOf, ReachedOf}
use Rattle.sizes.specs.Collect.{no_arity, reached_part}
use Rattle.sizes.proofs.FlagSteps.{flag_at}

-- no arity below k, times d, is among the lengths found
abbrev pub NoneBelow : (flags : List Bool) (cells : List ℕ) (count d k : ℕ) → Type 0
NoneBelow flags cells count d k =
    (rs : List Rule) (xs : List ℕ) → flags ≡ arity_flags rs → LengthsIn cells count xs
    → (j : ℕ) → j < k → 2 ≤ j → (has_arity j rs && member (j * d) xs) ≡ false

-- no arity has been looked at
pub none_below : (flags : List Bool) (cells : List ℕ) (count d : ℕ) → NoneBelow flags cells count d 2
none_below flags cells count d rs xs f o j h l = let g : ⊥ = omega arith in absurd g

-- the whole bar is reached
pub reached_whole : (flags : List Bool) (cells : List ℕ) (count d : ℕ) → d ≡ 20160 → ReachedOf flags cells count d true
unfolding reached
reached_whole flags cells count d e h xs f o = simp (eq-eqb d bar_units e)

module _ (flags : List Bool) (cells : List ℕ) (count d k : ℕ) (none : NoneBelow flags cells count d k) where
  -- every arity has been looked at
  pub reached_none : 9 ≤ k → (d ≡ 20160 → ⊥) → ReachedOf flags cells count d false
  unfolding reached
  reached_none m n h xs f o =
      simp (
        ne_eqb d bar_units n,
        no_arity (λ (k : ℕ). has_arity k h.rules && member (k * d) xs) (λ j l u. none h.rules xs f o j (omega arith) l),
      )

  module _ (l : 2 ≤ k) (m : k < 9) where
    -- whether a division has k parts
    has_k : (rs : List Rule) → flags ≡ arity_flags rs → has_arity k rs ≡ get_or flags k false
    has_k rs f = sym (flag_at rs k m) ∙ ap (λ (fs : List Bool). get_or fs k false) (sym f)

    -- none has
    pub none_unused : get_or flags k false ≡ false → NoneBelow flags cells count d (k + 1)
    none_unused e rs xs f o = below_more _ _ (none rs xs f o) (λ _. simp (has_k rs f ∙ e))

    -- b tells whether k times d has been found
    module _ (b : Bool) (told : AmongOf cells count (k * d) b) where
      pub none_absent : b ≡ false → NoneBelow flags cells count d (k + 1)
      none_absent e rs xs f o = below_more _ _ (none rs xs f o) (λ _. simp (sym (told xs o) ∙ e, and-false))

      pub reached_found : get_or flags k false ≡ true → b ≡ true → ReachedOf flags cells count d true
      reached_found u e h xs f o =
          sym (reached_part h.rules xs k d (has_k h.rules f ∙ u) l (omega arith) (sym (told xs o) ∙ e))

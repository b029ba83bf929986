-- The steps of `passed` and `suffix_costs`: what the parts behind an item total, by the carry state that they are entered with. An idle one
-- is passed by no least list (`passed_idle`), any other is told by the vector over the parts (`passed_parts`), and the four are the vector
-- (`suffix_four`).
use Prim.Native.Nat.{ℕ, zero, suc, ◌+◌, ◌≤◌, ◌<◌}
use mathlib.Core.Path.{◌≡◌, sym, ap, subst, ◌∙◌}
use mathlib.Core.List.{List, [], ◌∷◌}
use mathlib.Core.Logic.{inl, inr}
use native.Mathlib.Omega.{arith}
use lib.ListN.{length, drop, get_or, drop_of_length-le}
use Rattle.slices.specs.Lookup.{drop-step}
use Rattle.sheet.specs.declared.clock.Units.{Units}
use Rattle.sheet.specs.Sheet.{Sheet}
use Rattle.sheet.specs.Good.{GoodRules}
use Rattle.derivations.specs.Derivation.{Item}
use Rattle.derivations.specs.Minima.{lowest, lowest_cap, only}
use Rattle.derivations.specs.Folds.{backward, forward}
use Rattle.trees.specs.ValidTrees.{adjoining}
use Rattle.trees.specs.LeastTotal.{NONE, carries, cell_of}
use Rattle.plan.specs.Plan.{length_at}
use Rattle.rows.specs.declared.slots.Bar.{Bar}
use Rattle.rows.specs.Vectors.{Low}
use Rattle.rows.specs.VectorLaws.{vec_at, lowest_same}
use Rattle.rows.specs.Slots.{Sound}
use Rattle.rows.specs.Rows.{PartsEntry, parts_at, Parted}
use Rattle.rows.specs.IdleLaws.{Idle}
use Rattle.building.specs.Clauses.{at, suffix_costs, Passed, SuffixPre, PassedAs, SuffixCosts}
use Rattle.building.specs.InterchangeLaws.{idle_dominated}
use Rattle.building.specs.ChoosingLaws.{suffix_forward}

-- the parts from part i on, where there are some
first_part : (s : Sheet) (l : ℕ) (left : Units) (kids : List ℕ) (i : ℕ) → i < length kids
    → parts_at s l left (drop i kids)
    ≡ record { nonterminal = get_or kids i 0; left = left.0; len = length_at s l } ∷ adjoining (left.0 + length_at s l) (length_at s l) (drop
    (i + 1) kids)
first_part s l left kids i h = ap (adjoining left.0 (length_at s l)) (drop-step kids i h)

-- the parts may be entered with another carry state, whatever the table has come to hold
abbrev pub parts_from_lem : {s : Sheet} {plan us rows : List ℕ} {bar : Bar} {r i k l : ℕ} {left : Units} {from c : ℕ}
    → PartsEntry s plan us rows bar r i k l left from c → (now : List ℕ) (m : ℕ) → m < carries → Sound s now
    → PartsEntry s plan us now bar r i k l left from m
parts_from_lem e now m few sound = record {
  in_bar_lem = e.in_bar_lem;
  q = e.q;
  whole = e.whole;
  start = e.start;
  divides = e.divides;
  whole_in = e.whole_in;
  aligned = e.aligned;
  part_in = e.part_in;
  left_is = e.left_is;
  first = e.first;
  few = few;
  sound = sound;
}

abbrev pub suffix_from : {s : Sheet} {plan us rows : List ℕ} {bar : Bar} {r i k l : ℕ} {left : Units} {from c : ℕ} {y v : List ℕ}
    → SuffixPre s plan us rows bar r i k l left from c y v → (now : List ℕ) (m : ℕ) → m < carries → Sound s now
    → SuffixPre s plan us now bar r i k l left from m y v
suffix_from e now m few sound = record { parts = parts_from_lem e.parts now m few sound; low_row = e.low_row; low = e.low }

module _ {s : Sheet} {plan us rows : List ℕ} {bar : Bar} {r i k l : ℕ} {left : Units} {from c : ℕ} {y v : List ℕ}
    (e : SuffixPre s plan us rows bar r i k l left from c y v) where
  abbrev rules : GoodRules s.grammar
  rules = e.parts.in_bar_lem.prepared.good

  abbrev gs : List Item
  gs = parts_at s l left (drop i e.parts.divides.parts)

  -- an idle carry state
  pub passed_idle : i < k → Idle s from (at y) c → PassedAs s rows gs y v c NONE
  passed_idle h idle = record {
    is = subst (λ (hs : List Item). Passed s hs (at y) (at v) c NONE)
        (sym (first_part s l left e.parts.divides.parts i (omega (arith, e.parts.divides.count))))
        (inr (
          idle_dominated s rules _ _ (at y) (at v) c e.parts.few (subst (λ (b : ℕ). Idle s b (at y) c) e.parts.first idle),
          omega arith,
        ));
    low = omega arith;
    sound = e.parts.sound;
  }

  -- any other, by the vector over the parts
  pub passed_parts : {now x : List ℕ} {w : ℕ} → Parted s now r i l left c x → w ≡ lowest NONE (λ m. get_or x m 0 + get_or v m 0) 4
      → PassedAs s now gs y v c w
  passed_parts {now} {x} {w} parted ew = record {
    is = inl (ew ∙ lowest_same NONE (λ m. get_or x m 0 + at v m) (λ m. f m + at v m) 4 each
        ∙ sym (suffix_forward s rules gs (at v) c e.low e.parts.few));
    low = omega (arith, ew, lowest_cap NONE (λ m. get_or x m 0 + get_or v m 0) 4);
    sound = parted.sound;
  }
    where
      f : ℕ → ℕ
      f = forward carries NONE (cell_of s) gs (only NONE c)

      each : (m : ℕ) → m < 4 → get_or x m 0 + at v m ≡ f m + at v m
      each m h =
          ap (◌+ at v m) (ap (λ (z : List ℕ). get_or z m 0)
          (parted.is e.parts.q e.parts.divides.weight e.parts.divides.parts e.parts.divides.rule) ∙ vec_at f m h)

  -- behind the last part there is the vector itself
  pub suffix_none : k ≤ i → SuffixCosts s rows gs y v v
  unfolding backward
  suffix_none h = record {
    each = λ m _. inl (sym (ap (λ (hs : List Item). suffix_costs s hs (at v) m) none));
    low = e.low;
    sound = e.parts.sound;
  }
    where
      none : gs ≡ []
      none = ap (adjoining left.0 (length_at s l)) (drop_of_length-le e.parts.divides.parts {i = i} (omega
          (arith, e.parts.divides.count)))

-- the four of them
pub suffix_four : {s : Sheet} {r₀ r₁ r₂ r₃ : List ℕ} {gs : List Item} {y v : List ℕ} {a b c d : ℕ} → PassedAs s r₀ gs y v 0 a
    → PassedAs s r₁ gs y v 1 b → PassedAs s r₂ gs y v 2 c → PassedAs s r₃ gs y v 3 d → SuffixCosts s r₃ gs y v (a ∷ b ∷ c ∷ d ∷ [])
suffix_four {s} {gs = gs} {y} {v} {a} {b} {c} {d} p₀ p₁ p₂ p₃ = record { each = each; low = low; sound = p₃.sound }
  where
    w : List ℕ
    w = a ∷ b ∷ c ∷ d ∷ []

    each : (m : ℕ) → m < carries → Passed s gs (at y) (at v) m (at w m)
    each zero h = p₀.is
    each (suc zero) h = p₁.is
    each (suc (suc zero)) h = p₂.is
    each (suc (suc (suc zero))) h = p₃.is
    each (suc (suc (suc (suc m)))) h = let none : ⊥ = omega arith in absurd none

    low : Low w
    low zero = p₀.low
    low (suc zero) = p₁.low
    low (suc (suc zero)) = p₂.low
    low (suc (suc (suc zero))) = p₃.low
    low (suc (suc (suc (suc m)))) = omega arith

-- Before the first onset no carry state but 0 is reached. So where a bar line is asked for its idle carry states, an onset may be taken to
-- lie before it. Assumes nothing.
use Prim.Native.Nat.{ℕ, zero, suc, ◌+◌, ◌*◌, ◌<◌}
use mathlib.Core.Path.{◌≡◌, ap, ◌∙◌}
use mathlib.Core.Logic.{inl, inr}
use native.Mathlib.Decide.{dec_lt}
use native.Mathlib.Nat.{zero-add}
use native.Mathlib.Numerals.{add-one}
use native.Mathlib.Omega.{arith}
use Rattle.sheet.specs.Sheet.{Sheet, bar_units}
use Rattle.sheet.specs.Good.{GoodRules}
use Rattle.derivations.specs.Derivation.{Item}
use Rattle.derivations.specs.Minima.{lowest, lowest_at, only_below}
use Rattle.trees.specs.Instance.{onsets_in}
use Rattle.trees.proofs.Onsets.{onsets-add, onsets_before_lem}
use Rattle.trees.specs.LeastTotal.{NONE, carries, cell_of}
use Rattle.expansions.specs.Items.{first_at}
use Rattle.rows.specs.CarryLaws.{carry_most}
use Rattle.rows.specs.IdleLaws.{Idle}
use Rattle.search.specs.Clauses.{bar_item, prefix_costs, IdleBefore}
use Rattle.search.proofs.BarLaws.{prefix_none, prefix_more}

module _ (s : Sheet) (good : GoodRules s.grammar) where
  -- no more onsets are carried on than lie inside
  reached_begun : (b c : ℕ) → 0 < c → c < carries → prefix_costs s b c < NONE → 0 < first_at s (b * bar_units)
  reached_begun zero c some few h =
      let is : c ≡ 0 = only_below NONE 0 c (omega (arith, prefix_none s c)) in absurd (omega arith)
  reached_begun (suc b) c some few h = go (lowest_at NONE (λ m. prefix_costs s b m + cell_of s bar m c) carries (omega (arith, more)))
    where
      bar : Item
      bar = bar_item s b

      more : prefix_costs s (suc b) c ≡ lowest NONE (λ m. prefix_costs s b m + cell_of s bar m c) carries
      more = rw add-one at (prefix_more s b c)

      inside : ℕ
      inside = onsets_in s (b * bar_units) bar_units

      all : onsets_in s 0 (b * bar_units + bar_units) ≡ onsets_in s 0 (b * bar_units) + inside
      all = rw (zero-add (b * bar_units)) at (onsets-add s 0 (b * bar_units) bar_units)

      end : first_at s (suc b * bar_units) ≡ onsets_in s 0 (b * bar_units + bar_units)
      end = onsets_before_lem s (suc b * bar_units) ∙ ap (onsets_in s 0) (omega arith)

      go : (m : ℕ) × (m < carries)
          × (lowest NONE (λ i. prefix_costs s b i + cell_of s bar i c) carries ≡ prefix_costs s b m + cell_of s bar m c)
          → 0 < first_at s (suc b * bar_units)
      go (m, hm, is) = elim (dec_lt inside c) [
        | yes fewer ↦ absurd (omega (arith, more, is, carry_most s good bar m c hm few fewer))
        | no enough ↦ omega (arith, end, all)
      ]

  -- so of a carry state that is idle with an onset before it need not be said that one lies before
  pub idle_begun : (b c : ℕ) → 0 < c → c < carries → Idle s 1 (prefix_costs s b) c → IdleBefore s b c
  idle_begun b c some few (inl h) = inl h
  idle_begun b c some few (inr (k, _, h)) = elim (dec_lt (prefix_costs s b c) NONE) [
    | yes low ↦ inr (k, reached_begun b c some few low, h)
    | no high ↦ inl (omega arith)
  ]

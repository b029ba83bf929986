-- Wrong answers that the contract of `find` rules out: what each would give, and that the contract is false of it.
use Rattle.std.specs.Prelude.{ℕ, ◌+◌, ◌≤◌, ◌<◌, List, [], ◌∷◌, length}
use Rattle.std.proofs.Math.Path.{◌≡◌, sym, ap}
use Rattle.std.proofs.Common.{subst, ◌∙◌}
use native.Mathlib.Omega.{arith}
use Rattle.sheet.specs.Sheet.{Sheet}
use Rattle.sheet.specs.Accepted.{Accepts}
use Rattle.sheet.specs.Cases.{S}
use Rattle.sheet.specs.Multiplier.{with_multiplier, slid}
use Rattle.pricing.specs.declared.Priced.{Priced}
use Rattle.pricing.specs.Pricing.{priced_of, Answer, figures_of, figures_in}
use Rattle.finding.specs.Finding.{find_text, number_of, Finds}
use Rattle.finding.specs.Cases.{bar_or_halves, longer, bar_or_tie}
use Rattle.finding.specs.FindingCases.{equals_answered, bar_or_halves_found, S_found, S_nine}
use Rattle.finding.specs.Calls.{Call, TreeOf}
use Rattle.finding.specs.SlidingLaws.{undominated, slides}
use Rattle.finding.specs.SlidingCases.{sheet_tie, tie_slid, tie_lighter}
use Rattle.sheet.specs.Outcome.{Outcome, number_in}
use Rattle.sheet.specs.Refusal.{answer_number}

module _ (tree tree' work work' : List ℕ) (r : Answer) (f : Finds S tree tree' work work' r) where
  -- 11 for every sheet: S has a tree
  find_always_eleven : 464 ≤ length work → 161 ≤ length tree → answer_number r ≡ 11 → ⊥
  find_always_eleven w t e =
      let z : ◌≡◌ {A = ℕ} 11 0 = sym e ∙ ap number_in (S_found tree tree' work work' r w t f).0 in omega arith

  -- "no tree" said of a work slice that is short: with 463 cells it is 9
  find_eleven_for_nine : length work ≡ 463 → answer_number r ≡ 11 → ⊥
  find_eleven_for_nine w e =
      let z : ◌≡◌ {A = ℕ} 11 9 =
      sym e ∙ f.number ∙ ap (λ n. number_of (find_text S (length tree) n)) w ∙ ap number_of (S_nine (length tree)) in
      omega arith

module _ (tree tree' work work' : List ℕ) (r : Answer) (w : 240 ≤ length work) (t : 81 ≤ length tree) where
  -- the last of equals: `010403`, which totals 5,040 as `00` does
  find_last_of_equals : Finds bar_or_halves tree tree' work work' r → (figures_in r).nodes ≡ 3 → ⊥
  find_last_of_equals f e =
      let g = (bar_or_halves_found tree tree' work work' r w t f).0 in
      let z : ◌≡◌ {A = ℕ} 3 1 = sym e ∙ ap (λ (x : Outcome Priced). (figures_of x).nodes) g in
      omega arith

  -- the shortest of equals: `01`, which totals 30 as `000203` does
  find_shortest_of_equals : Finds longer tree tree' work work' r → (figures_in r).nodes ≡ 1 → ⊥
  find_shortest_of_equals f e =
      let g = equals_answered.1.0 tree tree' work work' r w t f in
      let z : ◌≡◌ {A = ℕ} 1 3 = sym e ∙ ap (λ (x : Outcome Priced). (figures_of x).nodes) g.answer_is in omega arith

-- a dominated tree: with a = 1 `000203`, which weighs 3, where `01` weighs 1 at the same distance
find_dominated : (x : Call) → x.text ≡ slid 1 bar_or_tie → answer_number x.answer ≡ 0
    → (figures_in x.answer).weight ≡ 3 → (figures_in x.answer).distance ≡ 0 → ⊥
find_dominated x text z r d =
    let means = subst (λ (t : List ℕ). Accepts t (with_multiplier 1 sheet_tie)) (sym text) (tie_slid 1 (omega arith)) in
    let same = undominated (with_multiplier 1 sheet_tie) x (record { means = means; handed = z }) (omega arith) (1 ∷ []) 1 0 (tie_lighter 1)
    (omega arith) (omega arith) in
    omega (arith, same.0)

-- a heavier tree where a has grown by one, of whatever sheet
find_heavier : (s : Sheet) (a : ℕ) (x y : Call) → TreeOf (with_multiplier a s) x → TreeOf (with_multiplier (a + 1) s) y
    → (figures_in x.answer).weight < (figures_in y.answer).weight → ⊥
find_heavier s a x y t u h = let f = slides s a (a + 1) x y (omega arith) t u in omega (arith, f.0)

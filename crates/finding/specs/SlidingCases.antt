-- Sliding on examples, as theorems about the contract of `find`: a sheet whose least tree changes between two multipliers, and why 0 is
-- left out of `SlidingLaws.undominated`.
use Rattle.std.specs.Prelude.{ℕ, ◌+◌, ◌*◌, ◌≤◌, ◌≡◌, refl, List, [], ◌∷◌, length}
use Rattle.std.proofs.Common.{ap, arith}
use Rattle.std.proofs.Math.Option.{Option-elim}
use Rattle.slices.specs.Every.{Every}
use Rattle.sheet.specs.Sheet.{division, leaf, Sheet}
use Rattle.sheet.specs.Reading.{read_sheet}
use Rattle.sheet.specs.Accepted.{Accepts}
use Rattle.sheet.specs.Multiplier.{with_multiplier, slid}
use Rattle.sheet.proofs.MultiplierLaws.{slid_accepted}
use Rattle.derivations.specs.Derivation.{onto}
use Rattle.trees.specs.ValidTrees as trees
use Rattle.trees.specs.ValidTrees.{whose, distance_to}
use Rattle.pricing.specs.declared.Priced.{Priced}
use Rattle.pricing.specs.Pricing.{price_sheet, priced_of, Answer, figures_of, figures_in}
use Rattle.pricing.specs.PricingLaws.{price_own}
use Rattle.finding.specs.Finding.{Finds}
use Rattle.finding.specs.Cases.{bar_or_tie, slid_cases, slid_computed}
use Rattle.finding.specs.FindingCases.{Answers, each}
use Rattle.sheet.specs.Outcome.{Outcome, number_in}
use Rattle.sheet.specs.Refusal.{answer_number}

-- `near_middle` at four multipliers, and `bar_or_tie` at 0 and 1
pub slid_answered : Every Answers slid_cases
slid_answered = each slid_cases slid_computed

-- the sheet of `bar_or_tie`, and that its text means it
abbrev pub sheet_tie : Sheet
sheet_tie =
    record {
      grammar = record {
        nonterminals = 2;
        start = 0;
        multiplier = 10;
        rules = division 0 1 (1 ∷ 1 ∷ []) ∷ leaf 0 1 1 ∷ leaf 1 1 1 ∷ leaf 1 1 0 ∷ [];
      };
      playing = record { bars = 1; onsets = record { unit = 0; pitch = 60 } ∷ [] };
    }

tie_means : Accepts bar_or_tie sheet_tie
unfolding read_sheet
tie_means = (record { bar_lines = 0 ∷ 2_000_000 ∷ [] }, refl)

pub tie_slid : (a : ℕ) → a ≤ 65535 → Accepts (slid a bar_or_tie) (with_multiplier a sheet_tie)
tie_slid a h = slid_accepted bar_or_tie sheet_tie a tie_means h

-- of its two trees `01` weighs 1 at distance 0, whatever the multiplier
pub tie_lighter : (a : ℕ) → trees.Priced (with_multiplier a sheet_tie) (1 ∷ []) 1 0
unfolding price_sheet onto whose distance_to Option-elim
tie_lighter a = (price_own (with_multiplier a sheet_tie) (1 ∷ []) 1 1 0 (a * 1 + 0) refl).0

-- With a = 0 the tree found may be dominated: on this sheet it weighs 3 at distance 0, and a valid tree weighs 1 at the same distance.
pub dominated_at_zero : (tree tree' work work' : List ℕ) (r : Answer) → 240 ≤ length work → 81 ≤ length tree
    → Finds (slid 0 bar_or_tie) tree tree' work work' r
    → (answer_number r ≡ 0) × ((figures_in r).weight ≡ 3) × ((figures_in r).distance ≡ 0)
    × Accepts (slid 0 bar_or_tie) (with_multiplier 0 sheet_tie)
    × trees.Priced (with_multiplier 0 sheet_tie) (1 ∷ []) 1 0
dominated_at_zero tree tree' work work' r w t f =
    let g = (slid_answered.1.1.1.1.0 tree tree' work work' r w t f).answer_is in (
      ap number_in g,
      ap (λ (x : Outcome Priced). (figures_of x).weight) g,
      ap (λ (x : Outcome Priced). (figures_of x).distance) g,
      tie_slid 0 (omega arith),
      tie_lighter 0,
    )

-- Wrong answers that the contract of `read` rules out, by computation: what each would give, and that the contract is false of it.
use Rattle.std.specs.Prelude.{ℕ, ◌≡◌, ◌++◌, get_or, Result}
use Rattle.std.proofs.Common.{sym, ap, ◌∙◌, arith}
use Rattle.slices.specs.Over.{over}
use Rattle.slices.specs.Pad.{pad}
use Rattle.sheet.specs.declared.table.Reading.{Reading}
use Rattle.sheet.specs.Literal.{text_of, times}
use Rattle.sheet.specs.Reading.{read_sheet}
use Rattle.sheet.specs.declared.refusal.Refused.{Refused}
use Rattle.sheet.specs.Outcome.{Outcome, number_in, value_in}
use Rattle.sheet.specs.Refusal.{outcome_of}
use Rattle.sheet.specs.Held.{units, playing_table, no_sheet, tables, Reads}
use Rattle.sheet.specs.Cases.{grammar_s, head_s, onsets33}
use Rattle.sheet.specs.UnitCases.{half_unit, crowded_in_time}
use Rattle.sheet.specs.TapCases.{one_bar}

-- the unit of the first onset that a reading has; 0 where it is refused
abbrev unit_in_outcome : Outcome Reading → ℕ
unit_in_outcome o = (get_or (value_in (tables no_sheet) o).playing.units 0 (units 0)).0

abbrev first_unit : Result Reading Refused → ℕ
first_unit r = unit_in_outcome (outcome_of r)

-- 5 for the head of a `44` line where the length's 4 comes first
head_before_length : (r : Result Reading Refused) → Reads (text_of "470200000A\n440200060201\n") r → number_in (outcome_of r) ≡ 5 → ⊥
unfolding read_sheet
head_before_length r h e = let z : ◌≡◌ {A = ℕ} 5 4 = sym e ∙ ap number_in h in omega arith

-- 8 for a division that is rule 64: it is taken, and the line behind it has 3
division_64_refused : (r : Result Reading Refused)
    → Reads (text_of "470200000A\n" ++ times 63 (text_of "4C00000101\n") ++ text_of "44000006020101\n5800\n") r
    → number_in (outcome_of r) ≡ 8 → ⊥
unfolding read_sheet
division_64_refused r h e = let z : ◌≡◌ {A = ℕ} 8 3 = sym e ∙ ap number_in h in omega arith

-- a half downwards: unit 0 for an onset at half a unit
half_downwards : (r : Result Reading Refused) → Reads half_unit r → first_unit r ≡ 0 → ⊥
unfolding read_sheet tables playing_table pad over
half_downwards r h e =
    let z : ◌≡◌ {A = ℕ} 0 1 = sym e ∙ ap unit_in_outcome h in omega arith

-- an onset taken that is before the end in time and rounded up to it
end_let_through : (r : Result Reading Refused) → Reads (grammar_s ++ head_s ++ text_of "4E001E847F3C40\n") r
    → number_in (outcome_of r) ≡ 0 → ⊥
unfolding read_sheet
end_let_through r h e = let z : ◌≡◌ {A = ℕ} 0 7 = sym e ∙ ap number_in h in omega arith

-- the bar counted from the time: onset 33 of a bar taken where one of them is rounded up to its bar line, and one refused that is rounded
-- up into the next bar
bar_from_time_taken : (r : Result Reading Refused) → Reads onsets33 r → number_in (outcome_of r) ≡ 0 → ⊥
unfolding read_sheet
bar_from_time_taken r h e = let z : ◌≡◌ {A = ℕ} 0 8 = sym e ∙ ap number_in h in omega arith

bar_from_time_refused : (r : Result Reading Refused) → Reads crowded_in_time r → number_in (outcome_of r) ≡ 8 → ⊥
unfolding read_sheet
bar_from_time_refused r h e = let z : ◌≡◌ {A = ℕ} 8 0 = sym e ∙ ap number_in h in omega arith

-- a share of the next bar's duration: an onset in the middle of a bar of 1,000 microseconds at a quarter of it, where the next lasts 2,000
next_bars_duration : (r : Result Reading Refused)
    → Reads (grammar_s ++ text_of "450200000000\n4200000000\n42000003E8\n4200000BB8\n4E000001F43C40\n") r
    → first_unit r ≡ 5040 → ⊥
unfolding read_sheet tables playing_table pad over
next_bars_duration r h e =
    let z : ◌≡◌ {A = ℕ} 5040 10080 = sym e ∙ ap unit_in_outcome h in omega arith

-- 3 for an onset where a tap is missing; a step of 999 taken; an onset before the first tap taken
three_for_seventeen : (r : Result Reading Refused) → Reads (grammar_s ++ text_of "450100000000\n4200000005\n4E000000053C40\n") r
    → number_in (outcome_of r) ≡ 3 → ⊥
unfolding read_sheet
three_for_seventeen r h e = let z : ◌≡◌ {A = ℕ} 3 17 = sym e ∙ ap number_in h in omega arith

step_let_through : (r : Result Reading Refused) → Reads (grammar_s ++ text_of "450100000000\n4200000005\n42000003EC\n4E000000053C40\n") r
    → number_in (outcome_of r) ≡ 0 → ⊥
unfolding read_sheet
step_let_through r h e = let z : ◌≡◌ {A = ℕ} 0 18 = sym e ∙ ap number_in h in omega arith

early_let_through : (r : Result Reading Refused) → Reads (one_bar ++ text_of "4E000000043C40\n") r → number_in (outcome_of r) ≡ 0 → ⊥
unfolding read_sheet
early_let_through r h e = let z : ◌≡◌ {A = ℕ} 0 19 = sym e ∙ ap number_in h in omega arith

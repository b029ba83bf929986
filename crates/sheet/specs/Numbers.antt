-- Which numbers a text's refusal can have: reading gives 1 to 8 and 17 to 19.
use Rattle.std.specs.Prelude.{ℕ, zero, suc, ◌+◌, ◌≤◌, ◌<◌, ◌≡◌, refl, Bool, true, false, cond, List, [], ◌∷◌, ◌⊎◌, length, ltb}
use Rattle.std.proofs.Common.{sym, subst, inl, inr, arith}
use Rattle.std.proofs.Math.Decide.{dec_le}
use Rattle.hextext.specs.Text.{bad_line, lines}
use Rattle.sheet.specs.Sheet.{Playing, Timing, TimedSheet}
use Rattle.sheet.specs.Outcome.{Outcome, refused, accepted}
use Rattle.sheet.specs.Reading.{demand, first, Progress, nothing, in_rules, in_taps, in_onsets, head_refusal, division_refusal}
use Rattle.sheet.specs.Reading.{leaf_refusal}
use Rattle.sheet.specs.Reading.{rule_refusal, playing_refusal, step_refusal, tap_refusal, onset_form, moment_refusal, room_refusal}
use Rattle.sheet.specs.Reading.{onset_refusal, rules_refusal, other_refusal, refusal, after, at_end, read_lines, read_sheet}
use Rattle.sheet.specs.Laws.{too_long, ill_formed, well_formed}

-- the numbers of reading: document 01's 1 to 8, and those of document 02, (vi)
abbrev pub ReadingNumber : ℕ → Type 0
ReadingNumber k = ((1 ≤ k) × (k ≤ 8)) ⊎ ((17 ≤ k) × (k ≤ 19))

-- none of them is 0, nor a number that an accepted sheet can be refused with
pub reading_apart : (k : ℕ) → ReadingNumber k → (k ≡ 0 → ⊥) × ((j : ℕ) → 8 < j → j < 17 → k ≡ j → ⊥)
reading_apart k (inl h) = (λ e. omega (arith, h), λ j low high e. omega (arith, h))
reading_apart k (inr h) = (λ e. omega (arith, h), λ j low high e. omega (arith, h))

abbrev Small : ℕ → Type 0
Small k = (k ≡ 0) ⊎ ReadingNumber k

-- ---- a line's refusal

pass : (t : Bool) (k n : ℕ) → Small k → Small n → Small (demand t k n)
pass true k n hk hn = hn
pass false k n hk hn = hk

either : (t : Bool) (k n : ℕ) → Small k → Small n → Small (cond t k n)
either true k n hk hn = hk
either false k n hk hn = hn

one_of : (k n : ℕ) → Small k → Small n → Small (first k n)
one_of zero n hk hn = hn
one_of (suc k) n hk hn = hk

-- the numbers that a line can have, and 0 for none
none : Small 0
none = inl refl

three : Small 3
three = inr (inl (omega arith, omega arith))

four : Small 4
four = inr (inl (omega arith, omega arith))

five : Small 5
five = inr (inl (omega arith, omega arith))

six : Small 6
six = inr (inl (omega arith, omega arith))

seven : Small 7
seven = inr (inl (omega arith, omega arith))

eight : Small 8
eight = inr (inl (omega arith, omega arith))

seventeen : Small 17
seventeen = inr (inr (omega arith, omega arith))

eighteen : Small 18
eighteen = inr (inr (omega arith, omega arith))

nineteen : Small 19
nineteen = inr (inr (omega arith, omega arith))

ruleset small = (pass, either, one_of, none, three, four, five, six, seven, eight, seventeen, eighteen, nineteen)

head_small : (l : List ℕ) → Small (head_refusal l)
unfolding head_refusal
head_small l = search small depth 10

division_small : (q before : ℕ) (l : List ℕ) → Small (division_refusal q before l)
unfolding division_refusal
division_small q before l = search small depth 10

leaf_small : (q before : ℕ) (l : List ℕ) → Small (leaf_refusal q before l)
unfolding leaf_refusal
leaf_small q before l = search small depth 10

playing_small : (l : List ℕ) → Small (playing_refusal l)
unfolding playing_refusal
playing_small l = search small depth 10

step_small : (before t : ℕ) → Small (step_refusal before t)
unfolding step_refusal
step_small before t = search small depth 10

tap_small : (taps l : List ℕ) → Small (tap_refusal taps l)
unfolding tap_refusal
tap_small taps l = search (small, step_small) depth 10

rule_small : (q before : ℕ) (l : List ℕ) → Small (rule_refusal q before l)
unfolding rule_refusal
rule_small q before l = search (small, division_small, leaf_small) depth 10

form_small : (l : List ℕ) → Small (onset_form l)
unfolding onset_form
form_small l = search small depth 10

moment_small : (bars : ℕ) (timing : Timing) (last t : ℕ) → Small (moment_refusal bars timing last t)
unfolding moment_refusal
moment_small bars timing last t = search small depth 10

room_small : (before here : ℕ) → Small (room_refusal before here)
unfolding room_refusal
room_small before here = search small depth 10

onset_small : (timing : Timing) (p : Playing) (last : ℕ) (l : List ℕ) → Small (onset_refusal timing p last l)
unfolding onset_refusal
onset_small timing p last l = search (small, form_small, moment_small, room_small) depth 10

refusal_small : (r : Progress) (l : List ℕ) → Small (refusal r l)
unfolding refusal rules_refusal other_refusal
refusal_small nothing l = search (small, head_small)
refusal_small (in_rules g) l = search (small, rule_small, playing_small) depth 10
refusal_small (in_taps g bars taps) l = search (small, tap_small)
refusal_small (in_onsets g tapped timing p last) l = search (small, onset_small)

-- ---- a text's

abbrev SmallIn : Outcome TimedSheet → Type 0
SmallIn (refused k n) = ReadingNumber k
SmallIn (accepted x) = Unit {0}

end_small : (r : Progress) (n : ℕ) → SmallIn (at_end r n)
unfolding at_end
end_small nothing n = inl (omega arith, omega arith)
end_small (in_rules g) n = inl (omega arith, omega arith)
end_small (in_taps g bars taps) n = inr (omega arith, omega arith)
end_small (in_onsets g tapped timing p last) n = go (ltb 0 (length p.onsets))
  where
    go : (t : Bool) → SmallIn (cond t (accepted (record { sheet = record { grammar = g; playing = p }; timing = timing })) (refused 3 n))
    go true = tt
    go false = inl (omega arith, omega arith)

lines_small : (r : Progress) (n : ℕ) (ls : List (List ℕ)) → SmallIn (read_lines r n ls)
unfolding read_lines
lines_small r n [] = end_small r n
lines_small r n (l ∷ ls) = go (refusal r l) (refusal_small r l) (lines_small (after r l) (n + 1) ls)
  where
    go : (k : ℕ) → Small k → SmallIn (read_lines (after r l) (n + 1) ls)
        → SmallIn (elim k [ zero ↦ read_lines (after r l) (n + 1) ls | suc j ↦ refused (suc j) n ])
    go zero h rest = rest
    go (suc j) (inl z) rest = let f : ⊥ = omega arith in absurd f
    go (suc j) (inr h) rest = h

sheet_small : (t : List ℕ) → SmallIn (read_sheet t)
sheet_small t = go (dec_le (length t) 16384)
  where
    formed : length t ≤ 16384 → (k : ℕ) → bad_line t ≡ k → SmallIn (read_sheet t)
    formed h zero e = rw (well_formed t h e) (lines_small nothing 1 (lines t))
    formed h (suc k) e = rw (ill_formed t h (suc k) (sym e) (λ x. omega arith)) (inl (omega arith, omega arith))

    go : Dec (length t ≤ 16384) → SmallIn (read_sheet t)
    go (yes h) = formed h (bad_line t) refl
    go (no h) = rw (too_long t (omega arith)) (inl (omega arith, omega arith))

pub reading_number : (t : List ℕ) (k n : ℕ) → read_sheet t ≡ refused k n → ReadingNumber k
reading_number t k n e = subst SmallIn e (sheet_small t)

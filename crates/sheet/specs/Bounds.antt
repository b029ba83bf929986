-- How large the number and the line of a refusal can be.
use Rattle.std.specs.Prelude.{ℕ, zero, suc, ◌+◌, ◌≤◌, ◌≡◌, refl, Bool, true, false, cond, List, [], ◌∷◌, length, ltb}
use Rattle.std.proofs.Common.{sym, subst, arith, le_trans}
use Rattle.std.proofs.Math.Decide.{dec_le}
use Rattle.hextext.specs.Text.{bad_line, lines}
use Rattle.hextext.specs.Laws.{bad_line_most, lines_most}
use Rattle.sheet.specs.Sheet.{TimedSheet}
use Rattle.sheet.specs.Outcome.{Outcome, refused, accepted}
use Rattle.sheet.specs.Reading.{Progress, nothing, in_rules, in_taps, in_onsets, refusal, after, at_end}
use Rattle.sheet.specs.Reading.{read_lines, read_sheet}
use Rattle.sheet.specs.Laws.{read_on, read_stop, too_long, ill_formed, well_formed}

-- a refusal's number is 1 or more, and its line at most m
abbrev Within : ℕ → Outcome TimedSheet → Type 0
Within m (refused k n) = (1 ≤ k) × (n ≤ m)
Within m (accepted x) = Unit {0}

within_weaken : (m m' : ℕ) → m ≤ m' → (o : Outcome TimedSheet) → Within m o → Within m' o
within_weaken m m' h (refused k n) w = (w.0, le_trans w.1 h)
within_weaken m m' h (accepted x) w = tt

end_within : (r : Progress) (n : ℕ) → Within n (at_end r n)
unfolding at_end
end_within nothing n = (omega arith, omega arith)
end_within (in_rules g) n = (omega arith, omega arith)
end_within (in_taps g bars taps) n = (omega arith, omega arith)
end_within (in_onsets g tapped timing p last) n = go (ltb 0 (length p.onsets))
  where
    go : (t : Bool) → Within n (cond t (accepted (record { sheet = record { grammar = g; playing = p }; timing = timing })) (refused 3 n))
    go true = tt
    go false = (omega arith, omega arith)

-- a line that is refused is one of the text's, or the one behind them
lines_within : (r : Progress) (n : ℕ) (ls : List (List ℕ)) → Within (n + length ls) (read_lines r n ls)
unfolding read_lines
lines_within r n [] = within_weaken n (n + 0) (omega arith) (at_end r n) (end_within r n)
lines_within r n (b ∷ ls) = go (refusal r b) refl (lines_within (after r b) (n + 1) ls)
  where
    go : (k : ℕ) → refusal r b ≡ k → Within (n + 1 + length ls) (read_lines (after r b) (n + 1) ls)
        → Within (n + suc (length ls)) (read_lines r n (b ∷ ls))
    go zero e h = rw (read_on r n b ls e) (within_weaken _ _ (omega arith) (read_lines (after r b) (n + 1) ls) h)
    go (suc k) e h = rw (read_stop r n b ls (suc k) (sym e) (λ x. omega arith)) (omega arith, omega arith)

-- a refusal has a number, and its line fits two bytes
pub sheet_within : (t : List ℕ) → Within 16385 (read_sheet t)
sheet_within t = go (dec_le (length t) 16384)
  where
    formed : length t ≤ 16384 → (k : ℕ) → k ≡ bad_line t → Within 16385 (read_sheet t)
    formed h zero e =
        rw (well_formed t h (sym e))
        (within_weaken _ 16385 (let m = lines_most t in omega arith) (read_lines nothing 1 (lines t)) (lines_within nothing 1 (lines t)))
    formed h (suc k) e =
        rw (ill_formed t h (suc k) e (λ x. omega arith)) (omega arith, (let m = bad_line_most t in omega arith))

    go : Dec (length t ≤ 16384) → Within 16385 (read_sheet t)
    go (yes h) = formed h (bad_line t) refl
    go (no h) = rw (too_long t (omega arith)) (omega arith, omega arith)

pub refused_within : (t : List ℕ) (k n : ℕ) → read_sheet t ≡ refused k n → (1 ≤ k) × (n ≤ 16385)
refused_within t k n e = subst (Within 16385) e (sheet_within t)

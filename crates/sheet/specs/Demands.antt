-- Which way a demand goes, as rules for `search`: a return of the code has passed each demand before it, and fails one or is past them all.
-- Assumes nothing.
use Rattle.std.specs.Prelude.{ℕ, ◌<◌, ◌≤◌, ◌≡◌, true, false, cond, List, ltb, leb, eqb}
use Rattle.std.proofs.Common.{eq-eqb, ne_eqb, lt-ltb, le-ltb, le-leb, rules}
use Rattle.std.proofs.lemmas.Bool.{lt-leb}
use Rattle.sheet.specs.Reading.{demand, all_below}

module _ (a b r k x : ℕ) where
  pub pass_eq : a ≡ b → x ≡ k → x ≡ demand (eqb a b) r k
  pass_eq h e = simp (eq-eqb a b h) e

  pub fail_eq : (a ≡ b → ⊥) → x ≡ r → x ≡ demand (eqb a b) r k
  fail_eq h e = simp (ne_eqb a b h) e

  pub pass_le : a ≤ b → x ≡ k → x ≡ demand (leb a b) r k
  pass_le h e = simp (le-leb a b h) e

  pub fail_le : b < a → x ≡ r → x ≡ demand (leb a b) r k
  fail_le h e = simp (lt-leb a b h) e

  pub pass_lt : a < b → x ≡ k → x ≡ demand (ltb a b) r k
  pass_lt h e = simp (lt-ltb a b h) e

  pub fail_lt : b ≤ a → x ≡ r → x ≡ demand (ltb a b) r k
  fail_lt h e = simp (le-ltb a b h) e

  -- a case that ends the demands, or does not
  pub case_met : a ≡ b → x ≡ r → x ≡ cond (eqb a b) r k
  case_met h e = simp (eq-eqb a b h) e

  pub case_other : (a ≡ b → ⊥) → x ≡ k → x ≡ cond (eqb a b) r k
  case_other h e = simp (ne_eqb a b h) e

-- the demand that all parts are nonterminals
module _ (q : ℕ) (xs : List ℕ) (r k x : ℕ) where
  pub pass_below : all_below q xs ≡ true → x ≡ k → x ≡ demand (all_below q xs) r k
  pass_below h e = simp h e

  pub fail_below : all_below q xs ≡ false → x ≡ r → x ≡ demand (all_below q xs) r k
  fail_below h e = simp h e

pub ruleset demands = (rules, pass_eq, fail_eq, pass_le, fail_le, pass_lt, fail_lt, case_met, case_other)

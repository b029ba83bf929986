-- Steps of collecting the lengths from the divisors, one after the other.
use Prim.Native.Nat.{ℕ, ◌+◌, ◌<◌, ◌≤◌}
use mathlib.Core.Path.{◌≡◌, refl, sym, ap, ◌∙◌}
use mathlib.Core.Bool.{Bool, true, false}
use mathlib.Core.List.{List, [], ◌∷◌, ◌++◌, append_assoc}
use native.Mathlib.Numerals.{add-one}
use native.Mathlib.Omega.{arith}
use lib.ListN.{length, get_or, set, drop, replicate, length-append, drop_of_length-le}
use lib.Seq.{drop-cons}
use Rattle.slices.specs.Pad.{pad, pad_nil, pad_more}
use Rattle.sheet.specs.Sheet.{Rule, Grammar}
use Rattle.sizes.specs.declared.LengthTable.{LengthTable}
use Rattle.sizes.specs.Sizes.{divisors, reached, collect, lengths_of}
use Rattle.sizes.specs.Held.{arity_flags, length_table, ReachedOf}
use Rattle.sizes.specs.Divisors.{Falls, divisors_fall, divisors-length, falls_front, falls_skip}
use Rattle.sizes.specs.Collect.{collect_in, collect_out, collect_end}
use Rattle.sizes.specs.SizesLaws.{lengths_collected}

-- the first j divisors have been looked at: the lengths found among them are the first `count` cells, and the rest is to be collected
pub record Collected (rs : List Rule) (cells : List ℕ) (count j : ℕ) : Type 0 where
  pub found : List ℕ
  pub counted : length found ≡ count
  pub held : cells ≡ pad 84 0 found
  pub falls : Falls (found ++ drop j divisors)
  pub rest : lengths_of rs ≡ collect rs (drop j divisors) found

-- of any grammar whose arities the flags are
abbrev pub CollectedOf : (flags : List Bool) (cells : List ℕ) (count j : ℕ) → Type 0
CollectedOf flags cells count j = (h : Grammar) → flags ≡ arity_flags h.rules → Collected h.rules cells count j

-- no divisor has been looked at
pub collected_none : (flags : List Bool) → CollectedOf flags (replicate 84 0) 0 0
collected_none flags h f =
    record { found = []; counted = refl; held = pad_nil 84 0; falls = divisors_fall; rest = lengths_collected h.rules }

module _ (flags : List Bool) (cells : List ℕ) (count j : ℕ) (so_far : CollectedOf flags cells count j) where
  -- all have
  pub collected_all : 84 ≤ j → (h : Grammar) → flags ≡ arity_flags h.rules
      → ◌≡◌ {A = LengthTable} (record { count = count; cells = cells }) (length_table (lengths_of h.rules))
  unfolding length_table
  collected_all l h f =
      let c = so_far h f in
      let all : lengths_of h.rules ≡ c.found =
      c.rest ∙ ap (λ (ds : List ℕ). collect h.rules ds c.found) (drop_of_length-le divisors {i = j}
      (omega (arith, divisors-length)))
      ∙ collect_end h.rules c.found in
      rw (all, c.counted, ← c.held)

  -- d is the next, and b tells whether it is a length
  module _ (h : j < 84) (d : ℕ) (is : d ≡ get_or divisors j 0) (b : Bool) (told : ReachedOf flags cells count d b) where
    next_divisor : drop j divisors ≡ d ∷ drop (j + 1) divisors
    next_divisor = rw (add-one, is) (drop-cons divisors j 0 (omega (arith, divisors-length)))

    -- of a grammar with these flags
    module _ (g : Grammar) (f : flags ≡ arity_flags g.rules) where
      abbrev found : List ℕ
      found = (so_far g f).found

      falls_on : Falls (found ++ (d ∷ drop (j + 1) divisors))
      falls_on = rw (← next_divisor) (so_far g f).falls

      rest_on : lengths_of g.rules ≡ collect g.rules (d ∷ drop (j + 1) divisors) found
      rest_on = rw (← next_divisor) (so_far g f).rest

      is_told : b ≡ reached g.rules found d
      is_told =
          let c = so_far g f in
          told g found f (record { counted = c.counted; held = c.held; falls = falls_front found (drop j divisors) c.falls })

    -- it is one
    pub collected_in : b ≡ true → count < 84 → CollectedOf flags (set cells count d) (count + 1) (j + 1)
    collected_in e m g f =
        let c = so_far g f in
        let one : reached g.rules c.found d ≡ true = sym (is_told g f) ∙ e in
        record {
          found = c.found ++ (d ∷ []);
          counted = length-append c.found (d ∷ []) ∙ ap (λ (n : ℕ). n + 1) c.counted;
          held = pad_more 84 0 c.found cells count d c.held c.counted m;
          falls = rw (append_assoc c.found (d ∷ []) (drop (j + 1) divisors)) (falls_on g f);
          rest = rest_on g f ∙ collect_in g.rules d (drop (j + 1) divisors) c.found one;
        }

    -- it is none
    pub collected_out : b ≡ false → CollectedOf flags cells count (j + 1)
    collected_out e g f =
        let c = so_far g f in
        let none : reached g.rules c.found d ≡ false = sym (is_told g f) ∙ e in
        record {
          found = c.found;
          counted = c.counted;
          held = c.held;
          falls = falls_skip c.found d (drop (j + 1) divisors) (falls_on g f);
          rest = rest_on g f ∙ collect_out g.rules d (drop (j + 1) divisors) c.found none;
        }

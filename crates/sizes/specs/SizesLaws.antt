-- Laws of the required lengths: `lengths_of` lists the lengths of a good grammar, 1 to 84 that fall, and any list of them is as long.
-- A length divides 20,160, so it is among the divisors from which the lengths are collected. Assumes nothing.
use Rattle.std.specs.Prelude.{ℕ, zero, suc, ◌*◌, ◌<◌, ◌≤◌, ◌≡◌, true, List, [], ◌∷◌, length, get_or, drop, eqb}
use Rattle.std.proofs.Math.Path.{refl, sym, ap}
use Rattle.std.proofs.Common.{◌∙◌, mul_assoc, arith, eqb-true}
use Rattle.std.proofs.lemmas.Bool.{false≢true}
use Rattle.std.proofs.Math.Nat.{max-le}
use Rattle.slices.specs.Every.{Every}
use Rattle.sheet.specs.Sheet.{Rule, division, leaf, Grammar, Playing, in_bar}
use Rattle.sheet.specs.Good.{GoodRule, GoodRules, GoodOnsets}
use Rattle.sizes.specs.Sizes.{largest, most_in_bar, has_arity, Length, whole, part, member, Listed, divisors, reached, collect}
use Rattle.sizes.specs.Sizes.{lengths_of, length_count}
use Rattle.sizes.specs.declared.LengthTable.{LengthTable}
use Rattle.sizes.specs.Held.{length_table}
use Rattle.sizes.specs.Members.{by_or, member_here, every_member, once_shorter}
use Rattle.sizes.specs.Divisors.{divides_member, positive_right, divisors_fall, divisors_first, divisors-length}
use Rattle.sizes.specs.Divisors.{falls_once, falls_at}
use Rattle.sizes.specs.Collect.{collect_keeps, collect_lengths, collect_falls, collect_part, length-collect, first_collect}

-- a length divides 20,160
pub length-divides : (rs : List Rule) (x : ℕ) → Length rs x → (q : ℕ) × (q * x ≡ 20160)
length-divides rs x whole = (1, refl)
length-divides rs x (part z k y l a e) =
    let d = length-divides rs z l in
    (d.0 * k, mul_assoc d.0 k y ∙ ap (λ (n : ℕ). d.0 * n) e ∙ d.1)

-- a list that does not start with the default is not empty
some_first : (xs : List ℕ) → get_or xs 0 0 ≡ 20160 → 1 ≤ length xs
some_first [] e = let f : ⊥ = omega arith in absurd f
some_first (x ∷ xs) e = omega arith

-- a good grammar's divisions have 2 to 8 parts
pub arity_bounds : (q : ℕ) (rs : List Rule) (k : ℕ) → Every (GoodRule q) rs → has_arity k rs ≡ true → (2 ≤ k) × (k ≤ 8)
unfolding has_arity
arity_bounds q [] k ev e = absurd (false≢true e)
arity_bounds q (division h w ks ∷ rs) k ev e =
    by_or (eqb (length ks) k) (has_arity k rs)
    (λ t. let s : length ks ≡ k = eqb-true _ _ t in (omega (arith, ev.0.two), omega (arith, ev.0.eight)))
    (λ t. arity_bounds q rs k ev.1 t) e
arity_bounds q (leaf h w n ∷ rs) k ev e = arity_bounds q rs k ev.1 e

module _ (rs : List Rule) where
  -- the lengths are collected from the divisors; laws cite this, since `lengths_of` unfolds to the end
  pub lengths_collected : lengths_of rs ≡ collect rs divisors []
  unfolding lengths_of
  lengths_collected = refl

  -- L is the length of that list
  pub count_length : length_count rs ≡ length (lengths_of rs)
  unfolding length_count
  count_length = refl

  -- so the table of lengths tells it
  pub table_count : (t : LengthTable) → t ≡ length_table (lengths_of rs) → t.count ≡ length_count rs
  unfolding length_table
  table_count t e = ap (λ (x : LengthTable). x.count) e ∙ sym count_length

  -- of a list of divisors that starts with the whole bar it is found first
  whole_collected : (ds : List ℕ) → collect rs (20160 ∷ ds) [] ≡ collect rs ds (20160 ∷ [])
  unfolding collect reached
  whole_collected ds = refl

  whole_found : lengths_of rs ≡ collect rs (drop 1 divisors) (20160 ∷ [])
  whole_found = lengths_collected ∙ ap (λ (ds : List ℕ). collect rs ds []) divisors_first ∙ whole_collected (drop 1 divisors)

  -- the first length is the whole bar
  pub whole_first : get_or (lengths_of rs) 0 0 ≡ 20160
  whole_first = rw whole_found (first_collect rs (drop 1 divisors) [] 20160)

  -- so there is one or more
  pub length_count_least : 1 ≤ length_count rs
  length_count_least = rw count_length (some_first (lengths_of rs) whole_first)

  -- there are at most 84 lengths
  pub length_count_most : length_count rs ≤ 84
  length_count_most = rw (count_length, lengths_collected) (omega (arith, length-collect rs divisors [], divisors-length))

  -- the lengths fall
  pub lengths_fall : (i j : ℕ) → i < j → j < length_count rs → get_or (lengths_of rs) j 0 < get_or (lengths_of rs) i 0
  lengths_fall =
      rw (count_length, lengths_collected) (falls_at (collect rs divisors []) (collect_falls rs divisors [] divisors_fall))

  -- lists of the lengths are equally long, so that their number is well defined
  pub count_of_lengths : (xs ys : List ℕ) → Listed rs xs → Listed rs ys → length xs ≡ length ys
  count_of_lengths xs ys a b =
      let no_more : (us vs : List ℕ) → Listed rs us → Listed rs vs → length us ≤ length vs =
      λ us vs k l. once_shorter us vs k.once (λ x m. l.all x (every_member (Length rs) us x k.each m)) in
      omega (arith, no_more xs ys a b, no_more ys xs b a)

-- a good grammar's lengths
module _ (g : Grammar) (good : GoodRules g) where
  -- every length is found
  length-found : (x : ℕ) → Length g.rules x → member x (collect g.rules divisors []) ≡ true
  length-found x whole =
      rw (sym (lengths_collected g.rules) ∙ whole_found g.rules)
      (collect_keeps g.rules (drop 1 divisors) (20160 ∷ []) 20160 (member_here 20160 20160 [] refl))
  length-found x (part z k y l a e) =
      let two-eight = arity_bounds g.nonterminals g.rules k good.rules a in
      let divides = length-divides g.rules y (part z k y l a e) in
      collect_part g.rules divisors [] k y divisors_fall a two-eight.0 two-eight.1
      (positive_right divides.0 y divides.1)
      (divides_member divides.0 y divides.1)
      (rw e (length-found z l))

  -- `lengths_of` names every length, each once
  pub lengths_listed : Listed g.rules (lengths_of g.rules)
  lengths_listed =
      let rs = g.rules in
      rw (lengths_collected rs)
      (record {
        each = collect_lengths rs divisors [] tt;
        all = length-found;
        once = falls_once (collect rs divisors []) (collect_falls rs divisors [] divisors_fall);
      })

-- the largest is no more than a bound of all
largest_most : (f : ℕ → ℕ) (n m : ℕ) → ((b : ℕ) → f b ≤ m) → largest f n ≤ m
unfolding largest
largest_most f zero m h = omega arith
largest_most f (suc n) m h = max-le (largest_most f n m h) (h n)

-- no bar has more than 32 onsets
pub most_in_bar_most : (p : Playing) → GoodOnsets p → most_in_bar p ≤ 32
unfolding most_in_bar
most_in_bar_most p good = largest_most (λ (b : ℕ). in_bar b p.onsets) p.bars 32 good.few

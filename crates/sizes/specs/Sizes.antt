-- The required lengths of finding's slices (document 01, "Pricing, score lines, finding"), over the sheet that reading gives.
use Rattle.std.specs.Prelude.{ℕ, zero, suc, ◌+◌, ◌*◌, max, ◌≡◌, Bool, true, false, ◌&&◌, ◌||◌, List, [], ◌∷◌, ◌++◌, length, eqb}
use Rattle.slices.specs.Every.{Every}
use Rattle.sheet.specs.Sheet.{Rule, division, leaf, Playing, Sheet, bar_units, in_bar}

-- N, the number of onsets
abbrev pub onset_count : Sheet → ℕ
onset_count s = length s.playing.onsets

-- the largest of f 0 to f (n - 1), 0 for none
unfoldable pub largest : (ℕ → ℕ) → ℕ → ℕ
largest f zero = 0
largest f (suc n) = max (largest f n) (f n)

-- "E is the largest number of onsets in a bar", counted from units
unfoldable pub most_in_bar : Playing → ℕ
most_in_bar p = largest (λ (b : ℕ). in_bar b p.onsets) p.bars

-- k is the arity of a division rule, used or not
unfoldable pub has_arity : ℕ → List Rule → Bool
has_arity k [] = false
has_arity k (division h w ks ∷ rs) = eqb (length ks) k || has_arity k rs
has_arity k (leaf h w n ∷ rs) = has_arity k rs

-- "20,160 and every length reached from it by dividing, without remainder, by the k of any division rule, once or repeatedly"
pub data Length (rs : List Rule) : ℕ → Type 0 where
  whole : Length rs bar_units
  part : (x k y : ℕ) → Length rs x → has_arity k rs ≡ true → k * y ≡ x → Length rs y

-- x is in a list
unfoldable pub member : ℕ → List ℕ → Bool
member x [] = false
member x (y ∷ ys) = eqb x y || member x ys

-- a list names each of its elements once
abbrev pub Once : List ℕ → Type 0
Once [] = Unit {0}
Once (x ∷ xs) = (member x xs ≡ false) × Once xs

-- a list that names every length, each once: as long as there are lengths
pub record Listed (rs : List Rule) (xs : List ℕ) : Type 0 where
  pub each : Every (Length rs) xs
  pub all : (x : ℕ) → Length rs x → member x xs ≡ true
  pub once : Once xs

-- the divisors of 20,160, from the largest down
unfoldable pub divisors : List ℕ
divisors =
    20160 ∷ 10080 ∷ 6720 ∷ 5040 ∷ 4032 ∷ 3360 ∷ 2880 ∷ 2520 ∷ 2240 ∷ 2016 ∷ 1680 ∷ 1440 ∷ 1344 ∷ 1260 ∷ 1120 ∷ 1008 ∷ 960 ∷
    840 ∷ 720 ∷ 672 ∷ 630 ∷ 576 ∷ 560 ∷ 504 ∷ 480 ∷ 448 ∷ 420 ∷ 360 ∷ 336 ∷ 320 ∷ 315 ∷ 288 ∷ 280 ∷ 252 ∷ 240 ∷ 224 ∷ 210 ∷
    192 ∷ 180 ∷ 168 ∷ 160 ∷ 144 ∷ 140 ∷ 126 ∷ 120 ∷ 112 ∷ 105 ∷ 96 ∷ 90 ∷ 84 ∷ 80 ∷ 72 ∷ 70 ∷ 64 ∷ 63 ∷ 60 ∷ 56 ∷ 48 ∷ 45 ∷
    42 ∷ 40 ∷ 36 ∷ 35 ∷ 32 ∷ 30 ∷ 28 ∷ 24 ∷ 21 ∷ 20 ∷ 18 ∷ 16 ∷ 15 ∷ 14 ∷ 12 ∷ 10 ∷ 9 ∷ 8 ∷ 7 ∷ 6 ∷ 5 ∷ 4 ∷ 3 ∷ 2 ∷ 1 ∷ []

-- some k from 2 to 8 passes a test
unfoldable pub some_arity : (ℕ → Bool) → Bool
some_arity f = f 2 || (f 3 || (f 4 || (f 5 || (f 6 || (f 7 || f 8)))))

-- d is the whole bar, or some arity times d is among the lengths found
unfoldable pub reached : List Rule → List ℕ → ℕ → Bool
reached rs found d = eqb d bar_units || some_arity (λ (k : ℕ). has_arity k rs && member (k * d) found)

-- the lengths among the divisors `ds`, behind those found among larger ones
unfoldable pub collect : List Rule → (ds found : List ℕ) → List ℕ
collect rs [] found = found
collect rs (d ∷ ds) found = elim (reached rs found d) [ true ↦ collect rs ds (found ++ (d ∷ [])) | false ↦ collect rs ds found ]

-- the lengths, from the largest down; `SizesLaws.lengths_listed` proves that this lists them
unfoldable pub lengths_of : List Rule → List ℕ
unfolding collect reached some_arity has_arity member divisors
lengths_of rs = collect rs divisors []

-- L, the number of lengths
unfoldable pub length_count : List Rule → ℕ
unfolding lengths_of
length_count rs = length (lengths_of rs)

-- "a tree slice of at least B + 80 × N bytes (N onsets)"
unfoldable pub tree_bytes : Sheet → ℕ
tree_bytes s = s.playing.bars + 80 * onset_count s

-- "a work slice of at least 16 × (Q × L × E + B) 64-bit cells"
unfoldable pub work_cells : Sheet → ℕ
work_cells s = 16 * (s.grammar.nonterminals * length_count s.grammar.rules * most_in_bar s.playing + s.playing.bars)

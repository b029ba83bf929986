-- Wrong answers that the definitions and `remark_at`'s contract rule out, by computation: what each would give, and that this is false.
use Rattle.std.specs.Prelude.{ℕ, ◌≡◌, [], ◌∷◌, get_or}
use Rattle.std.proofs.Common.{sym, ap, ◌∙◌, arith}
use Rattle.std.specs.Float.Ieee.{mul, sub, div, of_int, to_bits}
use Rattle.sheet.specs.Reading.{read_sheet}
use Rattle.tempo.specs.Tempo.{in_range, percent_of, record_at, record_text}
use Rattle.tempo.specs.Cases.{cells, shorter, rushing, remark_at}

-- the bits of the percentage from 2,000,000 to 1,900,000
module _ (bits : ℕ) (e : cells 2_000_000 1_900_000 ≡ 1 ∷ bits ∷ []) where
  bits_are : bits ≡ 0x40150D79435E50D1
  bits_are = ap (λ xs. get_or xs 1 0) (sym e ∙ shorter)

  -- a2 / a1
  quotient_turned : bits ≡ 0xC014000000000005 → ⊥
  quotient_turned f = omega (arith, bits_are, f)

  -- the product before the subtraction: another last digit
  product_before_subtraction : bits ≡ 0x40150D79435E50D0 → ⊥
  product_before_subtraction f = omega (arith, bits_are, f)

  -- 1 for 100
  one_for_hundred : bits ≡ 0x3FAAF286BCA1AF20 → ⊥
  one_for_hundred f = omega (arith, bits_are, f)

-- bars counted from 1: behind bar 1 it is steady
bars_from_1 : remark_at rushing 1 ≡ 0 ∷ 0 ∷ 1 ∷ 2_000_000 ∷ 1_900_000 ∷ 0x40150D79435E50D1 ∷ [] → ⊥
unfolding read_sheet record_at record_text in_range percent_of mul sub div of_int to_bits
bars_from_1 e = let z : ◌≡◌ {A = ℕ} 0 1 = ap (λ xs. get_or xs 2 0) e in omega arith

-- the last bar's own duration, where no bar follows
own_of_last : remark_at rushing 3 ≡ 0 ∷ 0 ∷ 0 ∷ 1_900_100 ∷ 0 ∷ 0 ∷ [] → ⊥
unfolding read_sheet record_at record_text in_range percent_of mul sub div of_int to_bits
own_of_last e = let z : ◌≡◌ {A = ℕ} 0 1_900_100 = ap (λ xs. get_or xs 3 0) e in omega arith

-- Fields of more than one byte: "Fields are big-endian" (document 01, "The sheet").
use Rattle.std.specs.Prelude.{ℕ, zero, suc, ◌/◌, ◌%◌, ◌≡◌, refl, List, [], ◌∷◌, ◌++◌, length}
use Rattle.std.proofs.Common.{arith, length-append}

-- the last `count` bytes of x, the most significant first
unfoldable pub big_endian : (count x : ℕ) → List ℕ
big_endian zero x = []
big_endian (suc k) x = big_endian k (x / 256) ++ (x % 256 ∷ [])

pub length-big_endian : (count x : ℕ) → length (big_endian count x) ≡ count
unfolding big_endian
length-big_endian zero x = refl
length-big_endian (suc k) x = omega (arith, length-append (big_endian k (x / 256)) (x % 256 ∷ []), length-big_endian k (x / 256))

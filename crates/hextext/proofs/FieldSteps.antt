-- Steps of putting a field into a line, from its last byte to its first.
use Prim.Native.Nat.{ℕ, suc, ◌+◌, ◌/◌, ◌%◌}
use mathlib.Core.Path.{◌≡◌, sym, subst}
use mathlib.Core.List.{List}
use lib.ListN.{set}
use Rattle.slices.specs.Over.{over_from, over_from_nil, over_from_last}
use Rattle.hextext.specs.Fields.{big_endian, length-big_endian}

pub field_more : (line : List ℕ) (at x n m : ℕ) → n ≡ suc m
    → over_from at (big_endian m (x / 256)) (set line (at + m) (x % 256)) ≡ over_from at (big_endian n x) line
unfolding big_endian
field_more line at x n m e =
    rw e
    (subst (λ k. over_from at (big_endian m (x / 256)) (set line (at + k) (x % 256)) ≡ over_from at (big_endian (suc m) x) line)
    (length-big_endian m (x / 256))
    (sym (over_from_last at (big_endian m (x / 256)) line (x % 256))))

pub field_none : (line : List ℕ) (at x n : ℕ) → n ≡ 0 → line ≡ over_from at (big_endian n x) line
unfolding big_endian
field_none line at x n e = rw e (sym (over_from_nil at line))

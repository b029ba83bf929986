-- `packed` meets its contract: the number is read back as the rule. Assumes nothing.
use mathlib.Core.Path.{◌≡◌, sym, ◌∙◌}
use mathlib.Core.Bool.{true, false}
use Prim.Native.Nat.{ℕ, ◌+◌, ◌*◌, ◌/◌, ◌%◌, ◌<◌}
use native.Mathlib.Omega.{arith}
use borrow.Author.Tests.{eq-eqb, ne_eqb}
use lib.Dec.{eqb}
use Rattle.sheet.specs.declared.table.Rule.TheVariants.{Division, Leaf}
use Rattle.expansions.specs.Tables.{unpacked_of}
use borrow.Author.Rules.{rules}
use Rattle.expansions.proofs.packed.packed.Goals as goal

-- the three fields of a number, whose last digit is b
record Fields (x h w k : ℕ) : Type 0 where
  pub head : x / 2 % 256 ≡ h
  pub weight : x / 512 % 65536 ≡ w
  pub last : x / 33554432 % 256 ≡ k

fields : (x b h w k : ℕ) → x ≡ b + 2 * h + 512 * w + 33554432 * k → b < 2 → h < 256 → w < 65536 → k < 256 → Fields x h w k
fields x b h w k e o p q r =
    let mid : x / 512 ≡ w + 65536 * k = omega arith in
    let top : x / 33554432 ≡ k = omega arith in
    record { head = omega arith; weight = rw mid (omega arith); last = rw top (omega arith) }

division-back : (h w k : ℕ) → h < 256 → w < 65536 → k < 256 → unpacked_of (2 * h + 512 * w + 33554432 * k) ≡ Division h w k
unfolding unpacked_of
division-back h w k p q r =
    let x = 2 * h + 512 * w + 33554432 * k in
    let even : eqb (x % 2) 1 ≡ false = ne_eqb (x % 2) 1 (λ e. omega arith) in
    let f : Fields x h w k = fields x 0 h w k (omega arith) (omega arith) p q r in
    rw (even, f.head, f.weight, f.last)

leaf-back : (h w n : ℕ) → h < 256 → w < 65536 → n < 256 → unpacked_of (1 + 2 * h + 512 * w + 33554432 * n) ≡ Leaf h w n
unfolding unpacked_of
leaf-back h w n p q r =
    let x = 1 + 2 * h + 512 * w + 33554432 * n in
    let odd : eqb (x % 2) 1 ≡ true = eq-eqb (x % 2) 1 (omega arith) in
    let f : Fields x h w n = fields x 1 h w n (omega arith) (omega arith) p q r in
    rw (odd, f.head, f.weight, f.last)

pub returns-in-Division : goal.returns-in-Division
returns-in-Division c =
    division-back c.in-Division.head c.in-Division.weight c.in-Division.arity (search rules) (search rules) (search rules) ∙ sym c.in-Division.is

pub returns-in-Leaf : goal.returns-in-Leaf
returns-in-Leaf c =
    leaf-back c.in-Leaf.head c.in-Leaf.weight c.in-Leaf.n (search rules) (search rules) (search rules) ∙ sym c.in-Leaf.is

use Prim.Native.Nat.{ℕ, ◌+◌, ◌*◌}
use mathlib.Core.Path.{◌≡◌, subst, ◌∙◌}
use native.Mathlib.Omega.{arith}
use lib.ListN.{set, length-replicate, length-set}
use borrow.Author.Rules.{rules}
use Rattle.hextext.specs.Packed.{no_digit}
use Rattle.hextext.proofs.DigitSteps.{Half, half_none, half_other, half_more, made_all, digit_of_most}
use Rattle.hextext.proofs.digits.Digits.new.Goals as goal

pub loop-n-init : goal.loop-n-init
loop-n-init c = (search rules, length-replicate {A = ℕ} 512 no_digit, half_none 16 0 (omega arith), half_none 1 256 (omega arith))

pub loop-n-preserved : goal.loop-n-preserved
loop-n-preserved c =
    let loop = c.loop-n in
    let is = c.digit_of-b.ensures in
    let n = loop.n in
    let b = c.digit_of-b.result in
    let byte = digit_of_most n (search rules) in
    let first = set loop.cells b (n * 16) in
    let size = length-set loop.cells b (n * 16) ∙ loop.invariant.1 in (
      search rules,
      length-set first (256 + b) n ∙ size,
      half_other 16 0 (n + 1) first (256 + b) n (λ x h e. omega arith)
          (half_more 16 0 n loop.cells b (omega (arith, is)) (search rules) (omega (arith, is, loop.invariant.1)) loop.invariant.2),
      subst (λ (x : ℕ). Half 1 256 (n + 1) (set first (256 + b) x)) (omega arith)
          (half_more 1 256 n first (256 + b) (omega (arith, is)) (search rules) (omega (arith, is, size))
          (half_other 1 256 n loop.cells b (n * 16) (λ x h e. omega (arith, is)) loop.invariant.3)),
    )

pub invariant_of-result : goal.invariant_of-result
invariant_of-result c =
    let loop = c.loop-n in
    let all : loop.n ≡ 16 = omega arith in
    record {
      table = made_all loop.cells (subst (λ (n : ℕ). Half 16 0 n loop.cells) all loop.invariant.2)
          (subst (λ (n : ℕ). Half 1 256 n loop.cells) all loop.invariant.3);
    }

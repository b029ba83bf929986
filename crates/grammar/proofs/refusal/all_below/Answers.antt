use borrow.Author.Rules.{rules}
use native.Mathlib.Omega.{arith}
use Prim.Native.Nat.{ℕ, ◌+◌, ◌-◌}
use mathlib.Core.Path.{◌≡◌, ap, ◌∙◌, sym}
use Rattle.sheet.specs.Reading.{all_below, bytes_from}
use Rattle.grammar.proofs.Flats.{bytes_step, below_yes, below_no}
use Rattle.grammar.proofs.refusal.all_below.Goals as goal

pub loop-j-init : goal.loop-j-init
loop-j-init c =
    let e : c.args.k ≡ c.args.k - 0 = omega arith in
    (search rules, λ b h. ap (λ (n : ℕ). all_below c.args.q (bytes_from n 5 b)) e)

pub byte_at-requires : goal.byte_at-requires
byte_at-requires c = λ z. omega arith

pub returns-then-q-byte_at : goal.returns-then-q-byte_at
returns-then-q-byte_at c b h =
    let args = c.args in
    let loop = c.loop-j in
    let x = c.byte_at.ensures b h in
    sym (loop.invariant.1 b h ∙ ap (all_below args.q) (bytes_step b args.k loop.j (search rules))
    ∙ below_no args.q _ _ (omega (arith, x)))

pub loop-j-preserved : goal.loop-j-preserved
loop-j-preserved c =
    let args = c.args in
    let loop = c.loop-j in (
      search rules,
      λ b h. loop.invariant.1 b h ∙ ap (all_below args.q) (bytes_step b args.k loop.j (search rules))
          ∙ below_yes args.q _ _ (omega (arith, c.byte_at.ensures b h)),
    )

pub returns : goal.returns
unfolding all_below bytes_from
returns c b h =
    let args = c.args in
    let loop = c.loop-j in
    let e : args.k - loop.j ≡ 0 = omega arith in
    sym (loop.invariant.1 b h ∙ ap (λ (n : ℕ). all_below args.q (bytes_from n (loop.j + 5) b)) e)

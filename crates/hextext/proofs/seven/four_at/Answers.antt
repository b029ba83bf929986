-- `hextext::four_at` meets its contract, by that of a pair. Assumes nothing.
use Prim.Native.Nat.{ℕ, ◌+◌, ◌*◌}
use mathlib.Core.Path.{◌≡◌, ap, ◌∙◌}
use native.Mathlib.Omega.{arith}
use lib.ListN.{get_or}
use Rattle.hextext.specs.Packed.{digit_at}
use Rattle.hextext.proofs.seven.four_at.Goals as goal

pub returns : goal.returns
returns c =
    let text = c.args.text.now in
    let i = c.args.i in
    let last : i + 3 ≡ i + 2 + 1 = omega arith in
    λ j. c.pair-high.ensures.0 j * 256
    + (c.pair-low.ensures.0 ∙ ap (λ (k : ℕ). digit_at 16 (get_or text (i + 2) 0) + digit_at 1 (get_or text k 0)) last) j

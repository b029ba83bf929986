use borrow.Author.Rules.{rules}
use native.Mathlib.Omega.{arith}
use Prim.Native.Nat.{ℕ, ◌+◌, ◌*◌}
use mathlib.Core.Path.{◌≡◌, ap, ◌∙◌, sym}
use mathlib.Core.List.{◌++◌, append-nil}
use lib.ListN.{set}
use Rattle.slices.specs.Pad.{pad}
use Rattle.sheet.specs.Reading.{bytes_from}
use Rattle.sheet.specs.Held.{flat, child_cells}
use Rattle.sheet.specs.Laws.{length-bytes}
use Rattle.grammar.proofs.Flats.{cell_more, flat_done}
use Rattle.grammar.proofs.put_parts.Goals as goal

pub loop-j-init : goal.loop-j-init
unfolding bytes_from child_cells
loop-j-init c = (search rules, λ b h rs q e. e ∙ ap (pad 512 0) (sym (append-nil (flat rs))))

pub byte_at-requires : goal.byte_at-requires
byte_at-requires c = λ z. omega arith

pub loop-j-preserved : goal.loop-j-preserved
loop-j-preserved c =
    let args = c.args in
    let loop = c.loop-j in (
      search rules,
      λ b h rs q e. ap (set loop.children (args.n * 8 + loop.j)) (c.byte_at.ensures b h)
          ∙ cell_more b rs args.n loop.j loop.children q (search rules) (search rules) (loop.invariant.1 b h rs q e),
    )

pub returns : goal.returns
returns c b h rs q e =
    let args = c.args in
    let loop = c.loop-j in
    let j : loop.j ≡ args.k = omega arith in
    loop.invariant.1 b h rs q e
    ∙ ap (λ (m : ℕ). pad 512 0 (flat rs ++ bytes_from m 5 b)) j
    ∙ flat_done rs (bytes_from args.k 5 b) (omega (arith, length-bytes b args.k 5))

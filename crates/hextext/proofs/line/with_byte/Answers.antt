-- `hextext::with_byte` meets its contract, by the law of one byte more. Assumes nothing.
use Prim.Native.Nat.{◌+◌}
use mathlib.Core.Bool.{cond}
use mathlib.Core.Path.{sym, ap, ◌∙◌}
use lib.Dec.{eqb}
use Rattle.hextext.specs.declared.line.Line.{Line}
use Rattle.hextext.specs.Packed.{with_byte, packed}
use Rattle.hextext.specs.PackedLaws.{packed_more}
use Rattle.hextext.proofs.line.with_byte.Goals as goal

pub returns : goal.returns
unfolding packed
returns c bs e =
    let b = c.args.b in
    (λ j.
    record {
      kind = (c.kind_with.ensures ∙ ap (λ (l : Line). cond (eqb l.count 0) b l.kind) e) j;
      count = (e j).count + 1;
      front = (c.front_with.ensures ∙ ap (λ (l : Line). cond (eqb l.count 8) l.tail l.front) e) j;
      tail = with_byte (e j).tail b;
      next = 0;
    })
    ∙ sym (packed_more bs b)

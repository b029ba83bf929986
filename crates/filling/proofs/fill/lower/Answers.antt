-- `lower` meets its contract: the pair at the place is the lesser of what stood there and of x. Assumes nothing.
use Rattle.std.proofs.Common.{ap, ◌∙◌}
use Rattle.filling.specs.Pairs.{put_pair, lesser_pair, pair_same}
use Rattle.filling.proofs.fill.lower.Goals as goal

pub returns : goal.returns
returns c =
    let pair-at = c.pair_at-y in
    let least = c.min-zero in
    let least2 = c.min-one in
    let put-pair = c.put_pair in
    let cells = c.args.cells.now in
    let at = c.args.at in
    let x = c.args.x in
    put-pair.ensures ∙ ap (put_pair cells at) (pair_same (least.ensures ∙ ap (λ y. (lesser_pair y x).zero) pair-at.ensures)
    (least2.ensures ∙ ap (λ y. (lesser_pair y x).one) pair-at.ensures))

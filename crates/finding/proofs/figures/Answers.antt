-- `figures` meets its contract: R is the sum of the weights, and a × R is within the total, which leaves D. Assumes nothing.
use native.Mathlib.Omega.{arith}
use Rattle.finding.proofs.FigureSteps.{weight_pre, weighted_fits, figures_are}
use Rattle.finding.proofs.figures.Goals as goal

pub weight_sum-weight-requires : goal.weight_sum-weight-requires
weight_sum-weight-requires c =
    let pack-rules = c.pack_rules-rules in
    let (s, R, D, h) = c.requires in
    (s, weight_pre h (pack-rules.ensures s.grammar h.held))

pub overflow_mul-result : goal.overflow_mul-result
overflow_mul-result c =
    let pack-rules = c.pack_rules-rules in
    let weight-sum = c.weight_sum-weight in
    let (s, R, D, h) = c.requires in
    omega (arith, weighted_fits h _ (weight-sum.ensures s (weight_pre h (pack-rules.ensures s.grammar h.held))))

pub overflow_sub-result : goal.overflow_sub-result
overflow_sub-result c =
    let pack-rules = c.pack_rules-rules in
    let weight-sum = c.weight_sum-weight in
    let (s, R, D, h) = c.requires in
    weighted_fits h _ (weight-sum.ensures s (weight_pre h (pack-rules.ensures s.grammar h.held)))

pub returns : goal.returns
returns c =
    let pack-rules = c.pack_rules-rules in
    let weight-sum = c.weight_sum-weight in
    λ s R D h. figures_are h _ (weight-sum.ensures s (weight_pre h (pack-rules.ensures s.grammar h.held)))

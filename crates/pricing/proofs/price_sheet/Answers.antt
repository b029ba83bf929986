-- `price_sheet` meets its contract: a list longer than any tree is refused, and the bars are read as intervals in a row. Assumes nothing.
-- ---- where the start nonterminals of the bars are a slice
-- ---- where they are read
-- ---- the needs
use mathlib.Core.Path.{refl, sym, ap}
use native.Mathlib.Omega.{arith}
use lib.ListN.{take, replicate}
use lib.Seq.{length-take-le}
use Rattle.sheet.specs.Sheet.{Sheet}
use Rattle.sheet.specs.Accepted.{SheetHeld}
use Rattle.expansions.specs.Items.{interval}
use Rattle.pricing.specs.Pricing.{priced_of}
use Rattle.pricing.specs.Clauses.{ForestPre, BarsWalked, unread}
use Rattle.pricing.proofs.BarSteps.{counts_small, too_long, bars_entry, bars_walked, multiplier_is}
use Rattle.pricing.proofs.price_sheet.Goals.{After-pack_units-units, After-read_forest-read}
use Rattle.pricing.proofs.price_sheet.Goals as goal

entry : (c : After-pack_units-units) (s : Sheet) → (SheetHeld s c.args.grammar c.args.playing)
    → ForestPre s c.pack_rules-rules.result c.args.grammar.children c.pack_units-units.result
    c.args.list.now ((take c.args.playing.bars (replicate 64 c.args.grammar.start))) (interval 0 20160) unread
entry c s h =
    bars_entry h _ _ _ _ (c.pack_rules-rules.ensures _ h.grammar) (c.pack_units-units.ensures _ h.good.onsets h.playing)
    (omega (arith, c.if-count-playing.false)) refl

walked : (c : After-read_forest-read) (s : Sheet) → (SheetHeld s c.args.grammar c.args.playing)
    → BarsWalked s c.args.list.now c.read_forest-read.result
walked c s h =
    let entry-here : (s : Sheet) → (SheetHeld s c.args.grammar c.args.playing)
    → ForestPre s c.pack_rules-rules.result c.args.grammar.children c.pack_units-units.result
    c.args.list.now ((take c.args.playing.bars (replicate 64 c.args.grammar.start))) (interval 0 20160) unread =
    λ s h. bars_entry h _ _ _ _ (c.pack_rules-rules.ensures _ h.grammar) (c.pack_units-units.ensures _ h.good.onsets h.playing)
    (omega (arith, c.if-count-playing.false)) refl in
    bars_walked h _ ((take c.args.playing.bars (replicate 64 c.args.grammar.start))) refl c.read_forest-read.result
    (c.read_forest-read.ensures s (entry-here s h))

pub overflow_mul-playing : goal.overflow_mul-playing
overflow_mul-playing c =
    let m = counts_small c.requires.1 in
    let n = m.0 in
    let b = m.1 in
    record { fits = omega arith }

pub overflow_add-count : goal.overflow_add-count
overflow_add-count c =
    let m = counts_small c.requires.1 in
    let n = m.0 in
    let b = m.1 in
    record { fits = omega arith }

-- the list is longer than any tree
pub returns-then-count-playing : goal.returns-then-count-playing
returns-then-count-playing c =
    λ s h. rw c.at.ensures (ap priced_of (sym (too_long h _ (omega (arith, c.if-count-playing.true)))))

pub pack_units-units-requires : goal.pack_units-units-requires
pack_units-units-requires c =
    (counts_small c.requires.1).0

pub slice_bounds-starts-end : goal.slice_bounds-starts-end
slice_bounds-starts-end c =
    omega (arith, (counts_small c.requires.1).1)

pub slice_bounds-read_forest-end-2 : goal.slice_bounds-read_forest-end-2
slice_bounds-read_forest-end-2 c =
    sym (length-take-le c.args.playing.bars (replicate 64 c.args.grammar.start) (counts_small c.requires.1).1)

pub read_forest-read-requires : goal.read_forest-read-requires
read_forest-read-requires c =
    (c.requires.0, entry (goal.at.read_forest-read-requires c).After-pack_units-units _ c.requires.1)

pub price_of-requires : goal.price_of-requires
price_of-requires c =
    (c.requires.0, c.args.list.now, (walked (goal.at.price_of-requires c).After-read_forest-read _ c.requires.1, refl))

pub returns : goal.returns
returns c =
    λ s h. c.price_of.ensures s c.args.list.now (walked (goal.at.returns c).After-read_forest-read s h) refl (multiplier_is h)

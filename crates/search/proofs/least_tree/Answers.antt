-- `least_tree` meets its contract: the rows are the front of the work slice, so many cells as `row_cells` tells, and all required cells are
-- cleared at the end. Assumes nothing.
-- ---- where the onsets of the fullest bar are counted
-- ---- where the cells of the rows are counted
-- ---- where the rows come back
-- ---- the needs
use Prim.Native.Nat.{◌+◌, ◌*◌, ◌≤◌}
use mathlib.Core.Path.{◌≡◌, refl, sym}
use native.Mathlib.Omega.{arith}
use lib.ListN.{length, take, drop}
use mathlib.Core.List.{◌++◌}
use lib.Seq.{length-take-le}
use Rattle.sheet.specs.Sheet.{Sheet}
use Rattle.sizes.specs.Sizes.{lengths_of}
use Rattle.sizes.specs.Held.{length_table}
use Rattle.search.specs.Clauses.{row_cells, RowCellsPre, ParsePre, SearchPre}
use Rattle.search.proofs.SearchSteps.{onsets_few, cells_few, cells_fit, cells_all, bars_are, parse_entry, lent_length, searched}
use Rattle.search.proofs.least_tree.Goals.{After-parse-found, After-row_cells-cells, Start}
use Rattle.search.proofs.least_tree.Goals as goal

-- that of the contract
asked : (c : Start) → (let a = c.args in
    SearchPre c.requires.0 a.grammar a.playing a.tree.now a.work.now × (a.reached ≡ length_table (lengths_of c.requires.0.grammar.rules)))
asked c = (c.requires.1, c.requires.2)

-- the cells of the rows may be counted
counted : (c : After-row_cells-cells) (s : Sheet) → (let a = c.args in
    SearchPre s a.grammar a.playing a.tree.now a.work.now × (a.reached ≡ length_table (lengths_of s.grammar.rules)))
    → RowCellsPre s c.prepare.new.plan c.most_in_bar.result
counted c s (h, lengths) = record {
  prepared = c.prepare.ensures s h.held.good.rules h.held.grammar lengths;
  onsets = h.held.good.onsets;
  most_is = c.most_in_bar.ensures.1 s.playing h.held.good.onsets h.held.playing;
}

-- they are the sheet's, and the work slice has them
cells_are : (c : After-row_cells-cells) (s : Sheet) → (let a = c.args in
    SearchPre s a.grammar a.playing a.tree.now a.work.now × (a.reached ≡ length_table (lengths_of s.grammar.rules)))
    → c.row_cells-cells.result ≡ row_cells s
cells_are c s h = c.row_cells-cells.ensures s (counted c s h)

fit : (c : After-row_cells-cells) (s : Sheet) → (let a = c.args in
    SearchPre s a.grammar a.playing a.tree.now a.work.now × (a.reached ≡ length_table (lengths_of s.grammar.rules)))
    → c.row_cells-cells.result ≤ length (c.args.work.now)
fit c s h =
    cells_fit h.0 (cells_are c s h)

-- so the tree may be searched in them
entry : (c : After-row_cells-cells) (s : Sheet) → (let a = c.args in
    SearchPre s a.grammar a.playing a.tree.now a.work.now × (a.reached ≡ length_table (lengths_of s.grammar.rules))) → let a = c.args in
    ParsePre s (c.prepare.new.plan) c.pack_units-units.result (take (c.row_cells-cells.result) (c.args.work.now)) a.tree.now
    a.grammar.start a.playing.bars
entry c s h =
    let held = h.0.held in
    let units = c.pack_units-units.ensures s.playing held.good.onsets held.playing in
    parse_entry h.0 _ _ (c.row_cells-cells.result) _ _ (counted c s h).prepared units (cells_are c s h) (fit c s h) refl refl

pub prepare-requires : goal.prepare-requires
prepare-requires c =
    let (s, h, lengths) = c.requires in
    (s.grammar, h.held.good.rules, h.held.grammar, lengths)

pub pack_units-units-requires : goal.pack_units-units-requires
pack_units-units-requires c = onsets_few c.requires.1

pub most_in_bar-requires : goal.most_in_bar-requires
most_in_bar-requires c =
    onsets_few c.requires.1

pub row_cells-cells-requires : goal.row_cells-cells-requires
row_cells-cells-requires c =
    let h = c.requires.1 in (
      c.requires.0,
      record {
        prepared = c.prepare.ensures _ h.held.good.rules h.held.grammar c.requires.2;
        onsets = h.held.good.onsets;
        most_is = c.most_in_bar.ensures.1 _ h.held.good.onsets h.held.playing;
      },
    )

-- the front of the work slice is lent
pub slice_bounds-parse-end : goal.slice_bounds-parse-end
slice_bounds-parse-end c =
    fit (goal.at.slice_bounds-parse-end c).After-row_cells-cells _ (asked (goal.at.slice_bounds-parse-end c).Start)

pub slice_bounds-parse-end-2 : goal.slice_bounds-parse-end-2
slice_bounds-parse-end-2 c =
    let at = goal.at.slice_bounds-parse-end-2 c in
    sym (length-take-le (c.row_cells-cells.result) (c.args.work.now) (fit at.After-row_cells-cells _ (asked at.Start)))

pub parse-found-requires : goal.parse-found-requires
parse-found-requires c =
    (c.requires.0, entry (goal.at.parse-found-requires c).After-row_cells-cells _ (asked (goal.at.parse-found-requires c).Start))

pub overflow_add-cells : goal.overflow_add-cells
overflow_add-cells c =
    let h = c.requires.1 in
    let at = goal.at.overflow_add-cells c in
    record {
      fits = omega (
        arith,
        cells_are at.After-row_cells-cells _ (asked at.Start),
        cells_few h,
        bars_are h,
        h.held.good.onsets.sixty_four,
      );
    }

-- the work slice comes back as long as it was
enough : (c : After-parse-found) → let cells = c.row_cells-cells.result in
    cells + 16 * c.args.playing.bars ≤ length (c.parse-found.new.rows ++ drop cells c.args.work.now)
enough c =
    let h = c.requires.1 in
    let cells = c.row_cells-cells.result in
    let prepared = c.prepare.ensures _ h.held.good.rules h.held.grammar c.requires.2 in
    let most = c.most_in_bar.ensures.1 _ h.held.good.onsets h.held.playing in
    let are = c.row_cells-cells.ensures c.requires.0 (record { prepared = prepared; onsets = h.held.good.onsets; most_is = most }) in
    let same = lent_length h c.parse-found.new.rows cells c.parse-found.auto.rows (cells_fit h are) in
    omega (arith, same, cells_all h are, h.work_size)

pub slice_bounds-fill-end : goal.slice_bounds-fill-end
slice_bounds-fill-end c = enough (goal.at.slice_bounds-fill-end c).After-parse-found

pub slice_bounds-fill-end-2 : goal.slice_bounds-fill-end-2
slice_bounds-fill-end-2 c = sym (length-take-le _ _ (enough (goal.at.slice_bounds-fill-end-2 c).After-parse-found))

pub returns : goal.returns
returns c =
    let cells = c.row_cells-cells.result in
    let rows = c.parse-found.new.rows in
    λ s h lengths.
    let at = (goal.at.returns c).After-row_cells-cells in
    searched h _ rows _ cells (cells + 16 * c.args.playing.bars) _ _
    (c.parse-found.ensures s (entry at s (h, lengths))) (fit at s (h, lengths)) c.parse-found.auto.rows
    (omega arith) (cells_all h (cells_are at s (h, lengths)))
    (c.fill.ensures.after (λ y e. cc)) (length-take-le _ _ (enough (goal.at.returns c).After-parse-found))

-- The steps of `parse` and `least_tree`. A cleared table claims nothing (`parse_forward`), and the tree that is found fits both slices and
-- is copied (`found_fits`, `found_copied`). The product that `row_cells` makes is the number of the rows' cells (`product_is`), the work
-- slice has them (`cells_fit`), and at the end all required cells are cleared (`searched`).
use Prim.Native.Nat.{ℕ, ◌+◌, ◌-◌, ◌*◌, ◌/◌, ◌≤◌, ◌<◌}
use mathlib.Core.Path.{◌≡◌, refl, sym, ap, subst, ◌∙◌}
use mathlib.Core.List.{List, [], ◌∷◌, ◌++◌}
use native.Mathlib.Nat.{mul-le-mul}
use native.Mathlib.Omega.{arith}
use borrow.Author.Tests.{eq-eqb}
use lib.ListN.{length, take, drop, get_or, replicate, length-append, length-drop, length-replicate, get_or-replicate}
use lib.Seq.{drop-append-add, drop-drop, length-take-le}
use Rattle.slices.specs.Every.{Every}
use Rattle.slices.specs.Over.{over, over-drop}
use Rattle.sheet.specs.declared.table.GrammarTable.{GrammarTable}
use Rattle.sheet.specs.declared.table.PlayingTable.{PlayingTable}
use Rattle.sheet.specs.Sheet.{Onset, Playing, Sheet, bar_units, in_bar}
use Rattle.sheet.specs.Good.{GoodRules, GoodOnsets}
use Rattle.sheet.specs.Held.{grammar_table, playing_table}
use Rattle.derivations.specs.Bound.{nodes_bound}
use Rattle.trees.specs.ValidTrees.{bars}
use Rattle.trees.specs.Instance.{instance_of}
use Rattle.trees.specs.LeastTotal.{least_total}
use Rattle.trees.specs.Room.{tree_most, room}
use Rattle.trees.proofs.RoomLaws.{room_pays, bars_room}
use Rattle.trees.proofs.Found.{first_is_tree, first_total_is}
use Rattle.sizes.specs.Sizes.{largest, most_in_bar, tree_bytes, work_cells}
use Rattle.sizes.specs.SizesLaws.{length_count_least, length_count_most, most_in_bar_most}
use Rattle.expansions.specs.Tables.{unit_cells}
use Rattle.plan.specs.Plan.{lengths, Prepared, nonterminals_cell, lengths_cell}
use Rattle.rows.specs.MemoLaws.{memo_clear}
use Rattle.rows.specs.Slots.{slots, slot_cell}
use Rattle.rows.specs.OnsetLaws.{largest_le}
use Rattle.filling.specs.Order.{Ordered}
use Rattle.search.specs.declared.Found.{Found}
use Rattle.std.specs.Prelude.{Option, Some}
use Rattle.search.specs.Clauses.{bars_to, ForwardPre, Committed, FoundIn, ParsePre, FoundAs}
use Rattle.search.specs.Clauses.{row_cells, RowCellsPre, SearchPre, Searched}
use Rattle.search.proofs.EnterSteps.{product_few, slots_few}

-- a list copied over the front of a slice of at least its length
pub copied_over : (n : ℕ) (bs xs : List ℕ) → length bs ≡ n → n ≤ length xs → bs ++ drop n xs ≡ over bs xs
copied_over n bs xs e h =
    ap (λ (k : ℕ). bs ++ drop k xs) (sym e) ∙ sym (over-drop bs xs (omega arith))

module _ {s : Sheet} {plan us rows tree : List ℕ} {start count : ℕ} (h : ParsePre s plan us rows tree start count) where
  pub bars_few : count ≤ 64
  bars_few = omega (arith, h.count_is, h.onsets.good.sixty_four)

  -- no sheet needs a longer tree
  tree_most_lem : tree_bytes s ≤ tree_most
  unfolding tree_bytes
  tree_most_lem = omega (arith, h.onsets.good.sixty_four, h.onsets.good.most)

  -- a table of zeros claims nothing
  pub parse_forward : {now : List ℕ} {order : Option (List ℕ)} {bytes roots vectors : List ℕ} → now ≡ replicate (length rows) 0
      → Ordered s order
      → length roots ≡ 1024 → length vectors ≡ 260 → length bytes ≡ tree_most
      → ForwardPre s plan us order now bytes roots vectors start count
  parse_forward {now} en ordered er ev eb = record {
    entry = record {
      prepared = h.prepared;
      onsets = h.onsets;
      start_is = h.start_is;
      count_is = h.count_is;
      some_slot = h.some_slot;
      sound =
          memo_clear (slot_cell s) now (slots s) (ap length en ∙ length-replicate (length rows) 0 ∙ h.rows_size)
          (λ i hi. ap (λ (xs : List ℕ). get_or xs i 0) en ∙ get_or-replicate (length rows) i 0 0 (omega (arith, h.rows_size)));
    };
    ordered = ordered;
    roots_size = omega (arith, er, bars_few);
    vectors_size = omega (arith, ev, bars_few);
    room = omega (arith, eb, tree_most_lem);
  }

  -- the bytes of a tree that is found fit both slices
  module _ {bytes : List ℕ} {r : Found} (f : FoundIn s bytes (Some r)) where
    committed : Committed s bytes s.playing.bars r.nodes
    committed = f.0

    pub found_most : r.nodes ≤ tree_bytes s
    unfolding bars tree_bytes
    found_most =
        omega (
          arith,
          committed.count_is,
          nodes_bound (instance_of s) (room s) (room_pays s h.prepared.good) committed.bytes (bars_to s s.playing.bars) 0
              committed.price
              committed.first.reads,
          bars_room s,
        )

    pub found_fits : (r.nodes ≤ length bytes) × (r.nodes ≤ length tree)
    found_fits = (omega (arith, found_most, committed.room), omega (arith, found_most, h.tree_size))

    -- they are copied
    pub found_copied : {after : List ℕ} → after ≡ over (take r.nodes bytes) tree → FoundAs s tree after (Some r)
    unfolding least_total bars
    found_copied {after} e = (
      committed.bytes,
      committed.price.weight,
      committed.price.distance,
      first_is_tree s h.prepared.good f.2 committed.bytes committed.price committed.first,
      committed.count_is,
      e ∙ ap (λ (xs : List ℕ). over xs tree) (ap (λ (k : ℕ). take k bytes) committed.count_is ∙ committed.front),
      f.1 ∙ sym (first_total_is s h.prepared.good f.2 committed.bytes committed.price committed.first),
    )

-- ---- a sheet

-- an onset is in its own bar
in_own_bar : (o : Onset) (os : List Onset) → 1 ≤ in_bar (o.unit / bar_units) (o ∷ os)
unfolding in_bar
in_own_bar o os = rw (eq-eqb (o.unit / bar_units) (o.unit / bar_units) refl) (omega arith)

-- so a playing with an onset has one in some bar
one_in_bar : (p : Playing) → GoodOnsets p → 1 ≤ length p.onsets → 1 ≤ most_in_bar p
unfolding most_in_bar
one_in_bar p good some = go p.onsets good.below some
  where
    go : (os : List Onset) → Every (λ (o : Onset). o.unit < p.bars * bar_units) os → 1 ≤ length os
        → 1 ≤ largest (λ (b : ℕ). in_bar b os) p.bars
    go [] e k = let none : ⊥ = omega arith in absurd none
    go (o ∷ os) e k =
        let b = o.unit / bar_units in
        omega (arith, largest_le (λ (i : ℕ). in_bar i (o ∷ os)) p.bars b (omega (arith, e.0)), in_own_bar o os)

-- and its table a slot
some_slots : (s : Sheet) → GoodRules s.grammar → GoodOnsets s.playing → 1 ≤ length s.playing.onsets → 0 < slots s
some_slots s rules onsets some =
    let first : 1 * 1 ≤ s.grammar.nonterminals * lengths s = mul-le-mul rules.one (length_count_least s.grammar.rules) in
    let all : 1 * 1 * 1 ≤ s.grammar.nonterminals * lengths s * most_in_bar s.playing
    = mul-le-mul first (one_in_bar s.playing onsets some) in
    omega (arith, all)

-- ---- the cells of the rows

module _ {s : Sheet} {plan : List ℕ} {most : ℕ} (h : RowCellsPre s plan most) (q l : ℕ) (eq : q ≡ nonterminals_cell plan)
    (el : l ≡ lengths_cell plan) where
  -- the numbers of nonterminals, of lengths and of onsets in the fullest bar have small products
  pub product_small : (q * l ≤ 1344) × (q * l * most ≤ 43008)
  product_small =
      product_few (omega (arith, eq, h.prepared.nonterminals, h.prepared.good.sixteen))
      (omega (arith, el, h.prepared.lengths_are, length_count_most s.grammar.rules))
      (omega (arith, h.most_is, most_in_bar_most s.playing h.onsets))

  pub product_is : 16 * (q * l * most) ≡ row_cells s
  product_is = rw (eq ∙ h.prepared.nonterminals, el ∙ h.prepared.lengths_are, h.most_is) (omega arith)

module _ {s : Sheet} {grammar : GrammarTable} {playing : PlayingTable} {tree work : List ℕ}
    (h : SearchPre s grammar playing tree work) where
  pub onsets_few : playing.count ≤ 512
  unfolding playing_table
  onsets_few = omega (arith, ap (λ (p : PlayingTable). p.count) h.held.playing, h.held.good.onsets.most)

  -- the rows are so many cells, and with 16 more a bar they are those that are required
  pub cells_few : row_cells s ≤ 688128
  cells_few = omega (arith, slots_few s h.held.good.rules h.held.good.onsets)

  all_cells : row_cells s + 16 * s.playing.bars ≡ work_cells s
  unfolding work_cells
  all_cells = omega arith

  pub cells_fit : {cells : ℕ} → cells ≡ row_cells s → cells ≤ length work
  cells_fit ec = omega (arith, ec, all_cells, h.work_size)

  pub bars_are : playing.bars ≡ s.playing.bars
  unfolding playing_table
  bars_are = ap (λ (p : PlayingTable). p.bars) h.held.playing

  pub cells_all : {cells : ℕ} → cells ≡ row_cells s → cells + 16 * playing.bars ≡ work_cells s
  cells_all ec = omega (arith, ec, bars_are, all_cells)

  pub start_is : grammar.start ≡ s.grammar.start
  unfolding grammar_table
  start_is = ap (λ (g : GrammarTable). g.start) h.held.grammar

  pub parse_entry : (plan us : List ℕ) (cells start count : ℕ) → Prepared s plan → us ≡ unit_cells s.playing
      → cells ≡ row_cells s
      → cells ≤ length work → start ≡ grammar.start → count ≡ playing.bars
      → ParsePre s plan us (take cells work) tree start count
  parse_entry plan us cells start count ep eu ec fit es eb =
      record {
        prepared = ep;
        onsets = record { good = h.held.good.onsets; cells = eu };
        start_is = es ∙ start_is;
        count_is = eb ∙ bars_are;
        some_slot = some_slots s h.held.good.rules h.held.good.onsets h.held.good.some_onset;
        rows_size = length-take-le cells work fit ∙ ec;
        tree_size = h.tree_size;
      }

  -- a front that is lent comes back as long
  pub lent_length : (zs : List ℕ) (cells : ℕ) → length zs ≡ length (take cells work) → cells ≤ length work
      → length (zs ++ drop cells work) ≡ length work
  lent_length zs cells size fit =
      omega (arith, length-append zs (drop cells work), length-drop cells work, size, length-take-le cells work fit)

  -- the rows come back, and then all required cells are cleared
  pub searched : (after zs part : List ℕ) (cells n k : ℕ) (r : Option Found) → FoundAs s tree after r → cells ≤ length work
      → length zs ≡ length (take cells work) → cells ≤ n → n ≡ work_cells s → part ≡ replicate k 0 → k ≡ n
      → Searched s tree after work (part ++ drop n (zs ++ drop cells work)) r
  searched after zs part cells n k r found fit size more en ep ek =
      record { found = found; clear = subst (λ (k : ℕ). part ++ drop n (zs ++ drop cells work) ≡ over (replicate k 0) work) en cleared }
    where
      front : length zs ≡ cells
      front = size ∙ length-take-le cells work fit

      rest : drop n (zs ++ drop cells work) ≡ drop n work
      rest =
          let e : length zs + (n - cells) ≡ n = omega (arith, front) in
          let f : cells + (n - cells) ≡ n = omega arith in
          subst (λ (k : ℕ). drop k (zs ++ drop cells work) ≡ drop (n - cells) (drop cells work)) e
          (drop-append-add zs (drop cells work) (n - cells))
          ∙ drop-drop (n - cells) cells work ∙ ap (λ (k : ℕ). drop k work) f

      zeros : part ≡ replicate n 0
      zeros = ep ∙ ap (λ (i : ℕ). replicate i 0) ek

      cleared : part ++ drop n (zs ++ drop cells work) ≡ over (replicate n 0) work
      cleared =
          ap (part ++◌) rest ∙ ap (λ (xs : List ℕ). xs ++ drop n work) zeros
          ∙ copied_over n (replicate n 0) work (length-replicate n 0) (omega (arith, en, h.work_size))

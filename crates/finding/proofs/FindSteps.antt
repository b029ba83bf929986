-- What each way out of `find_sheet` gives, by what the calls before it told. Assumes nothing.
use Prim.Native.Nat.{ℕ, ◌≤◌, ◌<◌}
use mathlib.Core.Path.{◌≡◌, refl, sym, ap, ◌∙◌}
use mathlib.Core.List.{List}
use native.Mathlib.Omega.{arith}
use borrow.Author.Tests.{le-ltb}
use lib.ListN.{length, take}
use lib.Seq.{length-take-le}
use Rattle.slices.specs.Over.{length-over, take-over}
use Rattle.sheet.specs.declared.table.GrammarTable.{GrammarTable}
use Rattle.sheet.specs.declared.table.PlayingTable.{PlayingTable}
use Rattle.sheet.specs.declared.table.Reading.{Reading}
use Rattle.sheet.specs.Sheet.{Grammar, Sheet}
use Rattle.sheet.specs.Held.{grammar_table, playing_table, Reads}
use Rattle.sheet.specs.Good.{GoodRules, Good}
use Rattle.sheet.specs.Outcome.{Outcome, refused}
use Rattle.sheet.specs.Accepted.{SheetHeld}
use Rattle.sheet.proofs.AcceptedLaws.{on_refused, on_held}
use Rattle.sizes.specs.declared.LengthTable.{LengthTable}
use Rattle.sizes.specs.Sizes.{lengths_of, length_count, tree_bytes, work_cells}
use Rattle.sizes.specs.Held.{length_table}
use Rattle.sizes.specs.SizesLaws.{table_count}
use Rattle.trees.specs.ValidTrees.{ValidTree, total_of}
use Rattle.trees.specs.LeastTotal.{NONE, least_total}
use Rattle.pricing.specs.Pricing.{priced, priced_of, Answer}
use Rattle.std.specs.Prelude.{Some, None, Ok, Err}
use Rattle.sheet.specs.declared.refusal.Refused.{Refused}
use Rattle.search.specs.declared.Found.{Found}
use Rattle.search.specs.Clauses.{SearchPre, Searched}
use Rattle.finding.specs.Finding.{has_tree, Search, find_sheet, find_text, Gives, Finds}
use Rattle.finding.specs.Clauses.{FiguresPre}
use Rattle.finding.specs.Outcomes.{work_short, tree_short, none_found, one_found, gives}
use Rattle.finding.specs.FindingLaws.{tree_fits, has_tree_lem}
use Rattle.sheet.specs.Refusal.{number_of, outcome_of}

-- what `lengths`, `work_cells_by` and `tree_bytes` tell
abbrev LengthsTold : GrammarTable → LengthTable → Type 0
LengthsTold g t = (h : Grammar) → GoodRules h → g ≡ grammar_table h → t ≡ length_table (lengths_of h.rules)

abbrev CellsTold : GrammarTable → PlayingTable → (count n : ℕ) → Type 0
CellsTold g p count n =
    (s : Sheet) → Good s → g ≡ grammar_table s.grammar → p ≡ playing_table s.playing
    → count ≡ length_count s.grammar.rules → n ≡ work_cells s

abbrev BytesTold : PlayingTable → ℕ → Type 0
BytesTold p n = (s : Sheet) → p ≡ playing_table s.playing → n ≡ tree_bytes s

-- the counts are within the tables
pub counts : {s : Sheet} {g : GrammarTable} {p : PlayingTable} → SheetHeld s g p → (g.count ≤ 64) × (p.count ≤ 512)
unfolding grammar_table playing_table
counts h = (rw h.grammar h.good.rules.most, rw h.playing h.good.onsets.most)

module _ {s : Sheet} {g : GrammarTable} {p : PlayingTable} (h : SheetHeld s g p) (tree work : List ℕ) (reached : LengthTable)
    (lengths-told : LengthsTold g reached) (cells : ℕ) (cells_told : CellsTold g p reached.count cells) where
  required : cells ≡ work_cells s
  required =
      let lengths_are = lengths-told s.grammar h.good.rules h.grammar in
      cells_told s h.good h.grammar h.playing (table_count s.grammar.rules reached lengths_are)

  pub short_work : length work < cells → (r : Answer) → outcome_of r ≡ priced_of (refused 9 0)
      → Gives (find_sheet s (length tree) (length work)) tree tree work work r
  short_work w r e =
      gives _ _ (work_short s (length tree) (length work) (omega (arith, required))) (record { is = e; tree_kept = refl }, refl)

  module _ (w : cells ≤ length work) (bytes : ℕ) (bytes-told : BytesTold p bytes) where
    enough : work_cells s ≤ length work
    enough = omega (arith, required)

    room_required : bytes ≡ tree_bytes s
    room_required = bytes-told s h.playing

    pub short_tree : length tree < bytes → (r : Answer) → outcome_of r ≡ priced_of (refused 10 0)
        → Gives (find_sheet s (length tree) (length work)) tree tree work work r
    short_tree t r e =
        gives _ _ (tree_short s (length tree) (length work) enough (omega (arith, room_required)))
        (record { is = e; tree_kept = refl }, refl)

    pub search_pre : bytes ≤ length tree → SearchPre s g p tree work
    search_pre t = record { held = h; tree_size = omega (arith, room_required); work_size = enough }

-- what the search told
module _ {s : Sheet} {g : GrammarTable} {p : PlayingTable} {tree work : List ℕ} (entry : SearchPre s g p tree work)
    (after clear : List ℕ)
  where
    pub nothing_found : Searched s tree after work clear None → (r : Answer) → outcome_of r ≡ priced_of (refused 11 0)
        → Gives (find_sheet s (length tree) (length work)) tree after work clear r
    unfolding has_tree
    nothing_found f r e =
        gives _ _ (none_found s (length tree) (length work) entry.work_size entry.tree_size
        (le-ltb (least_total s) NONE f.found.0))
        (record { is = e; tree_kept = f.found.1 }, f.clear)

    module _ (x : Found) (f : Searched s tree after work clear (Some x)) where
      abbrev bs : List ℕ
      bs = f.found.0

      valid : ValidTree s bs
      valid = f.found.3.tree.valid.valid

      fits : length bs ≤ length tree
      fits = omega (arith, entry.tree_size, tree_fits s entry.held.good bs valid)

      pub nodes_fit : x.nodes ≤ length after
      nodes_fit = omega (arith, fits, f.found.4, ap length f.found.5, length-over bs tree)

      pub front_size : x.nodes ≡ length (take x.nodes after)
      front_size = sym (length-take-le x.nodes after nodes_fit)

      front : take x.nodes after ≡ bs
      front = ap (λ (m : ℕ). take m after) f.found.4 ∙ ap (take (length bs)) f.found.5 ∙ take-over bs tree fits

      pub figures_pre : FiguresPre s g (take x.nodes after) f.found.1 f.found.2 x.total
      figures_pre = record {
        good = entry.held.good;
        held = entry.held.grammar;
        tree = rw front f.found.3.tree.valid;
        total_is = f.found.6;
      }

      abbrev found_total : ℕ
      found_total = total_of s f.found.1 f.found.2

      pub tree_found : (r : Answer) → outcome_of r ≡ priced_of (priced (length (take x.nodes after)) f.found.1 f.found.2 found_total)
          → Gives (find_sheet s (length tree) (length work)) tree after work clear r
      tree_found r e =
          gives _ _ (one_found s (length tree) (length work) entry.work_size entry.tree_size
          (has_tree_lem s entry.held.good bs valid)) (
            record {
              bytes = bs;
              weight = f.found.1;
              distance = f.found.2;
              first = f.found.3;
              figures = e ∙ ap (λ (l : List ℕ). priced_of (priced (length l) f.found.1 f.found.2 found_total)) front;
              tree_written = f.found.5;
            },
            f.clear,
          )

-- ---- `find`

module _ (text tree work : List ℕ) where
  -- a text that is refused
  pub text_refused : (e : Refused) → Reads text (Err e) → Finds text tree tree work work (Err e)
  unfolding find_text
  text_refused e h =
      gives _ (refused (number_of e.refusal) e.line) (on_refused text (λ s. find_sheet s (length tree) (length work)) e h)
      (record { is = refl; tree_kept = refl }, refl)

  -- a text that means a sheet
  pub text_found : (r : Reading) → Reads text (Ok r) → (treeAfter workAfter : List ℕ) (x : Answer)
      → ((s : Sheet) → SheetHeld s r.grammar r.playing
      → Gives (find_sheet s (length tree) (length work)) tree treeAfter work workAfter x)
      → Finds text tree treeAfter work workAfter x
  unfolding find_text
  text_found r h treeAfter workAfter x f =
      on_held text (λ s. find_sheet s (length tree) (length work))
      (λ (o : Outcome Search). Gives o tree treeAfter work workAfter x) r h f

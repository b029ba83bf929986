-- The search of a sheet: over its bars, and as a whole. What the functions are given, and what they give.
use Rattle.std.specs.Prelude.{ℕ, ◌+◌, ◌*◌, ◌/◌, ◌≤◌, ◌<◌, ◌≡◌, List, ◌⊎◌, length, take, drop, replicate, get_or, Option, Some, None}
use Rattle.slices.specs.Over.{over}
use Rattle.sheet.specs.declared.table.GrammarTable.{GrammarTable}
use Rattle.sheet.specs.declared.table.PlayingTable.{PlayingTable}
use Rattle.sheet.specs.Sheet.{Sheet, bar_units}
use Rattle.sheet.specs.Good.{GoodRules, GoodOnsets}
use Rattle.sheet.specs.Accepted.{SheetHeld}
use Rattle.derivations.specs.Derivation.{Item, Price}
use Rattle.derivations.specs.Minima.{lowest, only}
use Rattle.derivations.specs.First.{First}
use Rattle.derivations.specs.Folds.{forward}
use Rattle.trees.specs.ValidTrees.{adjoining, total_of}
use Rattle.trees.specs.Instance.{instance_of}
use Rattle.trees.specs.LeastTotal.{NONE, carries, cell_of, least_total}
use Rattle.trees.specs.LeastTrees.{FirstTree}
use Rattle.sizes.specs.Sizes.{most_in_bar, tree_bytes, work_cells}
use Rattle.expansions.specs.Tables.{UnitsHeld}
use Rattle.expansions.specs.Items.{first_at}
use Rattle.plan.specs.Plan.{Prepared}
use Rattle.rows.specs.declared.slots.Bar.{Bar}
use Rattle.rows.specs.Vectors.{vec, Low}
use Rattle.rows.specs.Memo.{row_at}
use Rattle.rows.specs.PackedLaws.{packed_cell}
use Rattle.rows.specs.Slots.{slots, shift_of, Sound}
use Rattle.rows.specs.IdleLaws.{Idle}
use Rattle.search.specs.declared.Found.{Found}
use Rattle.building.specs.Clauses.{suffix_costs}
use Rattle.filling.specs.Order.{Ordered}

-- ---- bars

-- the item over bar b
abbrev pub bar_item : Sheet → ℕ → Item
bar_item s b = record { nonterminal = s.grammar.start; left = b * bar_units; len = bar_units }

-- the bars before bar b, and those from bar b on that are before bar e
abbrev pub bars_to : Sheet → ℕ → List Item
bars_to s b = adjoining 0 bar_units (replicate b s.grammar.start)

abbrev pub bars_from : Sheet → (e b : ℕ) → List Item
bars_from s e b = adjoining (0 + b * bar_units) bar_units (drop b (replicate e s.grammar.start))

-- what the bars from bar b on that are before bar e total, by the carry state before them; nothing is carried on to bar e
abbrev pub bar_suffix_costs : Sheet → (e b : ℕ) → ℕ → ℕ
bar_suffix_costs s e b = suffix_costs s (bars_from s e b) (only NONE 0)

-- what the bars before bar b total, by the carry state behind them: nothing is carried into the first
abbrev pub prefix_costs : Sheet → ℕ → ℕ → ℕ
prefix_costs s b = forward carries NONE (cell_of s) (bars_to s b) (only NONE 0)

-- bar b as a record
abbrev pub bar_of : Sheet → ℕ → Bar
bar_of s b = record { number = b; first = first_at s (b * bar_units); shift = shift_of s b; slots = slots s }

-- a bar is entered
pub record EnterPre (s : Sheet) (units : List ℕ) (b n : ℕ) : Type 0 where
  pub onsets : UnitsHeld s units
  pub bar_in : b < s.playing.bars
  pub slots_are : n ≡ slots s
  pub some_slot : 0 < n
  pub few_slots : n ≤ 172032

-- the tables, the start nonterminal and the number of bars are the sheet's
pub record BarsPre (s : Sheet) (plan units rows : List ℕ) (start count : ℕ) : Type 0 where
  pub prepared : Prepared s plan
  pub onsets : UnitsHeld s units
  pub start_is : start ≡ s.grammar.start
  pub count_is : count ≡ s.playing.bars
  pub some_slot : 0 < slots s
  pub sound : Sound s rows

-- a bar, entered with the prefix costs v
pub record PassPre (s : Sheet) (plan units rows : List ℕ) (bar : Bar) (start : ℕ) (v : List ℕ) : Type 0 where
  pub prepared : Prepared s plan
  pub onsets : UnitsHeld s units
  pub start_is : start ≡ s.grammar.start
  pub bar_in : bar.number < s.playing.bars
  pub bar_is : bar ≡ bar_of s bar.number
  pub before : v ≡ vec (prefix_costs s bar.number)
  pub sound : Sound s rows

-- carry state c is idle before bar b
abbrev pub IdleBefore : Sheet → (b c : ℕ) → Type 0
IdleBefore s b c = Idle s (first_at s (b * bar_units)) (prefix_costs s b) c

-- the row of a bar from carry state c, or no tree where c is idle
abbrev pub RootRow : Sheet → (b c : ℕ) → List ℕ → Type 0
RootRow s b c y = (y ≡ vec (packed_cell s (bar_item s b) c)) ⊎ (IdleBefore s b c × (y ≡ vec (λ _. 64 * NONE)))

-- and the table of rows stays sound
pub record Rooted (s : Sheet) (rows : List ℕ) (b c : ℕ) (y : List ℕ) : Type 0 where
  pub is : RootRow s b c y
  pub sound : Sound s rows

-- a table of such rows: of all bars before bar b, and of bar b those from carry states before c
pub record RootsTo (s : Sheet) (roots : List ℕ) (b c : ℕ) : Type 0 where
  pub size : 16 * s.playing.bars ≤ length roots
  pub each : (i m : ℕ) → i < b → m < carries → RootRow s i m (row_at roots (4 * (4 * i + m)))
  pub last : (m : ℕ) → m < c → RootRow s b m (row_at roots (4 * (4 * b + m)))

-- the rows of a bar are stored, and v is the prefix costs behind it
pub record PassedBar (s : Sheet) (rows roots : List ℕ) (b : ℕ) (v : List ℕ) : Type 0 where
  pub roots_are : RootsTo s roots (b + 1) 0
  pub is : v ≡ vec (prefix_costs s (b + 1))
  pub sound : Sound s rows

-- no least tree carries anything into bar b: every carry state but 0 is idle there
abbrev pub CutPoint : Sheet → ℕ → Type 0
CutPoint s b = (c : ℕ) → 0 < c → c < carries → IdleBefore s b c

-- the same of a vector of prefix costs, which reaches carry state 0, as if an onset lay before: where none does, no other is reached
pub record CutVector (s : Sheet) (v : List ℕ) : Type 0 where
  pub reached : get_or v 0 0 < NONE
  pub idle : (c : ℕ) → 0 < c → c < carries → Idle s 1 (λ i. get_or v i 0) c

-- some least list of the bars before bar e, of those that carry nothing on to bar e, may pass carry state c before bar b
abbrev pub OnPath : Sheet → (e b c : ℕ) → Type 0
OnPath s e b c = prefix_costs s b c + bar_suffix_costs s e b c ≤ prefix_costs s e 0

-- w has what the bars from bar b on total where a least list may pass, and no less elsewhere
pub record Suffix (s : Sheet) (e b : ℕ) (w : List ℕ) : Type 0 where
  pub no_less : (c : ℕ) → c < carries → bar_suffix_costs s e b c ≤ get_or w c 0
  pub same : (c : ℕ) → c < carries → OnPath s e b c → get_or w c 0 ≡ bar_suffix_costs s e b c
  pub low : Low w
  pub four : length w ≡ 4

-- a table of such suffix costs, one of each bar from bar b on and one behind the last
pub record VectorsFrom (s : Sheet) (vectors : List ℕ) (e b : ℕ) : Type 0 where
  pub size : 4 * (e + 1) ≤ length vectors
  pub each : (i : ℕ) → b ≤ i → i ≤ e → Suffix s e i (row_at vectors (4 * i))

-- the rows of bar b, with the suffix costs v behind the bar
pub record SuffixStepPre (s : Sheet) (roots : List ℕ) (e b : ℕ) (v : List ℕ) : Type 0 where
  pub roots_are : RootsTo s roots e 0
  pub bar_in : b < e
  pub end_in : e ≤ s.playing.bars
  pub few : s.playing.bars ≤ 64
  pub low : Low v

-- w has their least sums with v
pub record SuffixStep (roots : List ℕ) (b : ℕ) (v w : List ℕ) : Type 0 where
  pub four : length w ≡ 4
  pub is : (c : ℕ) → c < carries
      → get_or w c 0 ≡ lowest NONE (λ m. get_or (row_at roots (4 * (4 * b + c))) m 0 / 64 + get_or v m 0) carries
  pub low : Low w

-- the suffix costs of the bars from bar `from` on that are before bar e are made of their rows
pub record BackwardPre (s : Sheet) (roots vectors : List ℕ) (from e : ℕ) : Type 0 where
  pub good : GoodRules s.grammar
  pub rising : from ≤ e
  pub end_in : e ≤ s.playing.bars
  pub few : s.playing.bars ≤ 64
  pub roots_are : RootsTo s roots e 0
  pub room : 4 * (e + 1) ≤ length vectors
  pub reached : prefix_costs s e 0 < NONE

-- the front of the tree, n bytes of it, is the first least list of the bars before bar b, from which nothing is carried on
pub record Committed (s : Sheet) (tree : List ℕ) (b n : ℕ) : Type 0 where
  pub bytes : List ℕ
  pub price : Price
  pub first : First (instance_of s) s.grammar.multiplier (bars_to s b) (only NONE 0) 0 bytes price
  pub carry_none : price.carry ≡ 0
  pub count_is : n ≡ length bytes
  pub front : take (length bytes) tree ≡ bytes
  pub room : tree_bytes s ≤ length tree

-- the bars from bar `from` on that are before bar e may be committed: the rows of all bars before bar e are stored, nothing is carried into
-- bar `from`, the bars before it are committed, and bar e is reached
pub record Committable (s : Sheet) (plan units rows tree roots : List ℕ) (start from e n : ℕ) : Type 0 where
  pub entry : BarsPre s plan units rows start s.playing.bars
  pub rising : from ≤ e
  pub end_in : e ≤ s.playing.bars
  pub roots_are : RootsTo s roots e 0
  pub reached : prefix_costs s e 0 < NONE
  pub cut : CutPoint s from
  pub committed : Committed s tree from n

-- with the suffix costs behind them
pub record BarsBuildPre (s : Sheet) (plan units rows tree vectors roots : List ℕ) (start from e n : ℕ) : Type 0 where
  pub committable : Committable s plan units rows tree roots start from e n
  pub vectors_are : VectorsFrom s vectors e from

-- with a table to be filled with the suffix costs
pub record CommitPre (s : Sheet) (plan units rows tree roots vectors : List ℕ) (start from e n : ℕ) : Type 0 where
  pub committable : Committable s plan units rows tree roots start from e n
  pub vectors_size : 4 * (e + 1) ≤ length vectors

-- they are committed
pub record CommittedAs (s : Sheet) (rows tree : List ℕ) (e n : ℕ) : Type 0 where
  pub committed : Committed s tree e n
  pub sound : Sound s rows

-- all bars, with tables of the lengths that they need
pub record ForwardPre (s : Sheet) (plan units : List ℕ) (order : Option (List ℕ)) (rows tree roots vectors : List ℕ)
    (start count : ℕ) : Type 0 where
  pub entry : BarsPre s plan units rows start count
  pub ordered : Ordered s order
  pub roots_size : 16 * count ≤ length roots
  pub vectors_size : 4 * (count + 1) ≤ length vectors
  pub room : tree_bytes s ≤ length tree

-- no total is below the cap, or all bars are committed and the least total is known
abbrev pub FoundIn : Sheet → (tree : List ℕ) → Option Found → Type 0
FoundIn s tree None = NONE ≤ least_total s
FoundIn s tree (Some f) = Committed s tree s.playing.bars f.nodes × (f.total ≡ least_total s) × (least_total s < NONE)

-- ---- a sheet

-- what the search gives: no total is below the cap, and the tree is kept; or so many bytes at its front are the first least tree, of this
-- total
abbrev pub FoundAs : Sheet → (tree after : List ℕ) → Option Found → Type 0
FoundAs s tree after None = (NONE ≤ least_total s) × (after ≡ tree)
FoundAs s tree after (Some f) =
    (bytes : List ℕ) × (R : ℕ) × (D : ℕ) × FirstTree s bytes R D × (f.nodes ≡ length bytes) × (after ≡ over bytes tree)
    × (f.total ≡ total_of s R D)

-- the cells of the rows, four a slot: 16 × Q × L × E
abbrev pub row_cells : Sheet → ℕ
row_cells s = 4 * slots s

-- the sheet's plan, and the largest number of onsets in a bar
pub record RowCellsPre (s : Sheet) (plan : List ℕ) (most : ℕ) : Type 0 where
  pub prepared : Prepared s plan
  pub onsets : GoodOnsets s.playing
  pub most_is : most ≡ most_in_bar s.playing

-- rows of the required number, whatever they hold, and a tree slice of the required length
pub record ParsePre (s : Sheet) (plan units rows tree : List ℕ) (start count : ℕ) : Type 0 where
  pub prepared : Prepared s plan
  pub onsets : UnitsHeld s units
  pub start_is : start ≡ s.grammar.start
  pub count_is : count ≡ s.playing.bars
  pub some_slot : 0 < slots s
  pub rows_size : length rows ≡ row_cells s
  pub tree_size : tree_bytes s ≤ length tree

pub record SearchPre (s : Sheet) (grammar : GrammarTable) (playing : PlayingTable) (tree work : List ℕ) : Type 0 where
  pub held : SheetHeld s grammar playing
  pub tree_size : tree_bytes s ≤ length tree
  pub work_size : work_cells s ≤ length work

-- and the required cells of the work slice are 0
pub record Searched (s : Sheet) (tree after work cleared : List ℕ) (r : Option Found) : Type 0 where
  pub found : FoundAs s tree after r
  pub clear : cleared ≡ over (replicate (work_cells s) 0) work

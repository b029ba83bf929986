-- What a reading tells: a refusal, or the tables of an accepted sheet; and what an operation on the sheet of a text comes to.
-- Every entry above reading goes by these laws: `on_refused` where the text is refused, `on_held` where it is not.
use Rattle.std.specs.Prelude.{ℕ, ◌≡◌, List}
use Rattle.sheet.specs.declared.table.GrammarTable.{GrammarTable}
use Rattle.sheet.specs.declared.table.PlayingTable.{PlayingTable}
use Rattle.sheet.specs.Sheet.{Sheet, Timing}
use Rattle.sheet.specs.Outcome.{refused, accepted}
use Rattle.sheet.specs.Reading.{read_sheet}
use Rattle.sheet.specs.Held.{grammar_table, playing_table}
use Rattle.sheet.specs.Good.{Good}

-- a text that is refused with number k and line n; a text that means a sheet, whatever its timing
abbrev pub Refuses : (text : List ℕ) → (number line : ℕ) → Type 0
Refuses text k n = read_sheet text ≡ refused k n

abbrev pub Accepts : (text : List ℕ) → Sheet → Type 0
Accepts text s = (timing : Timing) × (read_sheet text ≡ accepted (record { sheet = s; timing = timing }))

-- the tables hold a sheet that reading accepted
pub record SheetHeld (s : Sheet) (g : GrammarTable) (p : PlayingTable) : Type 0 where
  pub good : Good s
  pub grammar : g ≡ grammar_table s.grammar
  pub playing : p ≡ playing_table s.playing

abbrev pub AcceptedAs : List ℕ → GrammarTable → PlayingTable → Type 0
AcceptedAs t g p = (s : Sheet) × Accepts t s × SheetHeld s g p

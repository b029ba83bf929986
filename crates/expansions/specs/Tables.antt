-- The tables that are lent to functions over items: what each place holds, as a function of the sheet.
use Rattle.std.specs.Prelude.{ℕ, ◌*◌, ◌/◌, ◌%◌, ◌<◌, ◌≡◌, cond, List, map, eqb, get_or}
use Rattle.std.proofs.Math.Option.{Option, none, some}
use Rattle.std.proofs.Math.ListN.{get_elem?}
use Rattle.slices.specs.Pad.{pad}
use Rattle.sheet.specs.declared.table.Rule.{Rule}
use Rattle.sheet.specs.declared.table.Rule.TheVariants.{Division, Leaf}
use Rattle.sheet.specs.Sheet.{Onset, Grammar, Playing, Sheet, bar_units}
use Rattle.sheet.specs.Sheet as meaning
use Rattle.sheet.specs.Good.{GoodRules, GoodOnsets}
use Rattle.sheet.specs.Held.{rule_cell}

-- the rule that a number stands for
unfoldable pub unpacked_of : ℕ → Rule
unpacked_of x =
    cond (eqb (x % 2) 1)
    (Leaf (x / 2 % 256) (x / 512 % 65536) (x / 33554432 % 256))
    (Division (x / 2 % 256) (x / 512 % 65536) (x / 33554432 % 256))

-- a rule without the nonterminals of its parts; where there is no rule, a division of no parts, which no accepted sheet has
abbrev pub cell_of : Option meaning.Rule → Rule
cell_of none = Division 0 0 0
cell_of (some r) = rule_cell r

-- each place holds its rule as a number
abbrev pub PackedRules : Grammar → List ℕ → Type 0
PackedRules g cells = (i : ℕ) → i < 64 → unpacked_of (get_or cells i 0) ≡ cell_of (get_elem? g.rules i)

-- the end of the longest piece, in units
abbrev pub last_unit : ℕ
last_unit = 64 * bar_units

abbrev pub unit_in : Onset → ℕ
unit_in o = o.unit

-- the units of the onsets, and the end of the longest piece in every place behind them
unfoldable pub unit_cells : Playing → List ℕ
unit_cells p = pad 513 last_unit (map unit_in p.onsets)

-- a table holds the rules of an accepted sheet; a table holds its units
pub record RulesHeld (s : Sheet) (cells : List ℕ) : Type 0 where
  pub good : GoodRules s.grammar
  pub rules : PackedRules s.grammar cells

pub record UnitsHeld (s : Sheet) (units : List ℕ) : Type 0 where
  pub good : GoodOnsets s.playing
  pub cells : units ≡ unit_cells s.playing

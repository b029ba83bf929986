-- A sheet as the code holds it: each list stands in an array from the front, with zeros in the places that are left. So a struct is a
-- function of what it means.
use Rattle.std.specs.Prelude.{ℕ, ◌<◌, ◌≡◌, List, [], ◌∷◌, ◌++◌, map, length, Result}
use Rattle.slices.specs.Every.{Every}
use Rattle.slices.specs.Pad.{pad}
use Rattle.hextext.specs.declared.line.Line.{Line}
use Rattle.hextext.specs.Packed.{front_of, tail_of}
use Rattle.sheet.specs.declared.clock.Micros.{Micros}
use Rattle.sheet.specs.declared.clock.Units.{Units}
use Rattle.sheet.specs.declared.table.Rule as held
use Rattle.sheet.specs.declared.table.Rule.TheVariants.{Division, Leaf}
use Rattle.sheet.specs.declared.table.GrammarTable.{GrammarTable}
use Rattle.sheet.specs.declared.table.PlayingTable.{PlayingTable}
use Rattle.sheet.specs.declared.table.TimingTable.{TimingTable}
use Rattle.sheet.specs.declared.table.Reading.{Reading}
use Rattle.sheet.specs.declared.refusal.Refused.{Refused}
use Rattle.sheet.specs.Sheet.{Rule, division, leaf, Onset, Grammar, Playing, Timing, TimedSheet, no_playing}
use Rattle.sheet.specs.Outcome.{Outcome}
use Rattle.sheet.specs.Refusal.{outcome_of, on_value}
use Rattle.sheet.specs.Reading.{byte, read_sheet}

abbrev pub micros : ℕ → Micros
micros t = record { 0 = t }

-- the moments that cells hold, as numbers
abbrev pub moments_in : List Micros → List ℕ
moments_in cells = map (λ m. m.0) cells

abbrev pub units : ℕ → Units
units u = record { 0 = u }

-- a line of these bytes as it is held: its kind, its count, its first eight bytes where it has more, and its last eight
pub record LineHeld (l : Line) (b : List ℕ) : Type 0 where
  pub kind : l.kind ≡ byte b 0
  pub count : l.count ≡ length b
  pub front : l.front ≡ front_of b
  pub tail : l.tail ≡ tail_of b
  pub small : Every (λ (x : ℕ). x < 256) b

-- a rule without the nonterminals of its parts, and these
abbrev pub rule_cell : Rule → held.Rule
rule_cell (division h w ks) = Division h w (length ks)
rule_cell (leaf h w n) = Leaf h w n

-- its weight, as it is held
abbrev pub weight_in : held.Rule → ℕ
weight_in (Division h w k) = w
weight_in (Leaf h w n) = w

abbrev pub parts_of : Rule → List ℕ
parts_of (division h w ks) = ks
parts_of (leaf h w n) = []

-- eight places for the parts of each rule
unfoldable pub flat : List (List ℕ) → List ℕ
flat [] = []
flat (ks ∷ rs) = pad 8 0 ks ++ flat rs

unfoldable pub child_cells : List (List ℕ) → List ℕ
child_cells rs = pad 512 0 (flat rs)

-- the zero of a rule's place
abbrev pub no_rule : held.Rule
no_rule = Division 0 0 0

unfoldable pub grammar_table : Grammar → GrammarTable
grammar_table g =
    record {
      nonterminals = g.nonterminals;
      start = g.start;
      multiplier = g.multiplier;
      count = length g.rules;
      rules = pad 64 no_rule (map rule_cell g.rules);
      children = child_cells (map parts_of g.rules);
    }

abbrev pub units_of : Onset → Units
units_of o = units o.unit

abbrev pub pitch_of : Onset → ℕ
pitch_of o = o.pitch

unfoldable pub playing_table : Playing → PlayingTable
playing_table p =
    record {
      bars = p.bars;
      count = length p.onsets;
      units = pad 512 (units 0) (map units_of p.onsets);
      pitches = pad 512 0 (map pitch_of p.onsets);
    }

abbrev pub no_grammar : Grammar
no_grammar = record { nonterminals = 0; start = 0; multiplier = 0; rules = [] }

unfoldable pub timing_table : Timing → TimingTable
timing_table timing = record { lines = pad 65 (micros 0) (map micros timing.bar_lines) }

-- no sheet: no grammar, no bars, no bar lines
abbrev pub no_sheet : TimedSheet
no_sheet = record { sheet = record { grammar = no_grammar; playing = no_playing 0 }; timing = record { bar_lines = [] } }

-- a sheet as it is held, with its timing
unfoldable pub tables : TimedSheet → Reading
tables x =
    record {
      timing = timing_table x.timing;
      grammar = grammar_table x.sheet.grammar;
      playing = playing_table x.sheet.playing;
    }

-- what reading gives: a refusal with its number and its line; or the timing and the sheet
abbrev pub reading_of : Outcome TimedSheet → Outcome Reading
reading_of o = on_value tables o

-- the promise of `read`, for every text
abbrev pub Reads : (text : List ℕ) → Result Reading Refused → Type 0
Reads text r = outcome_of r ≡ reading_of (read_sheet text)

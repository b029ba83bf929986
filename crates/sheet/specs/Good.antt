-- What layers above reading may rely on: `Good`, which `GoodLaws.good` proves of every accepted text. It speaks of the sheet alone; what
-- holds of its real time is `GoodTiming`.
use Rattle.std.specs.Prelude.{ℕ, ◌+◌, ◌*◌, ◌^◌, ◌≤◌, ◌<◌, ◌≡◌, List, [], ◌∷◌, length, get_or}
use Rattle.slices.specs.Every.{Every}
use Rattle.sheet.specs.Sheet.{Rule, division, leaf, Onset, Grammar, Playing, Sheet, Timing, bar_units, in_bar}

-- units never fall: each is at least the one before, the first at least `least`
abbrev pub Rising : (least : ℕ) → List Onset → Type 0
Rising least [] = Unit {0}
Rising least (o ∷ os) = (least ≤ o.unit) × Rising o.unit os

-- a division of q nonterminals: its head and its parts are among them, and it has 2 to 8 parts
pub record GoodDivision (q h w : ℕ) (ks : List ℕ) : Type 0 where
  pub head : h < q
  pub weight : w ≤ 65535
  pub two : 2 ≤ length ks
  pub eight : length ks ≤ 8
  pub parts : Every (λ (x : ℕ). x < q) ks

-- a leaf: its head is a nonterminal, and n is 0 to 4
pub record GoodLeaf (q h w n : ℕ) : Type 0 where
  pub head : h < q
  pub weight : w ≤ 65535
  pub kind : n ≤ 4

abbrev pub GoodRule : ℕ → Rule → Type 0
GoodRule q (division h w ks) = GoodDivision q h w ks
GoodRule q (leaf h w n) = GoodLeaf q h w n

-- a grammar while its rules are read
pub record GoodRules (g : Grammar) : Type 0 where
  pub one : 1 ≤ g.nonterminals
  pub sixteen : g.nonterminals ≤ 16
  pub start : g.start < g.nonterminals
  pub multiplier : g.multiplier ≤ 65535
  pub most : length g.rules ≤ 64
  pub rules : Every (GoodRule g.nonterminals) g.rules

-- a playing while its onsets are read. That every unit is before the end is said of the sheet and not of the conversion
pub record GoodOnsets (p : Playing) : Type 0 where
  pub one : 1 ≤ p.bars
  pub sixty_four : p.bars ≤ 64
  pub most : length p.onsets ≤ 512
  pub below : Every (λ (o : Onset). o.unit < p.bars * bar_units) p.onsets
  pub pitches : Every (λ (o : Onset). o.pitch ≤ 127) p.onsets
  pub rising : Rising 0 p.onsets
  pub few : (b : ℕ) → in_bar b p.onsets ≤ 32

-- bar lines while they are read: each bar lasts 1,000 to 60,000,000, and every moment has four bytes
pub record GoodSteps (lines : List ℕ) : Type 0 where
  pub shortest : (b : ℕ) → b + 1 < length lines → get_or lines b 0 + 1000 ≤ get_or lines (b + 1) 0
  pub longest : (b : ℕ) → b + 1 < length lines → get_or lines (b + 1) 0 ≤ get_or lines b 0 + 60_000_000
  pub fits : (i : ℕ) → i < length lines → get_or lines i 0 < 2 ^ 32

-- the bar lines of a playing
pub record GoodTiming (bars : ℕ) (timing : Timing) : Type 0 where
  pub count : length timing.bar_lines ≡ bars + 1
  pub steps : GoodSteps timing.bar_lines

-- an accepted sheet
pub record Good (s : Sheet) : Type 0 where
  pub rules : GoodRules s.grammar
  pub some_rule : 1 ≤ length s.grammar.rules
  pub onsets : GoodOnsets s.playing
  pub some_onset : 1 ≤ length s.playing.onsets

-- Valid trees, in the words of document 01's section of that name and of document 02, where named. What the parser promises about trees is
-- said with these definitions.
-- 000 is "A Parse-based Framework for Coupled Rhythm Quantization and Score Structuring", 001 "Modeling and Learning Rhythm Structure".
use Rattle.std.specs.Prelude.{ℕ, zero, suc, ◌+◌, ◌-◌, ◌*◌, ◌/◌, ◌%◌, ◌≤◌, ◌≡◌, Bool, true, cond, not, ◌&&◌, List, [], ◌∷◌, ◌++◌, eqb, leb, ltb, length, replicate}
use Rattle.std.proofs.Math.Option.{Option, some, Option-elim}
use Rattle.std.proofs.Math.ListN.{get_elem?}
use Rattle.slices.specs.Every.{Every}
use Rattle.sheet.specs.Sheet.{Rule, division, leaf, Onset, Sheet, bar_units}
use Rattle.derivations.specs.Derivation.{Item}

-- A parse tree: a rule at the root, here by its number in the sheet, and the trees of its parts from left to right, none below a leaf
-- (000, "Parse Trees and Serialization"; 001, Section 3.2). A forest is trees in a row.
mutual
  pub data Tree : Type 0 where
    node : ℕ → Forest → Tree

  pub data Forest : Type 0 where
    nil : Forest
    cons : Tree → Forest → Forest

-- "A tree is handed over as one byte a rule, each rule before its parts, parts left to right, bars in order"
unfoldable mutual
  pub written : Tree → List ℕ
  written (node r ts) = r ∷ written_all ts

  pub written_all : Forest → List ℕ
  written_all nil = []
  written_all (cons t ts) = written t ++ written_all ts

-- the onsets whose unit passes a test, in sheet order (000, Section 3.2, note 6: the restriction of a timeline)
unfoldable pub whose : (ℕ → Bool) → List Onset → List Onset
whose test [] = []
whose test (o ∷ os) = cond (test o.unit) (o ∷ whose test os) (whose test os)

-- "An interval contains its left bound, not its right" (000, "Timelines": right-open intervals)
abbrev pub contains : (left len unit : ℕ) → Bool
contains left len u = leb left u && ltb u (left + len)

-- "an onset inside is early if twice its offset from the left bound is below the length; otherwise late" (000, Section 3.2)
abbrev pub is_early : (left len unit : ℕ) → Bool
is_early left len u = ltb (2 * (u - left)) len

-- the onsets inside an interval; those of them that are early; those that are late (000, Section 3.2: `k.post`)
module _ (s : Sheet) (left len : ℕ) where
  unfoldable pub inside : List Onset
  inside = whose (contains left len) s.playing.onsets

  unfoldable pub early : List Onset
  early = whose (is_early left len) inside

  unfoldable pub late : List Onset
  late = whose (λ u. not (is_early left len u)) inside

-- how many onsets of the piece lie before a bound
unfoldable pub onsets_before : Sheet → (bound : ℕ) → ℕ
unfolding inside
onsets_before s bound = length (inside s 0 bound)

-- "numbered from 0 as rules" (document 01, "The sheet")
abbrev pub rule_at : Sheet → ℕ → Option Rule
rule_at s r = get_elem? s.grammar.rules r

-- intervals of `len` units in a row from `left` on, "each again parsed under its own nonterminal" (000: the k-split of an interval)
abbrev pub adjoining : (left len : ℕ) → (nonterminals : List ℕ) → List Item
adjoining left len [] = []
adjoining left len (q ∷ qs) = record { nonterminal = q; left = left; len = len } ∷ adjoining (left + len) len qs

-- "Each bar has one tree with the start nonterminal at its root"
unfoldable pub bars : Sheet → List Item
bars s = adjoining 0 bar_units (replicate s.playing.bars s.grammar.start)

-- "It is allowed only if k divides the length and at least one onset lies inside" (000, Section 3.2: the interval is inhabited)
unfoldable pub may_divide : Sheet → (k left len : ℕ) → Bool
unfolding inside
may_divide s k left len = eqb (len % k) 0 && ltb 0 (length (inside s left len))

-- a leaf of a tree: its interval, and n of its rule (000, (term) rules; 001, Section 3.1, (leaf) rules)
pub record Leaf : Type 0 where
  pub left : ℕ
  pub len : ℕ
  pub n : ℕ

-- A tree over an item, and a forest over items in a row, with its leaves from left to right. The rule at the root is headed by the item's
-- nonterminal, and "a division splits an interval into k equal parts", so it has k trees below it, headed so (000: "rho(t1, .., tk)").
mutual
  pub data Parsed (s : Sheet) : Tree → Item → List Leaf → Type 0 where
    by_leaf : (r h w n : ℕ) (g : Item) → rule_at s r ≡ some (leaf h w n) → h ≡ g.nonterminal
        → Parsed s (node r nil) g (record { left = g.left; len = g.len; n = n } ∷ [])
    by_division : (r h w : ℕ) (ks : List ℕ) (g : Item) (ts : Forest) (ls : List Leaf) → rule_at s r ≡ some (division h w ks)
        → h ≡ g.nonterminal → may_divide s (length ks) g.left g.len ≡ true
        → ParsedAll s ts (adjoining g.left (g.len / length ks) ks) ls → Parsed s (node r ts) g ls

  pub data ParsedAll (s : Sheet) : Forest → List Item → List Leaf → Type 0 where
    empty_forest : ParsedAll s nil [] []
    next_tree : (t : Tree) (g : Item) (ls : List Leaf) (ts : Forest) (gs : List Item) (ms : List Leaf) → Parsed s t g ls
        → ParsedAll s ts gs ms → ParsedAll s (cons t ts) (g ∷ gs) (ls ++ ms)

-- The token kinds: "0 is a continuation, 1 a note, 2 and 3 grace notes with a note" (000, Example 4; 001, Section 3.1: n - 1 grace notes)
abbrev pub continuation : ℕ
continuation = 0

abbrev pub note : ℕ
note = 1

abbrev pub grace_note : ℕ
grace_note = 2

abbrev pub grace_notes : ℕ
grace_notes = 3

-- "A leaf with nothing placed and no onset before its left bound is a rest. It needs a leaf rule with n = 4" (document 02, (i))
abbrev pub rest : ℕ
rest = 4

-- the kind of a leaf, of which so many onsets are placed and so many lie before its left bound: "With m placed, the leaf rule must have
-- n = m for m up to 2, and n = 3 for m of 3 or more"; with nothing placed and none before, it is a rest, "and n = 0 no longer fits it"
abbrev pub token : (placed before : ℕ) → ℕ
token zero zero = rest
token zero (suc b) = continuation
token (suc zero) b = note
token (suc (suc zero)) b = grace_note
token (suc (suc (suc m))) b = grace_notes

-- a leaf with the onsets that are "placed at the left bound", in sheet order (000, Section 3.2: `k.pre` and the early events)
pub record Entry : Type 0 where
  pub leaf : Leaf
  pub placed : List Onset

-- "Early onsets and those carried in are placed at the left bound. Late ones [..] are carried to the next leaf, also over a bar line"
unfoldable pub placed_from : Sheet → (carried : List Onset) → List Leaf → List Entry
placed_from s carried [] = []
placed_from s carried (l ∷ ls) =
    record { leaf = l; placed = carried ++ early s l.left l.len } ∷ placed_from s (late s l.left l.len) ls

-- what is carried out of the last of the leaves (000, Section 3.2, condition 4)
unfoldable pub carried_out : Sheet → (carried : List Onset) → List Leaf → List Onset
carried_out s carried [] = carried
carried_out s carried (l ∷ ls) = carried_out s (late s l.left l.len) ls

-- the leaves of the piece with their placed onsets: "Nothing is carried into the first leaf of the piece"
abbrev pub entries : Sheet → List Leaf → List Entry
entries s ls = placed_from s [] ls

-- "Late ones, at most three"
abbrev pub FewLate : Sheet → Leaf → Type 0
FewLate s l = length (late s l.left l.len) ≤ 3

-- "the leaf rule must have" the token kind of the placed count and of what lies before
abbrev pub KindFits : Sheet → Entry → Type 0
KindFits s e = e.leaf.n ≡ token (length e.placed) (onsets_before s e.leaf.left)

-- "A list of bytes, of any length, is a valid tree for a sheet exactly when it is such a writing, complete and with nothing after it, of
-- trees that meet every point above. Its node count is the number of its bytes."
pub record ValidTree (s : Sheet) (bytes : List ℕ) : Type 0 where
  pub trees : Forest
  pub leaves : List Leaf
  pub parsed : ParsedAll s trees (bars s) leaves
  pub writing : written_all trees ≡ bytes
  pub few_late : Every (FewLate s) leaves
  pub kinds_fit : Every (KindFits s) (entries s leaves)
  -- "nor out of the last"
  pub none_carried_out : carried_out s [] leaves ≡ []

-- a rule's weight, and that of rule r (document 01, "The sheet": both kinds have one)
abbrev pub weight_of : Rule → ℕ
weight_of (division h w ks) = w
weight_of (leaf h w n) = w

unfoldable pub weight_at : Sheet → ℕ → ℕ
weight_at s r = Option-elim (rule_at s r) 0 weight_of

-- "R is the sum of the weights of all rules used" (000: the weight of a parse tree)
unfoldable pub rule_weight : Sheet → List ℕ → ℕ
rule_weight s [] = 0
rule_weight s (r ∷ bs) = weight_at s r + rule_weight s bs

-- "the absolute distance in units from onset to its place" (000, Example 7)
abbrev pub apart : ℕ → ℕ → ℕ
apart u v = (u - v) + (v - u)

-- the same of onsets that have one place (000, "Input-Output Fitness Measure": the sum over events)
unfoldable pub distance_to : (place : ℕ) → List Onset → ℕ
distance_to place [] = 0
distance_to place (o ∷ os) = apart o.unit place + distance_to place os

-- "D is the sum, over onsets, of the absolute distance": here by leaf, since each onset has one place (`Placing.each_placed_once`)
unfoldable pub distance_of : List Entry → ℕ
distance_of [] = 0
distance_of (e ∷ es) = distance_to e.leaf.left e.placed + distance_of es

-- a valid tree with its R and D: "the node count, R, D and total" are its own
pub record Priced (s : Sheet) (bytes : List ℕ) (R D : ℕ) : Type 0 where
  pub valid : ValidTree s bytes
  pub weight : rule_weight s bytes ≡ R
  pub distance : distance_of (entries s valid.leaves) ≡ D

-- "Total = a × R + D"
abbrev pub total_of : Sheet → (R D : ℕ) → ℕ
total_of s R D = s.grammar.multiplier * R + D

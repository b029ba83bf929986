-- Score lines, in the words of document 01's section "Pricing, score lines, finding": the text of a score, which needs no sheet, and the
-- score of a list against a sheet. What writing promises is said with these definitions.
use Rattle.std.specs.Prelude.{ℕ, List, [], ◌∷◌, ◌++◌, map, length}
use Rattle.hextext.specs.Written.{line_text}
use Rattle.hextext.specs.Fields.{big_endian}
use Rattle.sheet.specs.Sheet.{Sheet}
use Rattle.trees.specs.ValidTrees.{Entry}
use Rattle.trees.specs.Leaves.{entries_of}

-- "Head `54`: B (1 byte), total (8), R (8), D (8)"
unfoldable pub head_line : (bars total R D : ℕ) → List ℕ
head_line bars total R D = 0x54 ∷ bars ∷ big_endian 8 total ++ big_endian 8 R ++ big_endian 8 D

-- a leaf as its line has it
pub record ScoreLeaf : Type 0 where
  pub left : ℕ
  pub len : ℕ
  pub n : ℕ
  pub pitches : List ℕ

-- "for each leaf `53`: left bound from the first bar (4), length (2), n of its rule (1), placed count (1)", and then
unfoldable pub leaf_front : (left len n placed : ℕ) → List ℕ
leaf_front left len n placed = 0x53 ∷ big_endian 4 left ++ big_endian 2 len ++ (n ∷ placed ∷ [])

-- "the placed pitches in sheet order"
unfoldable pub leaf_line : ScoreLeaf → List ℕ
unfolding leaf_front
leaf_line x = leaf_front x.left x.len x.n (length x.pitches) ++ x.pitches

-- the lines of leaves from left to right: "Score lines [..] are pairs of 0-9 A-F closed by byte 0A, as in a sheet"
unfoldable pub leaf_lines : List ScoreLeaf → List ℕ
leaf_lines [] = []
leaf_lines (x ∷ xs) = line_text (leaf_line x) ++ leaf_lines xs

-- the head, "then for each leaf" its line
unfoldable pub score_text : (bars R D total : ℕ) → List ScoreLeaf → List ℕ
score_text bars R D total xs = line_text (head_line bars total R D) ++ leaf_lines xs

-- ---- the score of a list against a sheet

-- a leaf with the onsets placed at it
abbrev pub score_leaf : Entry → ScoreLeaf
score_leaf e = record { left = e.leaf.left; len = e.leaf.len; n = e.leaf.n; pitches = map (λ o. o.pitch) e.placed }

abbrev pub entry_lines : List Entry → List ℕ
entry_lines es = leaf_lines (map score_leaf es)

-- the score lines of a list with this R, D and total
abbrev pub tree_text : Sheet → (list : List ℕ) → (R D total : ℕ) → List ℕ
tree_text s list R D total = score_text s.playing.bars R D total (map score_leaf (entries_of s list))

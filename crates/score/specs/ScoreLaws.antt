-- How long score lines are: 53 bytes for the head, 19 for each leaf and two for each placed pitch. Each onset of a sheet is placed once, so
-- the text of a valid tree has two bytes for each onset.
use Rattle.std.specs.Prelude.{ℕ, ◌+◌, ◌*◌, ◌≡◌, refl, List, [], ◌∷◌, length}
use Rattle.std.proofs.Common.{ap, arith, length-append}
use Rattle.std.proofs.lemmas.List.{length-map}
use Rattle.hextext.specs.Written.{line_text}
use Rattle.hextext.specs.WrittenLaws.{length-line}
use Rattle.hextext.specs.Fields.{length-big_endian}
use Rattle.sheet.specs.Sheet.{Sheet}
use Rattle.sheet.specs.Good.{GoodOnsets}
use Rattle.trees.specs.ValidTrees.{Entry, ValidTree}
use Rattle.trees.proofs.Placing.{all_placed}
use Rattle.trees.specs.Leaves.{entries_of}
use Rattle.trees.proofs.LeafLaws.{entries_place_all}
use Rattle.score.specs.Score.{head_line, ScoreLeaf, leaf_front, leaf_line, leaf_lines, score_text, score_leaf, entry_lines, tree_text}

-- the length of score lines with so many leaves and so many onsets placed
abbrev pub text_size : (leaves onsets : ℕ) → ℕ
text_size leaves onsets = 53 + 19 * leaves + 2 * onsets

pub head_line_bytes : (bars total R D : ℕ) → length (head_line bars total R D) ≡ 26
unfolding head_line
head_line_bytes bars total R D = simp (length-append, length-big_endian)

-- nine bytes before the pitches
pub leaf_front_bytes : (left len n placed : ℕ) → length (leaf_front left len n placed) ≡ 9
unfolding leaf_front
leaf_front_bytes left len n placed = simp (length-append, length-big_endian)

pub leaf_line_bytes : (x : ScoreLeaf) → length (leaf_line x) ≡ 9 + length x.pitches
unfolding leaf_line
leaf_line_bytes x =
    let front = leaf_front x.left x.len x.n (length x.pitches) in
    omega (arith, length-append front x.pitches, leaf_front_bytes x.left x.len x.n (length x.pitches))

-- the text of the head, and of a leaf's line
pub length-head : (bars total R D : ℕ) → length (line_text (head_line bars total R D)) ≡ 53
length-head bars total R D = omega (arith, length-line (head_line bars total R D), head_line_bytes bars total R D)

pub length_leaf : (x : ScoreLeaf) → length (line_text (leaf_line x)) ≡ 19 + 2 * length x.pitches
length_leaf x = omega (arith, length-line (leaf_line x), leaf_line_bytes x)

pub length-entry_lines : (es : List Entry) → length (entry_lines es) ≡ 19 * length es + 2 * length (all_placed es)
unfolding leaf_lines all_placed
length-entry_lines [] = refl
length-entry_lines (e ∷ es) =
    omega (
      arith,
      length-append (line_text (leaf_line (score_leaf e))) (entry_lines es),
      length_leaf (score_leaf e),
      length-map e.placed (λ o. o.pitch),
      length-entry_lines es,
      length-append e.placed (all_placed es),
    )

-- the length of a valid tree's score text depends on the numbers of its leaves and of the sheet's onsets alone
pub score_length : (s : Sheet) → GoodOnsets s.playing → (bs : List ℕ) → ValidTree s bs → (R D total : ℕ)
    → length (tree_text s bs R D total) ≡ text_size (length (entries_of s bs)) (length s.playing.onsets)
unfolding score_text
score_length s g bs v R D total =
    let es = entries_of s bs in
    let head = head_line s.playing.bars total R D in
    omega (
      arith,
      length-append (line_text head) (entry_lines es),
      length-head s.playing.bars total R D,
      length-entry_lines es,
      ap length (entries_place_all s bs v g),
    )

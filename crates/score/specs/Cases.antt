-- Writing on document 01's sheet S, by computation: "Tree `010303`, R 8, D 1,008" and the three lines that "the program prints"; the
-- examples of refusals 12, "S with `00`", and 13, "S with 0 bytes", and that a slice of one byte less than the text is short too. And the
-- line of a rest.
use Rattle.std.specs.Prelude.{ℕ, ◌≤◌, ◌<◌, ◌≡◌, refl, cond, List, [], ◌∷◌, ◌++◌}
use Rattle.std.proofs.Common.{ap, ◌∙◌, le-leb}
use Rattle.std.proofs.Math.Option.{Option-elim}
use Rattle.std.proofs.lemmas.Bool.{lt-leb}
use Rattle.hextext.specs.Written.{line_text}
use Rattle.hextext.specs.Fields.{big_endian}
use Rattle.sheet.specs.Literal.{text_of}
use Rattle.sheet.specs.Reading.{read_sheet}
use Rattle.sheet.specs.Cases.{grammar_s, S, sheet_s, S_means}
use Rattle.derivations.specs.Derivation.{onto}
use Rattle.trees.specs.ValidTrees.{whose, inside, early, late, bars, placed_from, distance_to}
use Rattle.trees.specs.Leaves.{leaves_from}
use Rattle.pricing.specs.Pricing.{priced, no_tree, price_sheet}
use Rattle.score.specs.Score.{head_line, leaf_line, leaf_lines, score_text, tree_text}
use Rattle.sheet.specs.Outcome.{Outcome, refused, accepted}
use Rattle.sheet.proofs.AcceptedLaws.{on_sheet_lem}
use Rattle.score.specs.Writing.{no_room, text_within, write_priced, write_sheet, write_text}

-- the three lines
abbrev pub lines_of_s : List ℕ
lines_of_s = text_of "54010000000000000440000000000000000800000000000003F0\n5300000000276001013C\n5300002760276001013E\n"

abbrev tree_of_s : List ℕ
tree_of_s = 1 ∷ 3 ∷ 3 ∷ []

pub S_score : tree_text sheet_s (1 ∷ 3 ∷ 3 ∷ []) 8 1008 1088 ≡ lines_of_s
unfolding score_text head_line leaf_lines leaf_line big_endian line_text leaves_from bars placed_from early late inside whose
S_score = refl

S_priced : price_sheet sheet_s tree_of_s ≡ priced 3 8 1008 1088
unfolding price_sheet onto whose distance_to Option-elim
S_priced = refl

S_not_priced : price_sheet sheet_s (0 ∷ []) ≡ no_tree
unfolding price_sheet onto whose distance_to Option-elim
S_not_priced = refl

-- what writing on S does, by what it does on the sheet that S means
on_S : (list : List ℕ) (room : ℕ) (o : Outcome (List ℕ)) → write_sheet sheet_s list room ≡ o → write_text S list room ≡ o
unfolding write_text
on_S list room o e = on_sheet_lem S (λ s. write_sheet s list room) sheet_s (_, S_means) ∙ e

-- the tree's text for a slice of `room` bytes
S_text : (room : ℕ) → write_text S tree_of_s room ≡ text_within room lines_of_s
unfolding write_sheet
S_text room = on_S tree_of_s room _ (ap (write_priced sheet_s tree_of_s room) S_priced ∙ ap (text_within room) S_score)

-- with room for 95 bytes the three lines are written
pub S_written : (room : ℕ) → 95 ≤ room → write_text S (1 ∷ 3 ∷ 3 ∷ []) room ≡ accepted lines_of_s
unfolding text_within
S_written room h = S_text room ∙ ap (λ b. cond b (accepted lines_of_s) no_room) (le-leb 95 room h)

-- with less the slice is short
pub S_short : (room : ℕ) → room < 95 → write_text S (1 ∷ 3 ∷ 3 ∷ []) room ≡ refused 13 0
unfolding text_within
S_short room h = S_text room ∙ ap (λ b. cond b (accepted lines_of_s) no_room) (lt-leb 95 room h)

-- `00` is no valid tree, whatever the slice
pub S_no_tree : (room : ℕ) → write_text S (0 ∷ []) room ≡ refused 12 0
unfolding write_sheet
S_no_tree room = on_S (0 ∷ []) room _ (ap (write_priced sheet_s (0 ∷ []) room) S_not_priced)

-- document 02, (i), "`53` lines show 04": S with a rest of the halves as rule 4 and one onset, at the middle of the bar; its tree `010403`
-- in a slice of the exact length
abbrev rested : List ℕ
rested = grammar_s ++ text_of "4C01000204\n4501001E8480\n4E000F42403E40\n"

pub rest_written : write_text rested (1 ∷ 4 ∷ 3 ∷ []) 93
    ≡ accepted (text_of "5401000000000000005A00000000000000090000000000000000\n530000000027600400\n5300002760276001013E\n")
unfolding write_text write_sheet read_sheet price_sheet onto distance_to Option-elim score_text head_line leaf_lines leaf_line big_endian line_text
    leaves_from bars placed_from early late inside whose
rest_written = refl

-- The required lengths of document 01's sheet S, and the number of lengths of a grammar with k in {2, 3}, by computation.
use Rattle.std.specs.Prelude.{◌≡◌, refl, [], ◌∷◌}
use Rattle.sheet.specs.Sheet.{division, leaf, in_bar}
use Rattle.sheet.specs.Cases.{sheet_s}
use Rattle.sizes.specs.Sizes.{length_count, work_cells, tree_bytes, most_in_bar, largest}

-- 20,160 halves six times
S_lengths : length_count sheet_s.grammar.rules ≡ 7
unfolding length_count
S_lengths = refl

S_most_in_bar : most_in_bar sheet_s.playing ≡ 2
unfolding most_in_bar largest in_bar
S_most_in_bar = refl

pub S_tree : tree_bytes sheet_s ≡ 161
unfolding tree_bytes
S_tree = refl

pub S_work : work_cells sheet_s ≡ 464
unfolding work_cells length_count most_in_bar largest in_bar
S_work = refl

-- 20,160 is 64 × 9 × 35: halves and thirds reach 7 × 3 lengths
halves_and_thirds : length_count (division 0 0 (0 ∷ 0 ∷ []) ∷ division 0 0 (0 ∷ 0 ∷ 0 ∷ []) ∷ leaf 0 0 1 ∷ []) ≡ 21
unfolding length_count
halves_and_thirds = refl

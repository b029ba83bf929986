-- Where each section of the plan begins, one behind the other. `src/layout.rt` has the same names for the sections.
use Rattle.std.specs.Prelude.{ℕ, ◌+◌, ◌*◌}
use Rattle.groups.specs.Groups.{numbers_most, first_cells}

-- the token kinds that a nonterminal's leaf rules may have, and the cells of the least leaves
abbrev pub kinds : ℕ
kinds = 5

abbrev pub leaf_cells : ℕ
leaf_cells = kinds * 16

-- the packed rules stand at the front; behind them the nonterminals of their parts
abbrev pub children_at : ℕ
children_at = 64

-- the packed cells of the leaf rules
abbrev pub leaves_at : ℕ
leaves_at = children_at + 512

-- the lengths
abbrev pub lengths_at : ℕ
lengths_at = leaves_at + leaf_cells

-- the index of each length's part, by arity
abbrev pub part_lengths_at : ℕ
part_lengths_at = lengths_at + 84

-- the rules by head, and the first place of each group
abbrev pub order_at : ℕ
order_at = part_lengths_at + 9 * 84

abbrev pub first_at : ℕ
first_at = order_at + numbers_most

-- what each carry state saves
abbrev pub savings_at : ℕ
savings_at = first_at + first_cells

-- the multiplier, the number of nonterminals and the number of lengths
abbrev pub multiplier_at : ℕ
multiplier_at = savings_at + 4

abbrev pub nonterminals_at : ℕ
nonterminals_at = multiplier_at + 1

abbrev pub length_count_at : ℕ
length_count_at = nonterminals_at + 1

-- the ways of each part of each rule
abbrev pub ways_at : ℕ
ways_at = length_count_at + 1

-- the cells of the plan
abbrev pub plan_cells : ℕ
plan_cells = ways_at + 3 * 512

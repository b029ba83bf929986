-- Calls of `find`, for promises that speak of two or more.
use Rattle.std.specs.Prelude.{ℕ, ◌≤◌, ◌≡◌, List, length, take}
use Rattle.sheet.specs.Sheet.{Sheet}
use Rattle.sheet.specs.Accepted.{Accepts}
use Rattle.sizes.specs.Sizes.{tree_bytes, work_cells}
use Rattle.pricing.specs.declared.Priced.{Priced}
use Rattle.finding.specs.Finding.{Finds}
use Rattle.sheet.specs.Refusal.{answer_number}
use Rattle.pricing.specs.Pricing.{Answer, figures_in}

-- a call of `find`, by whatever meets its contract: the text, both slices before and after it, and what is given
pub record Call : Type 0 where
  pub text : List ℕ
  pub tree : List ℕ
  pub tree' : List ℕ
  pub work : List ℕ
  pub work' : List ℕ
  pub answer : Answer
  pub finds : Finds text tree tree' work work' answer

-- "the tree found": the bytes at the front of the tree slice, as many as the node count given
abbrev pub found_bytes : Call → List ℕ
found_bytes x = take (figures_in x.answer).nodes x.tree'

-- it hands back a tree of the sheet s
pub record TreeOf (s : Sheet) (x : Call) : Type 0 where
  pub means : Accepts x.text s
  pub handed : answer_number x.answer ≡ 0

-- its slices have the lengths that the sheet s requires
pub record RoomFor (s : Sheet) (x : Call) : Type 0 where
  pub cells : work_cells s ≤ length x.work
  pub bytes : tree_bytes s ≤ length x.tree

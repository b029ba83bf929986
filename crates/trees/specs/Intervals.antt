-- Where the items of a sheet lie: the left bound of an item is a multiple of its length from its bar's start, so a length and one onset
-- inside name the interval.
use Rattle.std.specs.Prelude.{ℕ, ◌+◌, ◌*◌, ◌≤◌, ◌≡◌, length}
use Rattle.sheet.specs.Sheet.{bar_units}
use Rattle.derivations.specs.Derivation.{Item}

-- an item of the bar that begins at `start`: its left bound is a multiple of its length from there, and it ends inside the bar
pub record Aligned (start : ℕ) (g : Item) : Type 0 where
  pub times : ℕ
  pub is : g.left ≡ start + times * g.len
  pub ends : g.left + g.len ≤ start + bar_units

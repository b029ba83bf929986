-- What the functions of pricing are given, and what they give: how far a list is read, in the terms of `derivations`' `Reads`.
use Rattle.std.specs.Prelude.{ℕ, ◌+◌, ◌*◌, ◌≤◌, ◌≡◌, List, [], ◌∷◌, map, length, drop, Option, Some, None}
use Rattle.sheet.specs.Sheet.{Sheet, bar_units}
use Rattle.sheet.specs.Held.{parts_of, child_cells}
use Rattle.derivations.specs.Derivation.{Item, Price}
use Rattle.derivations.specs.Reads.{Reads}
use Rattle.derivations.specs.Reads as reading
use Rattle.trees.specs.ValidTrees.{adjoining, bars}
use Rattle.trees.specs.Instance.{instance_of}
use Rattle.trees.specs.Room.{tree_most}
use Rattle.expansions.specs.declared.Interval.{Interval}
use Rattle.expansions.specs.Tables.{RulesHeld, UnitsHeld, last_unit}
use Rattle.expansions.specs.Items.{first_at, item_of}
use Rattle.pricing.specs.declared.Progress.{Progress}

-- the tables of a sheet, as they are lent
pub record Lent (s : Sheet) (cells children units : List ℕ) : Type 0 where
  pub rules : RulesHeld s cells
  pub kids : children ≡ child_cells (map parts_of s.grammar.rules)
  pub onsets : UnitsHeld s units

-- The sums stay small: each rule read weighs at most 65,535, and each onset passed is at most a bar away. No tree has more
-- than `tree_most` nodes.
pub record Sized (list : List ℕ) (p : Progress) : Type 0 where
  pub in_list : p.at ≤ length list
  pub short : length list ≤ tree_most
  pub onsets : p.from ≤ 512
  pub few : p.carried ≤ 3
  pub weight : p.weight ≤ 65535 * p.at
  pub distance : p.distance ≤ bar_units * p.from

-- the progress behind a rule that passes some onsets
abbrev pub progress_behind : Progress → (passed carried weight distance : ℕ) → Progress
progress_behind p passed carried weight distance =
    record {
      at = p.at + 1;
      from = p.from + passed;
      carried = carried;
      weight = p.weight + weight;
      distance = p.distance + distance;
    }

-- the sums fit
pub record Room (p : Progress) (passed weight distance : ℕ) : Type 0 where
  pub at : p.at ≤ tree_most
  pub from : p.from + passed ≤ 512
  pub weight_most : p.weight + weight ≤ 65535 * (tree_most + 1)
  pub distance_most : p.distance + distance ≤ bar_units * 512

-- read against `gs` from p on, the list gives a price, and n is what p comes to
pub record Passed (s : Sheet) (list : List ℕ) (gs : List Item) (p n : Progress) : Type 0 where
  pub price : Price
  pub reads : Reads (instance_of s) gs p.carried (drop p.at list) (drop n.at list) price
  pub carried : n.carried ≡ price.carry
  pub weight : n.weight ≡ p.weight + price.weight
  pub distance : n.distance ≡ p.distance + price.distance
  pub sized : Sized list n

-- read against `gs` from p on, the list has no reading
abbrev pub NotPassed : Sheet → List ℕ → List Item → Progress → Type 0
NotPassed s list gs p = reading.Stuck (instance_of s) gs p.carried (drop p.at list)

-- an item that is entered with the progress p
pub record ItemPre (s : Sheet) (cells children units list : List ℕ) (over : Interval) (p : Progress) : Type 0 where
  pub lent : Lent s cells children units
  pub within : over.left.0 + over.len.0 ≤ last_unit
  pub in_bar_lem : over.len.0 ≤ bar_units
  pub first : p.from ≡ first_at s over.left.0
  pub sized : Sized list p

abbrev pub ItemWalked : Sheet → List ℕ → ℕ → Interval → Progress → Option Progress → Type 0
ItemWalked s list q over p None = NotPassed s list (item_of q over ∷ []) p
ItemWalked s list q over p (Some n) =
    Passed s list (item_of q over ∷ []) p n × (n.from ≡ first_at s (over.left.0 + over.len.0))

-- intervals in a row under the nonterminals `kids`, the first of them `first`
abbrev pub row_of : Interval → List ℕ → List Item
row_of first kids = adjoining first.left.0 first.len.0 kids

abbrev pub end_of : Interval → List ℕ → ℕ
end_of first kids = first.left.0 + length kids * first.len.0

pub record ForestPre (s : Sheet) (cells children units list kids : List ℕ) (first : Interval) (p : Progress) : Type 0 where
  pub lent : Lent s cells children units
  pub within : end_of first kids ≤ last_unit
  pub in_bar_lem : first.len.0 ≤ bar_units
  pub from : p.from ≡ first_at s first.left.0
  pub sized : Sized list p

abbrev pub ForestWalked : Sheet → List ℕ → List ℕ → Interval → Progress → Option Progress → Type 0
ForestWalked s list kids first p None = NotPassed s list (row_of first kids) p
ForestWalked s list kids first p (Some n) = Passed s list (row_of first kids) p n × (n.from ≡ first_at s (end_of first kids))

-- before the first rule
abbrev pub unread : Progress
unread = record { at = 0; from = 0; carried = 0; weight = 0; distance = 0 }

-- all bars
abbrev pub BarsWalked : Sheet → List ℕ → Option Progress → Type 0
BarsWalked s list None = NotPassed s list (bars s) unread
BarsWalked s list (Some n) = Passed s list (bars s) unread n

-- Steps of packing the units of a playing into cells.
use mathlib.Core.List.{[]}
use mathlib.Core.Path.{◌≡◌, ap, ◌∙◌}
use mathlib.Core.List.{List, map}
use Prim.Native.Nat.{ℕ, ◌+◌, ◌≤◌, ◌<◌}
use native.Mathlib.Omega.{arith}
use native.Mathlib.Numerals.{add-one}
use lib.ListN.{length, get_or, set, take, get_or-map}
use lib.Seq.{take-suc, take_all, length-take-le}
use Rattle.slices.specs.Pad.{pad, pad_map_more, get_or-pad}
use Rattle.sheet.specs.declared.table.PlayingTable.{PlayingTable}
use Rattle.sheet.specs.declared.clock.Units.{Units}
use Rattle.sheet.specs.Sheet.{Onset, Playing}
use Rattle.sheet.specs.Good.{GoodOnsets}
use Rattle.sheet.specs.Held.{units, units_of, playing_table}
use Rattle.expansions.specs.Tables.{last_unit, unit_in, unit_cells}

abbrev pub none : Onset
none = record { unit = 0; pitch = 0 }

-- the cells after i units
abbrev pub UnitsOf : PlayingTable → List ℕ → ℕ → Type 0
UnitsOf p out i = (q : Playing) → GoodOnsets q → p ≡ playing_table q → out ≡ pad 513 last_unit (map unit_in (take i q.onsets))

pub units_none : (p : PlayingTable) (out : List ℕ) → out ≡ pad 513 last_unit [] → UnitsOf p out 0
units_none p out e q g h = e

pub units_more : (p : PlayingTable) (out : List ℕ) (i : ℕ) → UnitsOf p out i → i < p.count
    → UnitsOf p (set out i (get_or p.units i (units 0)).0) (i + 1)
unfolding playing_table
units_more p out i t h q g e =
    let os = q.onsets in
    let k : i < length os = omega (arith, ap (λ (x : PlayingTable). x.count) e) in
    let u : (get_or p.units i (units 0)).0 ≡ unit_in (get_or os i none) =
    ap (λ (x : PlayingTable). (get_or x.units i (units 0)).0) e
    ∙ ap (λ (x : Units). x.0) (get_or-pad 512 (units 0) (map units_of os) i (omega (arith, g.most)) ∙ get_or-map units_of os i none) in
    rw (u, add-one, take-suc os i none k)
    (pad_map_more 513 last_unit unit_in (take i os) (get_or os i none) out i (t q g e) (length-take-le i os (omega arith))
    (omega (arith, g.most)))

pub units_all : (p : PlayingTable) (out : List ℕ) (i : ℕ) → UnitsOf p out i → p.count ≤ i → (q : Playing) → GoodOnsets q → p ≡ playing_table q
    → out ≡ unit_cells q
unfolding playing_table unit_cells
units_all p out i t h q g e =
    t q g e ∙ ap (λ xs. pad 513 last_unit (map unit_in xs)) (take_all i q.onsets (omega (arith, ap (λ (x : PlayingTable). x.count) e)))

-- A refusal keeps the tree slice. Where the score slice is short a tree has been found by then, so what stood in its place is put back.
use Rattle.std.specs.Prelude.{ℕ, List}
use Rattle.slices.specs.Over.{over}
use Rattle.reporting.specs.declared.Shown.{Shown}
use Rattle.reporting.specs.declared.Shown.TheVariants.{Score, Line}

-- the tree slice after an answer: score lines leave it as it is, and with a refusal `front`, what stood there before, is put back
abbrev pub restored : Shown → (front tree : List ℕ) → List ℕ
restored (Score n) front tree = tree
restored Line front tree = over front tree

-- What reading the lines of a text promises.
use Rattle.std.specs.Prelude.{◌≡◌, List, ℕ, Result}
use Rattle.sheet.specs.declared.table.Reading.{Reading}
use Rattle.sheet.specs.declared.refusal.Refused.{Refused}
use Rattle.sheet.specs.Reading.{nothing}
use Rattle.sheet.specs.Refusal.{outcome_of}
use Rattle.sheet.specs.Rest.{read_rest}
use Rattle.sheet.specs.Held.{reading_of}

-- the lines of a text from the first on: the sheet that they mean, as it is held, or their refusal
abbrev pub LinesRead : (t : List ℕ) → Result Reading Refused → Type 0
LinesRead t r = outcome_of r ≡ reading_of (read_rest nothing 1 t)

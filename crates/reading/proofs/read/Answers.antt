-- `read` meets its contract: refusal 1, the empty text, then line by line. Assumes nothing.
use Rattle.std.specs.Prelude.{ℕ, ◌≤◌, List, length}
use mathlib.Core.Path.{◌≡◌, ap, ◌∙◌, sym}
use native.Mathlib.Omega.{arith}
use Rattle.sheet.specs.Held.{reading_of}
use Rattle.sheet.specs.Laws.{too_long}
use Rattle.sheet.specs.Reading.{nothing, read_sheet}
use Rattle.sheet.specs.Rest.{read_rest, whole}
use Rattle.reading.proofs.FirstLine.{empty_bad}
use borrow.Author.Rules.{rules}
use Rattle.reading.proofs.read.Goals as goal

-- what the lines of a text come to that is neither empty nor too long
lines_are : (t : List ℕ) → (length t ≡ 0 → ⊥) → length t ≤ 16384 → read_sheet t ≡ read_rest nothing 1 t
lines_are t some few = whole t (omega (arith, some)) few

pub returns-then-text-gt-TEXT_MOST : goal.returns-then-text-gt-TEXT_MOST
returns-then-text-gt-TEXT_MOST c = rw c.at.ensures (ap reading_of (sym (too_long _ (search rules))))

pub returns-then-text-eq0 : goal.returns-then-text-eq0
returns-then-text-eq0 c = rw c.at-then-text-eq0.ensures (ap reading_of (sym (empty_bad _ c.if-text-eq0.true)))

pub returns : goal.returns
returns c =
    c.read_lines.ensures ∙ ap reading_of (sym (lines_are _ c.if-text-eq0.false c.if-text-gt-TEXT_MOST.false))

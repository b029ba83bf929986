-- What a reading tells: a refusal, or the tables of an accepted sheet; and what an operation on the sheet of a text comes to.
-- Every entry above reading goes by these laws: `on_refused` where the text is refused, `on_held` where it is not.
use Rattle.std.specs.Prelude.{ℕ, ◌≡◌, List, ◌⊎◌, Ok, Err}
use Rattle.std.proofs.Math.Path.{refl, ap}
use Rattle.std.proofs.Common.{sym, subst, ◌∙◌, inl, inr}
use Rattle.sheet.specs.declared.table.GrammarTable.{GrammarTable}
use Rattle.sheet.specs.declared.table.PlayingTable.{PlayingTable}
use Rattle.sheet.specs.declared.table.Reading.{Reading}
use Rattle.sheet.specs.Sheet.{Sheet, TimedSheet}
use Rattle.sheet.specs.declared.refusal.Refused.{Refused}
use Rattle.sheet.specs.Outcome.{Outcome, refused, accepted, number_in, line_in, and_then, accepted_not_refused, accepted_value}
use Rattle.sheet.specs.Refusal.{number_of}
use Rattle.sheet.specs.Reading.{read_sheet, on_sheet}
use Rattle.sheet.specs.Held.{tables, reading_of, Reads}
use Rattle.sheet.specs.Good.{Good}
use Rattle.sheet.proofs.GoodLaws.{good}
use Rattle.sheet.specs.Accepted.{Refuses, Accepts, SheetHeld, AcceptedAs}

-- it is one or the other
pub refuses_or_accepts : (text : List ℕ) → ((k : ℕ) × (n : ℕ) × Refuses text k n) ⊎ ((s : Sheet) × Accepts text s)
refuses_or_accepts text = go (read_sheet text) refl
  where
    go : (o : Outcome TimedSheet) → read_sheet text ≡ o → ((k : ℕ) × (n : ℕ) × Refuses text k n) ⊎ ((s : Sheet) × Accepts text s)
    go (refused k n) e = inl (k, n, e)
    go (accepted x) e = inr (x.sheet, (x.timing, e))

pub accepted_good : (text : List ℕ) (s : Sheet) → Accepts text s → Good s
accepted_good text s a = good text _ a.1

-- the sheet behind the tables
pub sheet_held : (t : List ℕ) (g : GrammarTable) (p : PlayingTable) → AcceptedAs t g p → (s : Sheet) × SheetHeld s g p
sheet_held t g p (s, a, h) = (s, h)

-- an operation on the sheet of a text, by what the text means
module _ {A : Type 0} (t : List ℕ) (f : Sheet → Outcome A) where
  pub on_refusal : (k n : ℕ) → read_sheet t ≡ refused k n → on_sheet t f ≡ refused k n
  unfolding on_sheet
  on_refusal k n e = ap (λ (o : Outcome TimedSheet). and_then o (λ x. f x.sheet)) e

  pub on_sheet_lem : (s : Sheet) → Accepts t s → on_sheet t f ≡ f s
  unfolding on_sheet
  on_sheet_lem s a = ap (λ (o : Outcome TimedSheet). and_then o (λ x. f x.sheet)) a.1

module _ (t : List ℕ) where
  -- a refusal that reading gives is the text's
  pub refused_reading : (e : Refused) → Reads t (Err e) → Refuses t (number_of e.refusal) e.line
  refused_reading e h = go (read_sheet t) refl
    where
      go : (o : Outcome TimedSheet) → read_sheet t ≡ o → o ≡ refused (number_of e.refusal) e.line
      go (refused k n) q = let w = sym (h ∙ ap reading_of q) in λ i. refused (number_in (w i)) (line_in (w i))
      go (accepted x) q = absurd (accepted_not_refused (sym (h ∙ ap reading_of q)))

  -- the tables that it gives hold the sheet of an accepted text
  pub accepted_reading : (r : Reading) → Reads t (Ok r) → AcceptedAs t r.grammar r.playing
  unfolding tables
  accepted_reading r h = go (read_sheet t) refl
    where
      go : (o : Outcome TimedSheet) → read_sheet t ≡ o → AcceptedAs t r.grammar r.playing
      go (refused k n) q = absurd (accepted_not_refused (h ∙ ap reading_of q))
      go (accepted x) q =
          let is : r ≡ tables x = accepted_value (h ∙ ap reading_of q) in (
            x.sheet,
            (x.timing, q),
            record {
              good = good t x q;
              grammar = ap (λ (y : Reading). y.grammar) is;
              playing = ap (λ (y : Reading). y.playing) is;
            },
          )

  -- an operation on the sheet of the text: the reading's refusal; or what holds of it over each sheet that the tables hold
  pub on_refused : {A : Type 0} (f : Sheet → Outcome A) (e : Refused) → Reads t (Err e)
      → on_sheet t f ≡ refused (number_of e.refusal) e.line
  on_refused f e h = on_refusal t f (number_of e.refusal) e.line (refused_reading e h)

  pub on_held : {A : Type 0} (f : Sheet → Outcome A) (P : Outcome A → Type 0) (r : Reading) → Reads t (Ok r)
      → ((s : Sheet) → SheetHeld s r.grammar r.playing → P (f s)) → P (on_sheet t f)
  on_held f P r e h = go (accepted_reading r e)
    where
      go : AcceptedAs t r.grammar r.playing → P (on_sheet t f)
      go (s, a, held) = subst P (sym (on_sheet_lem t f s a)) (h s held)

  -- and the sheet that they hold
  pub held_sheet : (r : Reading) → Reads t (Ok r) → (s : Sheet) × SheetHeld s r.grammar r.playing
  held_sheet r e = sheet_held t r.grammar r.playing (accepted_reading r e)

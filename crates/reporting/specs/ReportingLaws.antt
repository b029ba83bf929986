-- What the entry behind the program prints, from `Reports` alone: the score lines of the first least tree, or the line of a refusal.
use Rattle.std.specs.Prelude.{ℕ, ◌≤◌, ◌<◌, ◌≡◌, refl, List, ◌∷◌}
use Rattle.std.proofs.Common.{sym, ◌∙◌, inl, inr, arith, le-leb}
use Rattle.std.proofs.Math.Path.{ap}
use Rattle.std.proofs.Math.Bool.{true, false, false≢true}
use Rattle.std.proofs.Math.Decide.{dec_le}
use Rattle.std.proofs.lemmas.Bool.{lt-leb}
use Rattle.std.proofs.Math.ListN.{length}
use Rattle.hextext.specs.WrittenLaws.{length-line}
use Rattle.hextext.specs.Fields.{big_endian, length-big_endian}
use Rattle.slices.specs.Over.{length-over, take-over}
use Rattle.reporting.specs.declared.Shown.{Shown}
use Rattle.reporting.specs.declared.Shown.TheVariants.{Score, Line}
use Rattle.sheet.specs.Bounds.{refused_within}
use Rattle.sheet.specs.Outcome.{Outcome, refused, accepted}
use Rattle.sheet.proofs.AcceptedLaws.{refuses_or_accepts}
use Rattle.score.specs.Writing as writing
use Rattle.score.specs.Writing.{text_within}
use Rattle.finding.specs.Finding.{Search, no_tree, found, find_text, line_of}
use Rattle.finding.specs.Outcomes.{by_lengths}
use Rattle.finding.specs.FindingLaws.{refused_found, sheet_found}
use Rattle.reporting.specs.Reporting.{refusal_line, page_text, shown_of, printed, line_with, Prints, Printed, Reports}

-- a refusal's line fits the two bytes that it has there
pub line_most : (text : List ℕ) (tree work : ℕ) → line_of (find_text text tree work) ≤ 16385
line_most text tree work = elim (refuses_or_accepts text) [
  | inl (k, n, e) ↦ rw (refused_found text tree work k n e) (refused_within text k n e).1
  | inr (s, a) ↦ rw (sheet_found text tree work s a)
      (by_lengths s tree work (λ o. line_of o ≤ 16385)
      (λ q. omega arith) (λ q. omega arith) (λ t q. omega arith) (λ t q. omega arith))
]

-- the line of a refusal has nine bytes
pub refusal_line_bytes : (k n : ℕ) → length (refusal_line k n) ≡ 9
unfolding refusal_line
refusal_line_bytes k n = omega (arith, length-line (0x52 ∷ k ∷ big_endian 2 n), length-big_endian 2 n)

-- a text that the score slice has no room for is refused with 13
pub within_lines : (room : ℕ) (text : List ℕ) → length text ≤ room → text_within room text ≡ accepted text
unfolding text_within
within_lines room text h = rw (le-leb (length text) room h) refl

pub within_short : (room : ℕ) (text : List ℕ) → room < length text → text_within room text ≡ refused 13 0
unfolding text_within
within_short room text h = rw (lt-leb (length text) room h) refl

-- a page whose score lines have room in the slice is what the answer stands for
abbrev pub Fits : Outcome (List ℕ) → (room : ℕ) → Type 0
Fits (accepted text) room = length text ≤ room
Fits (refused k n) room = Unit {0}

pub prints : (page : Outcome (List ℕ)) {score score_after line lineAfter : List ℕ} {answer : Shown} → Fits page (length score)
    → answer ≡ shown_of page
    → score_after ≡ writing.score_after page score → lineAfter ≡ line_with page line
    → Prints page score score_after line lineAfter answer
unfolding writing.score_after
prints page {score} {score_after} {line} {lineAfter} {answer} h a s l =
    record { text = is page h a s l; shown = a; score_is = s; line_is = l }
  where
    is : (page : Outcome (List ℕ)) → Fits page (length score) → answer ≡ shown_of page
        → score_after ≡ writing.score_after page score
        → lineAfter ≡ line_with page line → printed answer score_after lineAfter ≡ page_text page
    is (accepted text) h a s l = rw (a, s) (take-over text score h)
    is (refused k n) h a s l = rw (a, l) refl

-- ---- what a program may print

module _ {score score_after line lineAfter : List ℕ} {answer : Shown} where
  -- a line slice of 9 bytes stays one
  nine : (page : Outcome (List ℕ)) → Prints page score score_after line lineAfter answer → length line ≡ 9 → length lineAfter ≡ 9
  nine (accepted text) p h = ap length p.line_is ∙ h
  nine (refused k n) p h = ap length p.line_is ∙ refusal_line_bytes k n

  -- as many bytes as are shown stand in the score slice
  fits : (page : Outcome (List ℕ)) → Fits page (length score) → Prints page score score_after line lineAfter answer → (n : ℕ)
      → answer ≡ Score n
      → n ≤ length score_after
  unfolding writing.score_after
  fits (accepted text) h p n e =
      let same : length text ≡ n = score_bytes (sym p.shown ∙ e) in
      omega (arith, same, h, ap length p.score_is, length-over text score)
    where
      score_bytes : {a b : ℕ} → Score a ≡ Score b → a ≡ b
      score_bytes e = cc
  fits (refused k m) h p n e = absurd (line_no_score (sym p.shown ∙ e))
    where
      line_no_score : {a : ℕ} → Line ≡ Score a → ⊥
      line_no_score e = let f : false ≡ true = cc in false≢true f

-- a page that is cut to a slice fits it
within_fits : (room : ℕ) (text : List ℕ) → Fits (text_within room text) room
within_fits room text = elim (dec_le (length text) room) [
  | yes h ↦ rw (within_lines room text h) h
  | no h ↦ rw (within_short room text (omega arith)) tt
]

module _ {text tree treeAfter work workAfter score score_after line lineAfter : List ℕ} {answer : Shown}
    (r : Reports text tree treeAfter work workAfter score score_after line lineAfter answer) where
  abbrev Reported : Outcome Search → Type 0
  Reported o = Printed o tree treeAfter work workAfter score score_after line lineAfter answer

  pub line_stays : length line ≡ 9 → length lineAfter ≡ 9
  line_stays h = go (find_text text (length tree) (length work)) r.is
    where
      go : (o : Outcome Search) → Reported o → length lineAfter ≡ 9
      go (refused k n) (p, t, w) = nine (refused k n) p h
      go (accepted (no_tree s)) (p, t, w) = nine (refused 11 0) p h
      go (accepted (found s)) (p, w) = nine _ p.page h

  pub score_fits : (n : ℕ) → answer ≡ Score n → n ≤ length score_after
  score_fits n e = go (find_text text (length tree) (length work)) r.is
    where
      go : (o : Outcome Search) → Reported o → n ≤ length score_after
      go (refused k m) (p, t, w) = fits (refused k m) tt p n e
      go (accepted (no_tree s)) (p, t, w) = fits (refused 11 0) tt p n e
      go (accepted (found s)) (p, w) = fits _ (within_fits (length score) _) p.page n e

-- What `refusal_line` composes, and what each way out of `compose_sheet` gives, by what `find_sheet` and `write_priced` told; then the same
-- of `compose`, by what `read` told. Then what `report` copies: the front of the tree slice, and with a refusal back again. Assumes
-- nothing.
use Prim.Native.Nat.{ℕ, ◌≤◌, ◌<◌}
use mathlib.Core.Path.{◌≡◌, refl, sym, ap, subst, ◌∙◌}
use mathlib.Core.List.{List, [], ◌∷◌, ◌++◌}
use native.Mathlib.Decide.{dec_le, dec_lt}
use native.Mathlib.Omega.{arith}
use lib.ListN.{length, take, drop, replicate}
use lib.Seq.{length-take-le, take_all, take_at}
use Rattle.slices.specs.Over.{over, over_from, over_nil, over_back, over-drop}
use Rattle.hextext.specs.Written.{line_text, pairs_of, has_room, LineWritten}
use Rattle.hextext.specs.Fields.{big_endian}
use Rattle.sheet.specs.declared.table.GrammarTable.{GrammarTable}
use Rattle.sheet.specs.declared.table.PlayingTable.{PlayingTable}
use Rattle.sheet.specs.declared.table.Reading.{Reading}
use Rattle.sheet.specs.Sheet.{Sheet}
use Rattle.sheet.specs.Held.{Reads}
use Rattle.std.proofs.Common.{Result, Ok, Err}
use Rattle.sheet.specs.declared.refusal.Refused.{Refused}
use Rattle.sheet.specs.Outcome.{Outcome, refused, accepted, number_in, line_in, accepted_value, accepted_not_refused}
use Rattle.sheet.specs.Refusal.{number_of, outcome_of, number_some}
use Rattle.sheet.specs.Accepted.{SheetHeld}
use Rattle.sheet.proofs.AcceptedLaws.{on_refused, on_held}
use Rattle.trees.specs.ValidTrees.{total_of}
use Rattle.trees.specs.Room.{tree_most}
use Rattle.trees.proofs.Theorems.{nodes_most}
use Rattle.pricing.specs.declared.Priced.{Priced}
use Rattle.pricing.specs.PricingLaws.{tree_priced}
use Rattle.score.specs.Score.{tree_text}
use Rattle.score.specs.Writing.{no_room, text_within, write_priced, write_sheet, written_of, score_after}
use Rattle.score.specs.Clauses.{PricedPre}
use Rattle.finding.specs.Finding.{Search, no_tree, found, find_sheet, find_text, Gives}
use Rattle.finding.specs.FindingLaws.{TreeHandedBack, tree_handed_back}
use Rattle.reporting.specs.declared.Shown.{Shown}
use Rattle.reporting.specs.declared.Shown.TheVariants.{Score, Line}
use Rattle.reporting.specs.Reporting.{refusal_line, tree_with, Prints, Printed, Reports}
use Rattle.reporting.specs.Restoring.{restored}
use Rattle.reporting.specs.ReportingLaws.{within_lines, within_short, prints}

-- ---- `refusal_line`

-- the field of a line's number, behind kind and number
pub field_put : (k n : ℕ) (bytes : List ℕ) → bytes ≡ over_from 2 (big_endian 2 n) (0x52 ∷ k ∷ 0 ∷ 0 ∷ [])
    → bytes ≡ 0x52 ∷ k ∷ big_endian 2 n
unfolding big_endian over_from over
field_put k n bytes e = e

-- a line of four bytes fills nine cells
pub line_composed : (k n : ℕ) (bytes out : List ℕ) (r : ℕ) → bytes ≡ 0x52 ∷ k ∷ big_endian 2 n
    → LineWritten bytes 0 (replicate 9 0) out r → out ≡ refusal_line k n
unfolding refusal_line has_room line_text pairs_of over_from over big_endian
line_composed k n bytes out r e w = (rw e at w).text

-- ---- `compose_sheet`

-- what was written over the front of the tree slice is put back
put_back : {tree treeAfter : List ℕ} (bs : List ℕ) → length bs ≤ tree_most → treeAfter ≡ over bs tree → (r : Shown) → r ≡ Line
    → restored r (take tree_most tree) treeAfter ≡ tree
put_back {tree} bs h e r q = rw (q, e) (over_back tree_most bs tree h)

-- and where nothing was written
kept_back : {tree treeAfter : List ℕ} → treeAfter ≡ tree → (r : Shown) → r ≡ Line → restored r (take tree_most tree) treeAfter ≡ tree
kept_back {tree} same r q = put_back [] (omega arith) (same ∙ sym (over_nil tree)) r q

-- the line of a refusal
refused_page : (k n : ℕ) {score line lineAfter : List ℕ} {r : Shown} → r ≡ Line → lineAfter ≡ refusal_line k n
    → Prints (refused k n) score score line lineAfter r
unfolding score_after
refused_page k n q e = prints (refused k n) tt q refl e

module _ {s : Sheet} {g : GrammarTable} {p : PlayingTable} (h : SheetHeld s g p) {tree treeAfter work workAfter : List ℕ} where
  -- a refusal of finding
  pub refusal_reported : (d : Refused) → Gives (find_sheet s (length tree) (length work)) tree treeAfter work workAfter (Err d)
      → (score line lineAfter : List ℕ) → lineAfter ≡ refusal_line (number_of d.refusal) d.line → (r : Shown)
      → r ≡ Line → Printed (find_sheet s (length tree) (length work)) tree (restored r (take tree_most tree) treeAfter) work workAfter
      score score line lineAfter r
  refusal_reported d f score line lineAfter e r q = go (find_sheet s (length tree) (length work)) f
    where
      page : (k n : ℕ) → number_of d.refusal ≡ k → d.line ≡ n → Prints (refused k n) score score line lineAfter r
      page k n a b = refused_page k n q (rw (← a, ← b) e)

      go : (o : Outcome Search) → Gives o tree treeAfter work workAfter (Err d)
          → Printed o tree (restored r (take tree_most tree) treeAfter) work workAfter score score line lineAfter r
      go (refused k n) g = (page k n g.number g.line, kept_back g.result.0.tree_kept r q, g.result.1)
      go (accepted (no_tree s)) g = (page 11 0 g.number g.line, kept_back g.result.0.tree_kept r q, g.result.1)
      go (accepted (found s)) g = absurd (number_some d.refusal g.number)

  -- a tree
  module _ (x : Priced) (f : Gives (find_sheet s (length tree) (length work)) tree treeAfter work workAfter (Ok x)) where
    abbrev back : TreeHandedBack s tree treeAfter work workAfter (Ok x)
    back = tree_handed_back s h.good f refl

    pub nodes_within : x.nodes ≤ length treeAfter
    nodes_within = back.within

    pub list_size : x.nodes ≡ length (take x.nodes treeAfter)
    list_size = sym (length-take-le x.nodes treeAfter nodes_within)

    abbrev bytes : List ℕ
    bytes = take x.nodes treeAfter

    pub priced_pre : PricedPre s g p bytes (Ok x)
    priced_pre = record { held = h; own = back.own }

    abbrev lines : List ℕ
    lines = tree_text s bytes x.weight x.distance (total_of s x.weight x.distance)

    -- no tree has more bytes than are put back
    few : length bytes ≤ tree_most
    few = nodes_most s h.good bytes back.first.tree.valid.valid

    -- writing gives its score lines, or 13
    wrote : (room : ℕ) → write_sheet s bytes room ≡ text_within room lines
    unfolding write_sheet
    wrote room = ap (write_priced s bytes room) (tree_priced s bytes _ _ back.first.tree.valid)

    module _ (score scoreOut : List ℕ) (w : Result ℕ Refused)
        (told : (outcome_of w ≡ written_of (write_sheet s bytes (length score)))
        × (scoreOut ≡ score_after (write_sheet s bytes (length score)) score)) where
      abbrev room : ℕ
      room = length score

      -- by whether the slice has room
      by_room : (P : Outcome (List ℕ) → Type 0) → (length lines ≤ room → P (accepted lines)) → P no_room → P (text_within room lines)
      by_room P has short = elim (dec_le (length lines) room) [
        | yes h ↦ rw (within_lines room lines h) (has h)
        | no h ↦ let l : room < length lines = omega arith in rw (within_short room lines l) short
      ]

      wrote_so : (outcome_of w ≡ written_of (text_within room lines)) × (scoreOut ≡ score_after (text_within room lines) score)
      wrote_so = rw (sym (wrote room)) told

      abbrev Answers : Outcome (List ℕ) → (line lineAfter : List ℕ) → Shown → Type 0
      Answers p line lineAfter r = (restored r (take tree_most tree) treeAfter ≡ tree_with p bytes tree) × Prints p score scoreOut line
          lineAfter r

      abbrev Reported : (line lineAfter : List ℕ) → Shown → Type 0
      Reported line lineAfter r =
          Printed (find_sheet s (length tree) (length work)) tree (restored r (take tree_most tree) treeAfter) work workAfter score scoreOut
          line
          lineAfter r

      whole : (line lineAfter : List ℕ) (r : Shown) → Answers (text_within room lines) line lineAfter r → Reported line lineAfter r
      whole line lineAfter r (t, p) =
          subst (λ (o : Outcome Search). Printed o tree (restored r (take tree_most tree) treeAfter) work workAfter score scoreOut line
          lineAfter r)
          (sym back.outcome) (
            record {
              bytes = bytes;
              weight = x.weight;
              distance = x.distance;
              first = back.first;
              tree_is = t;
              page = p;
            },
            back.clear,
          )

      -- the score slice is short
      pub short_reported : (d : Refused) → w ≡ Err d → (line lineAfter : List ℕ) → lineAfter ≡ refusal_line (number_of d.refusal) d.line
          → (r : Shown) → r ≡ Line → Reported line lineAfter r
      unfolding score_after
      short_reported d is line lineAfter e r q =
          whole line lineAfter r
          (by_room (λ o. refused (number_of d.refusal) d.line ≡ written_of o → scoreOut ≡ score_after o score → Answers o line lineAfter r)
          (λ h a b. absurd (accepted_not_refused (sym a)))
          (λ a b. (
            put_back bytes few back.written r q,
            prints (refused 13 0) tt q b (e ∙ ap (λ (o : Outcome ℕ). refusal_line (number_in o) (line_in o)) a),
          ))
          (sym (ap outcome_of is) ∙ wrote_so.0) wrote_so.1)

      -- the score lines
      pub score_reported : (n : ℕ) → w ≡ Ok n → (line : List ℕ) (r : Shown) → r ≡ Score n → Reported line line r
      unfolding score_after
      score_reported n is line r q =
          whole line line r
          (by_room (λ o. accepted n ≡ written_of o → scoreOut ≡ score_after o score → Answers o line line r)
          (λ h a b. (rw q back.written, prints (accepted lines) h (q ∙ ap Score (accepted_value a)) b refl))
          (λ a b. absurd (accepted_not_refused a))
          (sym (ap outcome_of is) ∙ wrote_so.0) wrote_so.1)

-- ---- `compose`

module _ (text tree work score line lineAfter : List ℕ) (r : Shown) where
  -- a text that is refused
  pub text_refused : (d : Refused) → Reads text (Err d) → r ≡ Line → lineAfter ≡ refusal_line (number_of d.refusal) d.line
      → Reports text tree (restored r (take tree_most tree) tree) work work score score line lineAfter r
  unfolding find_text
  text_refused d e q l = record {
    is = subst (λ (o : Outcome Search). Printed o tree (restored r (take tree_most tree) tree) work work score score line lineAfter r)
        (sym (on_refused text (λ s. find_sheet s (length tree) (length work)) d e))
        (refused_page (number_of d.refusal) d.line q l, kept_back refl r q, refl);
  }

  -- a text that means a sheet
  pub text_reported : (x : Reading) → Reads text (Ok x) → (treeAfter workAfter score_after : List ℕ)
      → ((s : Sheet) → SheetHeld s x.grammar x.playing
      → Printed (find_sheet s (length tree) (length work)) tree treeAfter work workAfter score score_after line lineAfter r)
      → Reports text tree treeAfter work workAfter score score_after line lineAfter r
  unfolding find_text
  text_reported x e treeAfter workAfter score_after f = record {
    is = on_held text (λ s. find_sheet s (length tree) (length work))
        (λ (o : Outcome Search). Printed o tree treeAfter work workAfter score score_after line lineAfter r) x e f;
  }

-- ---- `report`

-- as much of a slice as a tree can be written over
front_whole : (n : ℕ) (xs : List ℕ) → n ≤ tree_most → (n < tree_most → n ≡ length xs) → take n xs ≡ take tree_most xs
front_whole n xs h e = elim (dec_lt n tree_most) [
  | yes l ↦ take_all n xs (omega (arith, e l)) ∙ sym (take_all tree_most xs (omega (arith, e l, l)))
  | no l ↦ let same : n ≡ tree_most = omega arith in rw same refl
]

-- a list copied over the front of a slice of at least its length
pub copied_over : (n : ℕ) (bs xs : List ℕ) → length bs ≡ n → n ≤ length xs → bs ++ drop n xs ≡ over bs xs
copied_over n bs xs e h =
    ap (λ (k : ℕ). bs ++ drop k xs) (sym e) ∙ sym (over-drop bs xs (omega arith))

-- what was copied aside of a slice is its front
copied_aside : (n : ℕ) (tree part zeros : List ℕ) → n ≤ length tree → n ≤ tree_most → (n < tree_most → n ≡ length tree)
    → part ≡ take n tree → take n (part ++ drop n zeros) ≡ take tree_most tree
copied_aside n tree part zeros fits h e k =
    take_at part (drop n zeros) n (ap length k ∙ length-take-le n tree fits) ∙ k ∙ front_whole n tree h e

-- the answer of `compose`, with the tree slice restored
pub reported : (between zeros : List ℕ) {text tree treeAfter work workAfter score score_after line lineAfter part : List ℕ} {n : ℕ}
    {r : Shown} → n ≤ length tree → n ≤ tree_most → (n < tree_most → n ≡ length tree) → part ≡ take n tree
    → Reports text tree (restored r (take tree_most tree) between) work workAfter score score_after line lineAfter r
    → treeAfter ≡ restored r (take n (part ++ drop n zeros)) between
    → Reports text tree treeAfter work workAfter score score_after line lineAfter r
reported between zeros {text} {tree} {treeAfter} {work} {workAfter} {score} {score_after} {line} {lineAfter} {part} {n} {r}
    fits h e k given a =
    subst (λ (t : List ℕ). Reports text tree t work workAfter score score_after line lineAfter r)
    (sym (a ∙ ap (λ (front : List ℕ). restored r front between) (copied_aside n tree part zeros fits h e k))) given

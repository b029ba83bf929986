-- What requests (xiv), (ix), (iv), (v) and (vi) of document 02 add to the demands, in the requests' own words: theorems about `find`, about
-- what the search is prepared with, and about `read`. A reader needs the page of the demands, and of the names below their definitions.
--   with_multiplier a s, slid a text   the sheet, the text, with the multiplier a in the place of its own (sheet/specs/Multiplier)
--   AlikeTexts t u                     the same lines but for a's field (sheet/specs/Multiplier)
--   Call                               a call of `find` by whatever meets `Finds` (finding/specs/Calls), x.answer what it gives
--   TreeOf s x, RoomFor s x            its text means s, and a tree is handed back; its slices have the lengths that s requires
--   found_bytes x                      the tree found
--   Prepared s plan                    what `prepare` gives of the grammar of s (plan/specs/Plan)
--   rule_in plan i, first_cell plan q  the rule at place i, and the first place of the rules with head q (plan/specs/Plan)
--   HeadGroup s q number a b           the places from a up to, but not, b hold every rule with head q, once each and no other: number i is
--                                      the rule at place i (plan/specs/Heads)
--   bad_line text                      the first bad line of a text, 0 for none (hextext/specs/Text)
--   line_read text at, line_bytes      the line that starts at a place as one loop reads it (hextext/specs/Packed); the bytes of a text's
--                                      first line (hextext/specs/Text)
--   LineHeld l b                       l holds the line b: its kind, its count, its first eight bytes where it has more, and its last
--                                      eight (sheet/specs/Held)
--   NearestUnit d t u                  no unit is nearer than u to the moment t of bars that last d, and none that is as near is later
--                                      (sheet/specs/Nearest)
--   onset_lines, playing_line          the `4E` lines of some lines, in order; the `45` line
--   taps_of, timing_by l taps          the moments of the `42` lines, and the bar lines that these tell (sheet/specs/OnsetLines)
--   is_tapped l                        the duration of the `45` line l is 0 (sheet/specs/Reading)
--   time_at text i, unit_at r i        the time of `4E` line i, from 0, and the unit that a reading has of onset i
--   bar_line_at r i                    bar line i of a reading
--   NearestInBar r t u                 t is in a bar of the reading, and u the nearest to its share of that bar's duration
--                                      (sheet/specs/UnitsRead)
--   unit_of d t, unit_in timing t      the unit of a moment, by one duration and by bar lines; line_at timing i, end_of B timing,
--                                      bar line i and the last; even_lines B d; bar_of u, the bar of a unit, from 0 (sheet/specs/Sheet)
--   refusal, in_taps, in_onsets        the refusal of the next line, 0 for none, where g, B and some taps have been read, or g, whether the
--                                      bars are tapped, the timing and the playing p, the last onset at `last` (sheet/specs/Reading)
--   Twins t u                          the lines of u are those of t with the duration 0 and a tap on each bar line (sheet/specs/Twin)
use Rattle.std.specs.Prelude.{ℕ, ◌+◌, ◌-◌, ◌*◌, ◌/◌, ◌≤◌, ◌<◌, ◌≡◌, refl, Bool, true, false, List, [], ◌⊎◌, ◌↔◌, length, get_or, drop}
use Rattle.std.specs.Prelude.{Result, Ok}
use Rattle.std.proofs.Common.{sym, ap, ◌∙◌}
use Rattle.hextext.specs.declared.line.Line.{Line}
use Rattle.hextext.specs.Text.{bad_line, line_bytes, lines}
use Rattle.hextext.specs.Packed.{line_read}
use Rattle.sheet.specs.declared.table.Reading.{Reading}
use Rattle.slices.specs.Every.{Every}
use Rattle.sheet.specs.Sheet.{Onset, Grammar, Playing, Sheet, Timing, TimedSheet, bar_units, unit_of, line_at, end_of, unit_in, even_lines}
use Rattle.sheet.specs.Sheet.{bar_of}
use Rattle.sheet.specs.declared.refusal.Refused.{Refused}
use Rattle.sheet.specs.Outcome.{refused, accepted, number_in, line_in}
use Rattle.sheet.specs.Refusal.{answer_number, answer_line, same_answer}
use Rattle.pricing.specs.Pricing.{figures_in}
use Rattle.sheet.specs.Reading.{byte, four, is_tapped, onset_form, in_taps, in_onsets, refusal, read_lines, read_sheet}
use Rattle.sheet.proofs.EvenLines.{even_unit}
use Rattle.sheet.specs.TapRefusals as taps
use Rattle.sheet.proofs.TwinLaws as twin
use Rattle.sheet.specs.Twin.{Twins}
use Rattle.sheet.specs.Nearest as nearest
use Rattle.sheet.specs.Nearest.{NearestUnit}
use Rattle.sheet.specs.OnsetLines.{onset_lines, playing_line, taps_of, timing_by, late_refused}
use Rattle.sheet.specs.UnitsRead.{time_at, unit_at, bar_line_at, NearestInBar}
use Rattle.sheet.proofs.UnitsReadLaws.{units_read, plain_units_read, bar_lines_read}
use Rattle.sheet.specs.Accepted.{Accepts}
use Rattle.sheet.proofs.AcceptedLaws.{accepted_good}
use Rattle.sheet.specs.Held.{LineHeld, reading_of, Reads}
use Rattle.sheet.specs.Laws.{ill_formed}
use Rattle.sheet.specs.Rest.{rest_held}
use Rattle.sheet.specs.Multiplier.{with_multiplier, AlikeTexts, slid}
use Rattle.sheet.proofs.MultiplierLaws.{texts_alike, slid_accepted}
use Rattle.plan.specs.Plan.{Prepared, rule_in, first_cell}
use Rattle.plan.specs.Heads.{HeadGroup}
use Rattle.plan.specs.HeadLaws.{head_group}
use Rattle.trees.specs.ValidTrees.{ValidTree, Priced}
use Rattle.trees.proofs.Sliding.{valid_slid}
use Rattle.finding.specs.Calls.{Call, found_bytes, TreeOf, RoomFor}
use Rattle.finding.specs.SlidingLaws as sliding

-- ==== Document 02, (xiv), sliding between plain and close. "They rely on two facts for every accepted sheet"

-- "With a of 1 or more, no valid tree has R and D both as small as the tree found and one of them smaller": where both are as small, both
-- are the same. With a = 0 one may be smaller (finding/specs/SlidingCases, `dominated_at_zero`).
pub find_undominated : (s : Sheet) (x : Call) → TreeOf s x → 1 ≤ s.grammar.multiplier
    → (bs : List ℕ) (R D : ℕ) → Priced s bs R D
    → R ≤ (figures_in x.answer).weight → D ≤ (figures_in x.answer).distance
    → (R ≡ (figures_in x.answer).weight) × (D ≡ (figures_in x.answer).distance)
find_undominated = sliding.undominated

-- "For two sheets alike except that a grows, when both have a tree, R doesn't rise and D doesn't fall": of sheets
pub find_slides : (s : Sheet) (a b : ℕ) (x y : Call) → a ≤ b → TreeOf (with_multiplier a s) x → TreeOf (with_multiplier b s) y
    → ((figures_in y.answer).weight ≤ (figures_in x.answer).weight) × ((figures_in x.answer).distance ≤ (figures_in y.answer).distance)
find_slides = sliding.slides

-- and of texts that are the same but for a's field, which mean sheets that are the same but for a; every accepted text has one for each a
pub find_slides_by_text : (s s' : Sheet) (x y : Call) → AlikeTexts x.text y.text
    → s.grammar.multiplier ≤ s'.grammar.multiplier → TreeOf s x → TreeOf s' y
    → ((figures_in y.answer).weight ≤ (figures_in x.answer).weight) × ((figures_in x.answer).distance ≤ (figures_in y.answer).distance)
find_slides_by_text = sliding.slides_by_text

pub read_alike : (t u : List ℕ) (s s' : Sheet) → Accepts t s → Accepts u s' → AlikeTexts t u
    → s' ≡ with_multiplier s'.grammar.multiplier s
read_alike = texts_alike

pub read_slid : (text : List ℕ) (s : Sheet) (a : ℕ) → Accepts text s → a ≤ 65535 → Accepts (slid a text) (with_multiplier a s)
read_slid = slid_accepted

-- They have a tree both or neither: the same lists are valid, and with slices of the required lengths a tree is handed back of both or of
-- neither.
pub trees_alike : (s : Sheet) (a b : ℕ) (bs : List ℕ) → ValidTree (with_multiplier a s) bs → ValidTree (with_multiplier b s) bs
trees_alike = valid_slid

pub find_both_or_neither : (s : Sheet) (a b : ℕ) (x y : Call) → Accepts x.text (with_multiplier a s)
    → Accepts y.text (with_multiplier b s) → RoomFor s x → RoomFor s y → (answer_number x.answer ≡ 0) ↔ (answer_number y.answer ≡ 0)
find_both_or_neither = sliding.both_or_neither

pub find_both_or_neither_by_text : (s s' : Sheet) (x y : Call) → AlikeTexts x.text y.text → Accepts x.text s
    → Accepts y.text s' → RoomFor s x → RoomFor s y → (answer_number x.answer ≡ 0) ↔ (answer_number y.answer ≡ 0)
find_both_or_neither_by_text = sliding.both_or_neither_by_text

-- Beyond the request: where two multipliers give the same R and D, each between them gives these too, and the same tree.
pub find_skipped : (s : Sheet) (a b c : ℕ) (x y z : Call) → a ≤ b → b ≤ c
    → TreeOf (with_multiplier a s) x → TreeOf (with_multiplier b s) y → TreeOf (with_multiplier c s) z
    → (figures_in x.answer).weight ≡ (figures_in z.answer).weight → (figures_in x.answer).distance ≡ (figures_in z.answer).distance
    → ((figures_in y.answer).weight ≡ (figures_in x.answer).weight) × ((figures_in y.answer).distance ≡ (figures_in x.answer).distance)
    × ((figures_in y.answer).nodes ≡ (figures_in x.answer).nodes) × (found_bytes y ≡ found_bytes x)
find_skipped = sliding.skipped

-- ==== Document 02, (ix), rules kept by their head. "Each group is shown to hold every rule of its head, once each and no other, and the
-- first least tree is the same list": the second half is `find_one_answer` of the demands, since the builds before and after meet one
-- contract.
pub rules_grouped : (s : Sheet) (plan : List ℕ) → Prepared s plan → (q : ℕ) → q < 16
    → HeadGroup s q (rule_in plan) (first_cell plan q) (first_cell plan (q + 1))
rules_grouped s plan p q h = head_group p h

-- ==== Document 02, (iv), one pass over a line. "Every result is the one it was": what meets `read`'s contract, which has not changed,
-- gives one answer; so the build before and the build after give the same.
pub read_one_answer : (text : List ℕ) (r q : Result Reading Refused) → Reads text r → Reads text q → r ≡ q
read_one_answer text r q e f = same_answer r q (e ∙ sym f)

-- The first bad line of a text goes before every refusal but 1, also where it stands behind a line that is refused.
pub read_bad_first : (text : List ℕ) (r : Result Reading Refused) → Reads text r → length text ≤ 16384 → (bad_line text ≡ 0 → ⊥)
    → (answer_number r ≡ 2) × (answer_line r ≡ bad_line text)
read_bad_first text r e fits bad =
    let is = e ∙ ap reading_of (ill_formed text fits (bad_line text) refl bad) in
    (ap number_in is, ap line_in is)

-- "Let its count and its fields come out of one loop": what the loop gives of a line that is well formed, of any length.
pub line_fields : (text : List ℕ) (at : ℕ) → at < length text → (l : Line) → l ≡ line_read text at → (l.count ≡ 0 → ⊥)
    → LineHeld l (line_bytes (drop at text))
line_fields text at inside l is filled = rest_held text at inside l is filled

-- ==== Document 02, (v), thirds that land. "An onset now goes to the nearest unit, an exact half upwards": an accepted text has an onset
-- for each of its `4E` lines, in order, and where its `45` line has a duration each is at the unit nearest to its line's time. There is one
-- such unit.
pub read_nearest : (text : List ℕ) (r : Reading) → Reads text (Ok r) → is_tapped (playing_line (lines text)) ≡ false
    → (r.playing.count ≡ length (onset_lines (lines text)))
    × ((i : ℕ) → i < r.playing.count → NearestUnit (four (playing_line (lines text)) 2) (time_at text i) (unit_at r i))
read_nearest text r e plain = ((units_read text r e).count, plain_units_read text r e plain)

pub nearest_only : (d t u v : ℕ) → NearestUnit d t u → NearestUnit d t v → u ≡ v
nearest_only = nearest.nearest_only

-- "So perfect playing costs one unit" no more: the moment of a unit, rounded down to a microsecond as a machine does, is at that unit, in
-- bars of 40,320 microseconds or more.
pub perfect_lands : (d u : ℕ) → 2 * bar_units ≤ d → NearestUnit d (u * d / bar_units) u
perfect_lands = nearest.perfect_lands

-- "An onset rounded up to a bar line belongs to the next bar": the moment is in bar b, from 0, and its unit is not. A bar's onsets are
-- counted from units (`in_bar`, sheet/specs/Sheet), and so are the required lengths and every distance.
pub rounded_to_next_bar : (d b t : ℕ) → 0 < d → t < (b + 1) * d → (b + 1) * bar_units ≤ unit_of d t → bar_of (unit_of d t) ≡ b + 1
rounded_to_next_bar = nearest.next_bar

-- "Refusal 7 also comes when the unit reaches B × 20,160": of a `4E` line of the right form whose time does not fall, whatever room there
-- is; so every onset of an accepted text is before the end.
pub read_late_unit : (g : Grammar) (tapped : Bool) (timing : Timing) (p : Playing) (last : ℕ) (l : List ℕ) → byte l 0 ≡ 0x4E
    → onset_form l ≡ 0 → last ≤ four l 1 → line_at timing 0 ≤ four l 1 → p.bars * bar_units ≤ unit_in timing (four l 1)
    → refusal (in_onsets g tapped timing p last) l ≡ 7
read_late_unit = late_refused

pub read_before_end : (text : List ℕ) (s : Sheet) → Accepts text s
    → Every (λ (o : Onset). o.unit < s.playing.bars * bar_units) s.playing.onsets
read_before_end text s a = (accepted_good text s a).onsets.below

-- ==== Document 02, (vi), bar lines from a foot pedal. "The record of a sheet now holds all bar lines, and a sheet with a plain
-- duration is read as evenly spaced ones": a reading has as many as there are bars and one more, those that the `45` line and the `42`
-- lines tell, and no other behind them.
pub read_bar_lines : (text : List ℕ) (r : Reading) → Reads text (Ok r)
    → (length (timing_by (playing_line (lines text)) (taps_of (lines text))).bar_lines ≡ r.playing.bars + 1)
    × ((i : ℕ) → bar_line_at r i ≡ line_at (timing_by (playing_line (lines text)) (taps_of (lines text))) i)
read_bar_lines text r e = let b = bar_lines_read text r e in (b.count, b.each)

-- "Within a bar an onset's unit is the nearest to its share of that bar's duration"
pub read_share : (text : List ℕ) (r : Reading) → Reads text (Ok r)
    → (r.playing.count ≡ length (onset_lines (lines text)))
    × ((i : ℕ) → i < r.playing.count → NearestInBar r (time_at text i) (unit_at r i))
read_share text r e = let u = units_read text r e in (u.count, u.nearest)

-- One definition serves both sorts of sheet: of evenly spaced lines it is (v)'s.
pub even_as_before : (B d : ℕ) → 0 < d → (t : ℕ) → t < B * d → unit_in (even_lines B d) t ≡ unit_of d t
even_as_before = even_unit

-- A plain text and its tapped twin mean the same sheet, so all that is said of an accepted sheet is said of either sort.
pub read_twins : (t u : List ℕ) (x : TimedSheet) → read_sheet t ≡ accepted x → is_tapped (playing_line (lines t)) ≡ false
    → Twins t u → bad_line u ≡ 0 → length u ≤ 16384 → read_sheet u ≡ accepted x
read_twins = twin.twins_mean

-- "17 in a tapped one for a `42` line past B + 1 of them, or any other line or the text's end (last line + 1) before, in place of 3"; "A
-- `42` line in a plain sheet is refusal 3"
pub read_tap_missing : (g : Grammar) (B : ℕ) (before l : List ℕ) → (byte l 0 ≡ 0x42 → ⊥) → refusal (in_taps g B before) l ≡ 17
read_tap_missing = taps.tap_missing

pub read_end_among_taps : (g : Grammar) (B : ℕ) (before : List ℕ) (n : ℕ) → read_lines (in_taps g B before) n [] ≡ refused 17 n
read_end_among_taps = taps.end_among_taps

pub read_tap_too_many : (g : Grammar) (timing : Timing) (p : Playing) (last : ℕ) (l : List ℕ) → byte l 0 ≡ 0x42
    → (refusal (in_onsets g true timing p last) l ≡ 17) × (refusal (in_onsets g false timing p last) l ≡ 3)
read_tap_too_many = taps.tap_behind

-- "18 for a step between taps outside 1,000 to 60,000,000, after 5"; also where the second falls
pub read_step : (g : Grammar) (B : ℕ) (before l : List ℕ) → byte l 0 ≡ 0x42 → length l ≡ 5 → (length before ≡ 0 → ⊥)
    → (four l 1 < get_or before (length before - 1) 0 + 1000) ⊎ (get_or before (length before - 1) 0 + 60_000_000 < four l 1)
    → refusal (in_taps g B before) l ≡ 18
read_step = taps.step_refused

-- "19 for an onset before the first tap, just before 7"; "In a tapped sheet, an onset at or after the last tap meets refusal 7"
pub read_before_first_tap : (g : Grammar) (tapped : Bool) (timing : Timing) (p : Playing) (last : ℕ) (l : List ℕ) → byte l 0 ≡ 0x4E
    → onset_form l ≡ 0 → last ≤ four l 1 → four l 1 < line_at timing 0 → refusal (in_onsets g tapped timing p last) l ≡ 19
read_before_first_tap = taps.before_first

pub read_past_last_tap : (g : Grammar) (tapped : Bool) (timing : Timing) (p : Playing) (last : ℕ) (l : List ℕ) → byte l 0 ≡ 0x4E
    → onset_form l ≡ 0 → last ≤ four l 1 → line_at timing 0 ≤ four l 1 → end_of p.bars timing ≤ four l 1
    → refusal (in_onsets g tapped timing p last) l ≡ 7
read_past_last_tap = taps.past_last

-- Reading a sheet: refusals 1 to 8 of document 01 ("When it says no") and 17 to 19 of document 02, or the sheet's meaning. For each kind of
-- line there is the number of its refusal, its demands in the document's order, and what the line adds.
use Rattle.std.specs.Prelude.{ℕ, zero, suc, ◌+◌, ◌-◌, ◌*◌, Bool, true, false, cond, ◌&&◌, List, [], ◌∷◌, ◌++◌, length, get_or, ltb, leb, eqb}
use Rattle.hextext.specs.Text.{bad_line, lines}
use Rattle.sheet.specs.Sheet.{Rule, division, leaf, Onset, Grammar, Playing, Sheet, Timing, TimedSheet, bar_units, unit_of}
use Rattle.sheet.specs.Sheet.{no_playing, line_at, end_of, begun, unit_in, even_from, even_lines, bar_of, in_bar}
use Rattle.sheet.specs.Outcome.{Outcome, refused, accepted, and_then}

-- a demand: the number of the refusal where the test fails, and what comes after it where it holds; 0 is no refusal
abbrev pub demand : Bool → (number after : ℕ) → ℕ
demand true number after = after
demand false number after = number

-- the first of two refusals that is not 0: demands in two definitions, the second held to where the first is met
abbrev pub first : (refusal after : ℕ) → ℕ
first zero after = after
first (suc k) after = suc k

-- a line is the list of its bytes. "Fields are big-endian": byte i of a line, and the numbers of 2 and 4 bytes that start there
abbrev pub byte : List ℕ → ℕ → ℕ
byte l i = get_or l i 0

unfoldable pub two : List ℕ → ℕ → ℕ
two l i = byte l i * 256 + byte l (i + 1)

unfoldable pub four : List ℕ → ℕ → ℕ
four l i = two l i * 65536 + two l (i + 2)

-- k bytes of a line, from byte i on
unfoldable pub bytes_from : (k i : ℕ) → List ℕ → List ℕ
bytes_from zero i l = []
bytes_from (suc k) i l = byte l i ∷ bytes_from k (i + 1) l

-- every nonterminal of a list is below q
unfoldable pub all_below : ℕ → List ℕ → Bool
all_below q [] = true
all_below q (x ∷ xs) = ltb x q && all_below q xs

-- `47` grammar head, 5 bytes: kind, Q (1 to 16), start nonterminal, multiplier a (2 bytes, any)
unfoldable pub head_refusal : List ℕ → ℕ
head_refusal l =
    demand (eqb (length l) 5) 4
    (demand (leb 1 (byte l 1)) 5
    (demand (leb (byte l 1) 16) 5
    (demand (ltb (byte l 2) (byte l 1)) 5
    0)))

unfoldable pub head_of : List ℕ → Grammar
head_of l = record { nonterminals = byte l 1; start = byte l 2; multiplier = two l 3; rules = [] }

-- `44` division, 5 + k bytes: kind, head, weight (2 bytes, any), k (2 to 8), k nonterminals; q is Q, `before` the number of rules before
-- it.
-- "Fewer than 5 bytes (4), then k (5), then the exact count (4), then other fields (5)"; rule 65 (8)
unfoldable pub division_refusal : (q before : ℕ) → List ℕ → ℕ
division_refusal q before l =
    demand (leb 5 (length l)) 4
    (demand (leb 2 (byte l 4)) 5
    (demand (leb (byte l 4) 8) 5
    (demand (eqb (length l) (5 + byte l 4)) 4
    (demand (ltb (byte l 1) q) 5
    (demand (all_below q (bytes_from (byte l 4) 5 l)) 5
    (demand (ltb before 64) 8
    0))))))

unfoldable pub division_of : List ℕ → Rule
division_of l = division (byte l 1) (two l 2) (bytes_from (byte l 4) 5 l)

-- `4C` leaf, 5 bytes: kind, head, weight (2 bytes, any), n (document 02, (i): "from 0 to 4"); rule 65 (8)
unfoldable pub leaf_refusal : (q before : ℕ) → List ℕ → ℕ
leaf_refusal q before l =
    demand (eqb (length l) 5) 4
    (demand (ltb (byte l 1) q) 5
    (demand (leb (byte l 4) 4) 5
    (demand (ltb before 64) 8
    0)))

unfoldable pub leaf_of : List ℕ → Rule
leaf_of l = leaf (byte l 1) (two l 2) (byte l 4)

unfoldable pub with_rule : Grammar → Rule → Grammar
with_rule g r = record { nonterminals = g.nonterminals; start = g.start; multiplier = g.multiplier; rules = g.rules ++ (r ∷ []) }

-- a line that adds a rule, by its kind; any other kind is out of order
unfoldable pub rule_refusal : (q before : ℕ) → List ℕ → ℕ
rule_refusal q before l =
    cond (eqb (byte l 0) 0x44) (division_refusal q before l)
    (cond (eqb (byte l 0) 0x4C) (leaf_refusal q before l)
    3)

unfoldable pub rule_of : List ℕ → Rule
rule_of l = cond (eqb (byte l 0) 0x44) (division_of l) (leaf_of l)

-- "1,000 to 60,000,000": how long a bar lasts, in microseconds, in the `45` line and between taps
abbrev pub shortest_bar : ℕ
shortest_bar = 1000

abbrev pub longest_bar : ℕ
longest_bar = 60_000_000

-- `45` playing head, 6 bytes: kind, bars B (1 to 64), one bar's duration in microseconds (4 bytes, 1,000 to 60,000,000, or 0: the bars are
-- tapped)
unfoldable pub playing_refusal : List ℕ → ℕ
playing_refusal l =
    demand (eqb (length l) 6) 4
    (demand (leb 1 (byte l 1)) 5
    (demand (leb (byte l 1) 64) 5
    (cond (eqb (four l 2) 0) 0
    (demand (leb shortest_bar (four l 2)) 5
    (demand (leb (four l 2) longest_bar) 5
    0)))))

unfoldable pub playing_of : List ℕ → Playing
playing_of l = no_playing (byte l 1)

-- a `45` line with a duration of 0: "B + 1 lines of kind `42` follow it"
abbrev pub is_tapped : List ℕ → Bool
is_tapped l = eqb (four l 2) 0

unfoldable pub even_of : List ℕ → Timing
even_of l = even_lines (byte l 1) (four l 2)

-- "18 for a step between taps outside 1,000 to 60,000,000": from the tap before to the moment t
unfoldable pub step_refusal : (before t : ℕ) → ℕ
step_refusal before t =
    demand (leb (before + shortest_bar) t) 18
    (demand (leb t (before + longest_bar)) 18
    0)

-- `42` tap, 5 bytes: kind, "a moment in microseconds (4 bytes)", any. `taps` are the moments of those before it; the first has no step
unfoldable pub tap_refusal : (taps : List ℕ) → List ℕ → ℕ
tap_refusal taps l =
    demand (eqb (length l) 5) 4
    (cond (eqb (length taps) 0) 0
    (step_refusal (get_or taps (length taps - 1) 0) (four l 1)))

-- `4E` onset, 7 bytes: kind, time in microseconds (4), pitch (0 to 127), velocity (1 to 127)
unfoldable pub onset_form : List ℕ → ℕ
onset_form l =
    demand (eqb (length l) 7) 4
    (demand (leb (byte l 5) 127) 5
    (demand (leb 1 (byte l 6)) 5
    (demand (leb (byte l 6) 127) 5
    0)))

-- a moment t: time below the one before, `last` (6); "19 for an onset before the first tap, just before 7", which no time of a plain sheet
-- is; time at or past the last bar line (7); "refusal 7 also comes when the unit reaches B × 20,160" (document 02, (v))
unfoldable pub moment_refusal : (bars : ℕ) → Timing → (last t : ℕ) → ℕ
moment_refusal bars timing last t =
    demand (leb last t) 6
    (demand (leb (line_at timing 0) t) 19
    (demand (ltb t (end_of bars timing)) 7
    (demand (ltb (unit_in timing t) (bars * bar_units)) 7
    0)))

-- room for an onset: onset 513, onset 33 of a bar (8). `before` is the number of onsets before it, `here` of those in its bar
unfoldable pub room_refusal : (before here : ℕ) → ℕ
room_refusal before here =
    demand (ltb before 512) 8
    (demand (ltb here 32) 8
    0)

-- an onset after the playing p, whose last onset is at the time `last`
unfoldable pub onset_refusal : Timing → Playing → (last : ℕ) → List ℕ → ℕ
onset_refusal timing p last l =
    first (onset_form l)
    (first (moment_refusal p.bars timing last (four l 1))
    (room_refusal (length p.onsets) (in_bar (bar_of (unit_in timing (four l 1))) p.onsets)))

unfoldable pub onset_of : Timing → List ℕ → Onset
onset_of timing l = record { unit = unit_in timing (four l 1); pitch = byte l 5 }

unfoldable pub with_onset : Playing → Onset → Playing
with_onset p o = record { bars = p.bars; onsets = p.onsets ++ (o ∷ []) }

-- what has been read so far: nothing; from the `47` line on the grammar; from a `45` line with a duration of 0 on also B and the taps;
-- behind them, or behind another `45` line, whether the bars are tapped, the timing, the playing and the time of the last onset, 0 before
-- the first
pub data Progress : Type 0 where
  nothing : Progress
  in_rules : Grammar → Progress
  in_taps : Grammar → (bars : ℕ) → (taps : List ℕ) → Progress
  in_onsets : Grammar → (tapped : Bool) → Timing → Playing → (last : ℕ) → Progress

-- after the `47` line, with q nonterminals and `before` rules: the `45` line after one rule or more, or a rule
unfoldable pub rules_refusal : (q before : ℕ) → List ℕ → ℕ
rules_refusal q before l =
    cond (eqb (byte l 0) 0x45) (demand (ltb 0 before) 3 (playing_refusal l))
    (rule_refusal q before l)

-- a line behind the bar lines that is no onset: "a `42` line in a plain sheet is refusal 3"; "17 in a tapped one for a `42` line past B + 1
-- of them"
unfoldable pub other_refusal : (tapped : Bool) → List ℕ → ℕ
other_refusal tapped l = cond (tapped && eqb (byte l 0) 0x42) 17 3

-- "Order: one 47; 1 to 64 lines of 44 or 4C; one 45; 1 to 512 of 4E", and the taps of a tapped sheet behind its 45: the refusal of the next
-- line; 0: none. Before the last tap, 17 for "any other line"
unfoldable pub refusal : Progress → List ℕ → ℕ
refusal nothing l = cond (eqb (byte l 0) 0x47) (head_refusal l) 3
refusal (in_rules g) l = rules_refusal g.nonterminals (length g.rules) l
refusal (in_taps g bars taps) l = cond (eqb (byte l 0) 0x42) (tap_refusal taps l) 17
refusal (in_onsets g tapped timing p last) l = cond (eqb (byte l 0) 0x4E) (onset_refusal timing p last l) (other_refusal tapped l)

-- what has been read after a line that is not refused: behind a `45` line, and behind a tap, which is the last where there are B before it
unfoldable pub after_head : Grammar → List ℕ → Progress
after_head g l = cond (is_tapped l) (in_taps g (byte l 1) []) (in_onsets g false (even_of l) (playing_of l) 0)

unfoldable pub after_tap : Grammar → (bars : ℕ) → (taps : List ℕ) → Progress
after_tap g bars taps =
    cond (ltb bars (length taps)) (in_onsets g true (record { bar_lines = taps }) (no_playing bars) 0) (in_taps g bars taps)

unfoldable pub after : Progress → List ℕ → Progress
after nothing l = in_rules (head_of l)
after (in_rules g) l = cond (eqb (byte l 0) 0x45) (after_head g l) (in_rules (with_rule g (rule_of l)))
after (in_taps g bars taps) l = after_tap g bars (taps ++ (four l 1 ∷ []))
after (in_onsets g tapped timing p last) l = in_onsets g tapped timing (with_onset p (onset_of timing l)) (four l 1)

-- the text ends where line n would be next: 17 before the last tap, 3 before a `4E`
unfoldable pub at_end : Progress → ℕ → Outcome TimedSheet
at_end nothing n = refused 3 n
at_end (in_rules g) n = refused 3 n
at_end (in_taps g bars taps) n = refused 17 n
at_end (in_onsets g tapped timing p last) n =
    cond (ltb 0 (length p.onsets)) (accepted (record { sheet = record { grammar = g; playing = p }; timing = timing })) (refused 3 n)

-- the lines from line n on: the first that is refused, or what they mean
unfoldable pub read_lines : Progress → ℕ → List (List ℕ) → Outcome TimedSheet
read_lines r n [] = at_end r n
read_lines r n (l ∷ ls) =
    elim (refusal r l) [ zero ↦ read_lines (after r l) (n + 1) ls | suc k ↦ refused (suc k) n ]

-- refusal 2 over the whole text, given its first bad line, 0 for none; then line by line
unfoldable pub read_formed : ℕ → List ℕ → Outcome TimedSheet
read_formed zero t = read_lines nothing 1 (lines t)
read_formed (suc n) t = refused 2 (suc n)

-- refusal 1, text over 16,384 bytes; then 2; then line by line 3 or 17, 4, 5, 18, 6, 19, 7, 8
unfoldable pub read_sheet : List ℕ → Outcome TimedSheet
unfolding read_formed bad_line read_lines lines at_end refusal rules_refusal rule_refusal rule_of after after_head after_tap other_refusal head_refusal
    head_of division_refusal division_of all_below bytes_from leaf_refusal leaf_of with_rule playing_refusal playing_of even_of even_from step_refusal
    tap_refusal onset_form moment_refusal room_refusal onset_refusal onset_of with_onset in_bar unit_of unit_in begun two four
read_sheet t = elim (leb (length t) 16384) [ true ↦ read_formed (bad_line t) t | false ↦ refused 1 0 ]

-- "Each operation takes the sheet as its text and checks it itself": the refusal of a text that is no sheet comes first
unfoldable pub on_sheet : {A : Type 0} → (text : List ℕ) → (Sheet → Outcome A) → Outcome A
on_sheet text operation = and_then (read_sheet text) (λ x. operation x.sheet)

-- `read_lines` meets its contract: the first line, the rules and the playing, each from where the one before ended. Assumes nothing.
use native.Mathlib.Omega.{arith}
use mathlib.Core.List.{List}
use Prim.Native.Nat.{ℕ}
use mathlib.Core.Path.{◌≡◌, refl, sym, ap, subst, ◌∙◌}
use native.Mathlib.Nat.{le_trans, le_of_eq}
use lib.ListN.{drop}
use Rattle.std.proofs.Common.{Result, Ok, Err}
use Rattle.hextext.specs.Text.{line_bytes}
use Rattle.hextext.specs.Laws.{line_within, line_size_pos}
use Rattle.hextext.specs.PackedLaws.{line_next, line_if_some, line_if_none}
use Rattle.hextext.specs.declared.line.Line.{Line}
use Rattle.sheet.specs.declared.refusal.Refused.{Refused}
use Rattle.sheet.specs.declared.refusal.Refusal.{Refusal}
use Rattle.sheet.specs.declared.refusal.Refusal.TheVariants.{BadLine}
use Rattle.sheet.specs.declared.refusal.Stop.{Stop}
use Rattle.sheet.specs.Outcome.{refused, accepted}
use Rattle.sheet.specs.Reading.{head_of, nothing}
use Rattle.sheet.specs.Refusal.{number_of, number_some}
use Rattle.sheet.specs.Rest.{read_rest, stopped, Stopped}
use Rattle.sheet.specs.Held.{tables, reading_of}
use Rattle.grammar.specs.declared.Rules.{Rules}
use Rattle.grammar.specs.Clauses.{RulesDone}
use Rattle.playing.specs.declared.Take.{Take}
use Rattle.playing.specs.Clauses.{PlayingRead, TakeRead}
use Rattle.reading.specs.Clauses.{LinesRead}
use Rattle.reading.proofs.FirstLine.{Taken, first_bad, first_refused, first_taken}
use Rattle.reading.proofs.read_lines.Goals.{In_default-check_first, In-Err-read_rules, In-Err-read_playing, In-Ok}
use Rattle.reading.proofs.read_lines.Goals as goal

-- where the first line is not refused
first : (c : In_default-check_first) → Taken c.args.text.now c.in-Some.head
first c =
    let (is, filled) = line_if_some c.in-Some.ensures in
    first_taken c.args.text.now c.requires _ is filled _ c.in_default-check_first.ensures refl

-- where the rules have been read behind it
rules_read : (c : In-Ok)
    → RulesDone c.args.text.now c.in-Some.head.next 2 (head_of (line_bytes (drop 0 c.args.text.now))) c.in-Ok.rules
rules_read c =
    let (is, filled) = line_if_some c.in-Some.ensures in
    let one = first_taken c.args.text.now c.requires _ is filled _ c.in_default-check_first.ensures refl in
    c.in-Ok.ensures _ one.good (c.head_of.ensures _ one.held)

-- of a text t whose first line l is not refused, and whose rules are read behind it
module _ {t : List ℕ} {l : Line} {r : Rules} (one : Taken t l) (d : RulesDone t l.next 2 (head_of (line_bytes (drop 0 t))) r) where
  -- a playing that is read behind them is what the text comes to
  take_read : (p : Result Take Stop) → PlayingRead t r.at r.line r.end d.grammar p → TakeRead t (read_rest nothing 1 t) d.grammar p
  take_read p h = rw (one.on ∙ d.rest) (h d.good d.some_rule d.kind)

  -- the reading of a playing that is not refused
  reading_is : (p : Take) → PlayingRead t r.at r.line r.end d.grammar (Ok p)
      → accepted (record { timing = p.timing; grammar = r.grammar; playing = p.playing }) ≡ reading_of (read_rest nothing 1 t)
  unfolding tables
  reading_is p h =
      let done = take_read (Ok p) h in
      (λ j. accepted (record { timing = done.timing_table_lem j; grammar = d.table j; playing = done.table j }))
      ∙ ap reading_of (sym done.sheet)

-- a refusal that goes before where reading stops is what the text comes to
told : {t : List ℕ} {stop : Stop} (x : Refused) → Stopped t (read_rest nothing 1 t) stop
    → refused (number_of x.refusal) x.line ≡ stopped (number_of stop.refusal) stop.line (drop stop.at t) → LinesRead t (Err x)
told x h goes = sym (ap reading_of (h.is ∙ sym goes))

-- reading stops at the first line
at_first : {t : List ℕ} (x : Refusal) → read_rest nothing 1 t ≡ stopped (number_of x) 1 t
    → Stopped t (read_rest nothing 1 t) (record { refusal = x; line = 1; at = 0 })
at_first x is = record { is = is; place = omega arith; numbered = omega arith }

pub returns-in_default : goal.returns-in_default
returns-in_default c =
    let none = line_if_none _ c.in_default.ensures in
    told _ (at_first BadLine (first_bad c.args.text.now c.requires _ refl none 2)) c.refused_at.ensures

pub returns-in-Err : goal.returns-in-Err
returns-in-Err c =
    let (is, filled) = line_if_some c.in-Some.ensures in
    let stop = at_first c.in-Err.refusal (first_refused c.args.text.now c.requires _ is filled _ c.in-Err.ensures (number_some _)) in
    told _ stop c.refused_at-in-Err.ensures

pub read_rules-requires : goal.read_rules-requires
read_rules-requires c =
    let text = c.args.text.now in
    let (is, filled) = line_if_some c.in-Some.ensures in
    let next = line_next text 0 _ is filled in
    let further = line_size_pos text 0 c.requires in
    (le_trans (le_of_eq next) (line_within text 0 (omega arith)), omega (arith, next), omega arith)

-- where the rules are refused
rules_stop : (c : In-Err-read_rules) → Stopped c.args.text.now (read_rest nothing 1 c.args.text.now) c.in-Err-read_rules.stop
rules_stop c =
    let (is, filled) = line_if_some c.in-Some.ensures in
    let one = first_taken c.args.text.now c.requires _ is filled _ c.in_default-check_first.ensures refl in
    subst (λ o. Stopped c.args.text.now o c.in-Err-read_rules.stop) (sym one.on)
    (c.in-Err-read_rules.ensures _ one.good (c.head_of.ensures _ one.held))

pub refused_at-requires-in-Err-read_rules : goal.refused_at-requires-in-Err-read_rules
refused_at-requires-in-Err-read_rules c =
    let h = rules_stop (goal.at.refused_at-requires-in-Err-read_rules c).In-Err-read_rules in
    (h.place, h.numbered)

pub returns-in-Err-read_rules : goal.returns-in-Err-read_rules
returns-in-Err-read_rules c =
    told _ (rules_stop (goal.at.returns-in-Err-read_rules c).In-Err-read_rules) c.refused_at-in-Err-read_rules.ensures

pub even_playing-requires : goal.even_playing-requires
even_playing-requires c =
    let d = rules_read (goal.at.even_playing-requires c).In-Ok in
    (d.inside, d.end, d.filled)

pub returns-in-Some-even_playing : goal.returns-in-Some-even_playing
returns-in-Some-even_playing c =
    let one = first (goal.at.returns-in-Some-even_playing c).In_default-check_first in
    let d = rules_read (goal.at.returns-in-Some-even_playing c).In-Ok in
    reading_is one d c.in-Some-even_playing.take (c.in-Some-even_playing.ensures _ d.line d.numbered d.grammar)

pub read_playing-requires : goal.read_playing-requires
read_playing-requires c =
    let d = rules_read (goal.at.read_playing-requires c).In-Ok in
    (d.inside, d.line, d.numbered, d.end, d.filled)

-- where the playing is refused
playing_stop : (c : In-Err-read_playing) → Stopped c.args.text.now (read_rest nothing 1 c.args.text.now) c.in-Err-read_playing.stop
playing_stop c =
    let (is, filled) = line_if_some c.in-Some.ensures in
    let one = first_taken c.args.text.now c.requires _ is filled _ c.in_default-check_first.ensures refl in
    let d = c.in-Ok.ensures _ one.good (c.head_of.ensures _ one.held) in
    take_read one d (Err c.in-Err-read_playing.stop) (c.in-Err-read_playing.ensures d.grammar)

pub refused_at-requires-in-Err-read_playing : goal.refused_at-requires-in-Err-read_playing
refused_at-requires-in-Err-read_playing c =
    let h = playing_stop (goal.at.refused_at-requires-in-Err-read_playing c).In-Err-read_playing in
    (h.place, h.numbered)

pub returns-in-Ok-read_playing : goal.returns-in-Ok-read_playing
returns-in-Ok-read_playing c =
    let one = first (goal.at.returns-in-Ok-read_playing c).In_default-check_first in
    let d = rules_read (goal.at.returns-in-Ok-read_playing c).In-Ok in
    reading_is one d c.in-Ok-read_playing.take (c.in-Ok-read_playing.ensures d.grammar)

pub returns-in-Err-read_playing : goal.returns-in-Err-read_playing
returns-in-Err-read_playing c =
    told _ (playing_stop (goal.at.returns-in-Err-read_playing c).In-Err-read_playing) c.refused_at-in-Err-read_playing.ensures

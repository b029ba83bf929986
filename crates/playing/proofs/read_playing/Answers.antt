-- `read_playing` meets its contract: the `45` line is refused; or its bar lines are read from where it ends, and then the onsets. Assumes
-- nothing.
use mathlib.Core.Path.{◌≡◌, sym, subst, ◌∙◌}
use native.Mathlib.Omega.{arith}
use Prim.Native.Nat.{◌+◌, ◌≤◌}
use lib.ListN.{length, drop}
use lib.Dec.{eqb}
use Rattle.hextext.specs.Text.{line_bytes}
use Rattle.sheet.specs.Sheet.{Grammar, no_playing}
use Rattle.sheet.specs.Reading.{playing_refusal, in_rules, in_onsets}
use Rattle.std.proofs.lemmas.Result.{err_from_is_err_and}
use Rattle.sheet.specs.Refusal.{number_some}
use Rattle.sheet.specs.Rest.{read_rest, Stopped}
use Rattle.sheet.specs.Held.{LineHeld}
use Rattle.bar_lines.specs.Lines.{lines_in, bars_next}
use Rattle.playing.specs.Clauses.{TakeRead}
use Rattle.playing.proofs.HeadLine.{head_held, head_within, head_refused, head_passed, head_on}
use Rattle.playing.proofs.read_playing.Goals.{After-four_at, Start}
use Rattle.playing.proofs.read_playing.Goals as goal

-- the line as it is held
held : (c : Start) → LineHeld c.args.l (line_bytes (drop c.args.at c.args.text.now))
held c = let pre = c.requires in head_held c.args.text.now c.args.at pre.0 _ pre.3 pre.4

met : (c : After-four_at) → playing_refusal (line_bytes (drop c.args.at c.args.text.now)) ≡ 0
met c =
    let held-here : LineHeld c.args.l (line_bytes (drop c.args.at c.args.text.now)) =
    let pre = c.requires in head_held c.args.text.now c.args.at pre.0 _ pre.3 pre.4 in
    sym (c.in_default.ensures _ held-here)

-- what the `45` line comes to is what the bar lines behind it come to
on : (c : After-four_at) (g : Grammar) → 1 ≤ length g.rules → c.args.l.kind ≡ 0x45
    → read_rest (in_rules g) c.args.line (drop c.args.at c.args.text.now)
    ≡ read_rest (bars_next g c.byte_at-bars.result c.four_at.result) (c.args.line + 1) (drop c.args.l.next c.args.text.now)
on c g some kind =
    let text = c.args.text.now in
    let pre = c.requires in
    let held = head_held text c.args.at pre.0 _ pre.3 pre.4 in
    let met = sym (c.in_default.ensures _ held) in
    head_on text c.args.at pre.0 _ pre.3 pre.4 c.args.line g some kind met _ _ (c.byte_at-bars.ensures _ held) (c.four_at.ensures _ held)

pub returns-in-Err : goal.returns-in-Err
returns-in-Err c g good some kind =
    let pre = c.requires in
    record {
      is =
          head_refused c.args.text.now c.args.at pre.0 _ pre.3 pre.4 c.args.line g some kind _
          (c.in-Err.ensures _ (held (goal.at.returns-in-Err c).Start)) (number_some _);
      place = pre.1;
      numbered = pre.2;
    }

pub read_bars-requires : goal.read_bars-requires
read_bars-requires c =
    let next = head_within c.args.text.now c.args.at c.requires.0 _ c.requires.3 c.requires.4 in
    let passed = head_passed c.args.text.now c.args.at c.requires.0 _ c.requires.3 c.requires.4
    (met (goal.at.read_bars-requires c).After-four_at) _ _
    (c.byte_at-bars.ensures _ (held (goal.at.read_bars-requires c).Start))
    (c.four_at.ensures _ (held (goal.at.read_bars-requires c).Start)) in
    (next.0, next.1 _ c.requires.1, omega arith, passed.0, passed.1, passed.2)

pub returns-in_err-read : goal.returns-in_err-read
returns-in_err-read c g good some kind =
    let q = err_from_is_err_and c.from_residual.result c.from_residual.ensures.1 in
    rw (q.1, q.2)
    (subst (λ o. Stopped c.args.text.now o c.in_err-read.field-0.0) (sym (on (goal.at.returns-in_err-read c).After-four_at g some kind))
    (c.in_err-read.ensures.1 g))

pub clock_of-clock-requires : goal.clock_of-clock-requires
clock_of-clock-requires c = c.in_ok-read.ensures.1

pub read_onsets-requires : goal.read_onsets-requires
read_onsets-requires c =
    let bars = c.in_ok-read.ensures.0 in
    (bars.within, bars.place, bars.numbered, c.clock_of-clock.ensures.2)

pub returns : goal.returns
returns c g good some kind =
    let text = c.args.text.now in
    let bars = c.in_ok-read.read in
    let is = c.clock_of-clock.ensures in
    subst (λ o. TakeRead text o g c.read_onsets.result)
    (sym (on (goal.at.returns c).After-four_at g some kind ∙ c.in_ok-read.ensures.0.rest g
    ∙ (λ j. read_rest (in_onsets g (eqb (sym is.1 j).0 0) (lines_in (sym is.0 j) bars.lines) (no_playing (sym is.0 j)) 0)
    bars.line (drop bars.at text))))
    (c.read_onsets.ensures g)

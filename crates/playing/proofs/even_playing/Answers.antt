-- `even_playing` meets its contract: the `45` line is not refused and has a duration, and each line behind it adds an onset. Assumes
-- nothing.
use mathlib.Core.List.{[]}
use native.Mathlib.Omega.{arith}
use Prim.Native.Nat.{◌+◌, ◌≤◌}
use mathlib.Core.Path.{◌≡◌, sym, subst, ◌∙◌}
use mathlib.Core.Bool.{false, cond}
use lib.ListN.{drop}
use lib.Dec.{eqb}
use borrow.Author.Tests.{ne_eqb}
use Rattle.hextext.specs.Text.{line_bytes}
use Rattle.sheet.specs.Sheet.{no_playing, even_lines}
use Rattle.sheet.specs.Reading.{playing_refusal, in_taps, in_onsets}
use Rattle.sheet.specs.Rest.{read_rest}
use Rattle.sheet.specs.Held.{LineHeld}
use Rattle.sheet.specs.Good.{GoodTiming}
use Rattle.sheet.proofs.GoodBars.{even_good}
use Rattle.bar_lines.specs.Lines.{lines_in}
use Rattle.playing.specs.Clauses.{TakeDone}
use Rattle.std.proofs.lemmas.Option.{IfSome_then}
use Rattle.playing.proofs.HeadLine.{head_held, head_within, head_passed, head_on}
use Rattle.playing.proofs.even_playing.Goals.{After-four_at, Start}
use Rattle.playing.proofs.even_playing.Goals as goal

-- the line as it is held
held : (c : Start) → LineHeld c.args.l (line_bytes (drop c.args.at c.args.text.now))
held c = head_held c.args.text.now c.args.at c.requires.0 _ c.requires.1 c.requires.2

-- the line is not refused
met : (c : After-four_at) → playing_refusal (line_bytes (drop c.args.at c.args.text.now)) ≡ 0
met c =
    let held = head_held c.args.text.now c.args.at c.requires.0 _ c.requires.1 c.requires.2 in
    sym (c.in-Ok.ensures _ held)

-- so its numbers are within their ranges
passed : (c : After-four_at) → (1 ≤ c.byte_at-bars.result) × (c.byte_at-bars.result ≤ 64)
    × ((c.four_at.result ≡ 0 → ⊥) → (1000 ≤ c.four_at.result) × (c.four_at.result ≤ 60_000_000))
passed c =
    let held = head_held c.args.text.now c.args.at c.requires.0 _ c.requires.1 c.requires.2 in
    let met = sym (c.in-Ok.ensures _ held) in
    head_passed c.args.text.now c.args.at c.requires.0 _ c.requires.1 c.requires.2 met _ _ (c.byte_at-bars.ensures _ held)
    (c.four_at.ensures _ held)

pub even_lines-lines-requires : goal.even_lines-lines-requires
even_lines-lines-requires c = (
  (passed (goal.at.even_lines-lines-requires c).After-four_at).1,
  ((passed (goal.at.even_lines-lines-requires c).After-four_at).2
      c.if-duration-eq0.false).1,
)

pub clock_of-clock-requires : goal.clock_of-clock-requires
clock_of-clock-requires c =
    let some = c.if-duration-eq0.false in
    let range = (passed (goal.at.clock_of-clock-requires c).After-four_at).2 some in
    let is = c.even_lines-lines.ensures in
    record {
      lines = record {
        one = (passed (goal.at.clock_of-clock-requires c).After-four_at).0;
        sixty_four = (passed (goal.at.clock_of-clock-requires c).After-four_at).1;
        time = subst (GoodTiming c.byte_at-bars.result) (sym is)
            (even_good _ _ (passed (goal.at.clock_of-clock-requires c).After-four_at).1 range.0 range.1);
      };
      even = λ _. is;
    }

pub read_even-requires : goal.read_even-requires
read_even-requires c =
    ((head_within c.args.text.now c.args.at c.requires.0 _ c.requires.1 c.requires.2).0, c.clock_of-clock.ensures.2)

pub returns : goal.returns
returns c =
    let text = c.args.text.now in
    let bars = c.byte_at-bars.result in
    let d = c.four_at.result in
    let is = c.clock_of-clock.ensures in
    let lines_are = c.even_lines-lines.ensures in
    let plain : false ≡ eqb d 0 = sym (ne_eqb d 0 c.if-duration-eq0.false) in
    let next = head_within text c.args.at c.requires.0 _ c.requires.1 c.requires.2 in
    IfSome_then c.read_even.result c.read_even.ensures
    (λ r done line few pos g good some kind.
    subst (λ o. TakeDone o g r)
    (sym (head_on text c.args.at c.requires.0 _ c.requires.1 c.requires.2 line g some kind (met (goal.at.returns c).After-four_at) bars d
    (c.byte_at-bars.ensures _ (held (goal.at.returns c).Start)) (c.four_at.ensures _ (held (goal.at.returns c).Start))
    ∙ (λ j. read_rest (cond (sym plain j) (in_taps g bars []) (in_onsets g false (even_lines bars d) (no_playing bars) 0)) (line + 1)
    (drop c.args.l.next text))
    ∙ (λ j. read_rest (in_onsets g (plain j) (sym lines_are j) (no_playing bars) 0) (line + 1) (drop c.args.l.next text))
    ∙ (λ j. read_rest (in_onsets g (eqb (sym is.1 j).0 0) (lines_in (sym is.0 j) c.even_lines-lines.result)
    (no_playing (sym is.0 j)) 0) (line + 1) (drop c.args.l.next text))))
    (done (line + 1) (next.1 line few) (omega arith) g))

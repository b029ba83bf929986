-- `other_refusal` meets its contract. Assumes nothing.
use Prim.Native.Nat.{ℕ}
use mathlib.Core.Path.{◌≡◌, sym, ◌∙◌}
use mathlib.Core.List.{List}
use lib.Dec.{eqb}
use borrow.Author.Tests.{eq-eqb, ne_eqb}
use Rattle.sheet.specs.Reading.{byte, other_refusal}
use Rattle.playing.proofs.onset.other_refusal.Goals as goal

-- a tap behind the last of a tapped sheet
too_many : (d : ℕ) (b : List ℕ) → d ≡ 0 → byte b 0 ≡ 0x42 → 17 ≡ other_refusal (eqb d 0) b
unfolding other_refusal
too_many d b none kind = simp (eq-eqb d 0 none, eq-eqb (byte b 0) 0x42 kind)

pub returns-then-kind : goal.returns-then-kind
returns-then-kind c b e = too_many _ b c.if-duration-eq0.true (sym e ∙ c.if-kind.true)

pub returns-else-kind : goal.returns-else-kind
unfolding other_refusal
returns-else-kind c b e = simp (eq-eqb _ 0 c.if-duration-eq0.true, ne_eqb _ 0x42 (λ z. c.if-kind.false (e ∙ z)))

pub returns-else-duration-eq0 : goal.returns-else-duration-eq0
unfolding other_refusal
returns-else-duration-eq0 c b e = simp (ne_eqb _ 0 c.if-duration-eq0.false)

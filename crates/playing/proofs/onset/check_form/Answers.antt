-- `check_form` meets its contract: each return has passed the demands before it. Assumes nothing.
use native.Mathlib.Omega.{arith}
use Prim.Native.Nat.{ℕ, suc}
use mathlib.Core.Path.{◌≡◌}
use Rattle.sheet.specs.Reading.{onset_form}
use Rattle.sheet.specs.Demands.{demands}
use Rattle.playing.proofs.onset.check_form.Goals as goal

-- a number other than 0
refused : {A : Type 0} {k : ℕ} → suc k ≡ 0 → A
refused z = let f : ⊥ = omega (arith, z) in absurd f

pub returns-then-l-ne7 : goal.returns-then-l-ne7
unfolding onset_form
returns-then-l-ne7 c = (λ b h. rw (← h.count) (search demands depth 10), λ z. refused z)

pub returns-then-pitch-gt127 : goal.returns-then-pitch-gt127
unfolding onset_form
returns-then-pitch-gt127 c = (
  λ b h. rw (← h.count, ← c.byte_at-pitch.ensures b h, ← c.byte_at-velocity.ensures b h) (search demands depth 10),
  λ z. refused z,
)

pub returns-then-velocity-lt1 : goal.returns-then-velocity-lt1
unfolding onset_form
returns-then-velocity-lt1 c = (
  λ b h. rw (← h.count, ← c.byte_at-pitch.ensures b h, ← c.byte_at-velocity.ensures b h) (search demands depth 10),
  λ z. refused z,
)

pub returns-then-velocity-gt127 : goal.returns-then-velocity-gt127
unfolding onset_form
returns-then-velocity-gt127 c = (
  λ b h. rw (← h.count, ← c.byte_at-pitch.ensures b h, ← c.byte_at-velocity.ensures b h) (search demands depth 10),
  λ z. refused z,
)

pub returns : goal.returns
unfolding onset_form
returns c = (
  λ b h. rw (← h.count, ← c.byte_at-pitch.ensures b h, ← c.byte_at-velocity.ensures b h) (search demands depth 10),
  λ z. c.if-l-ne7.false,
)

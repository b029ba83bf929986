-- Onsets whose units never fall: those of two intervals that adjoin, and the early and the late of one interval, stand one after the other
-- in sheet order.
use Rattle.std.specs.Prelude.{ℕ, ◌≤◌, ◌≡◌, Bool, true, false, ◌&&◌, ◌||◌, leb, ltb}

-- a test that is passed where one of two is; from a unit on that passes the second none passes the first
pub record Parts (first second whole : ℕ → Bool) : Type 0 where
  pub either : (u : ℕ) → whole u ≡ (first u || second u)
  pub no_more : (u v : ℕ) → u ≤ v → second u ≡ true → first v ≡ false

-- ---- intervals

-- from `left` to before `right`
abbrev pub within : (left right unit : ℕ) → Bool
within left right u = leb left u && ltb u right

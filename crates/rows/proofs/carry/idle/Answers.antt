-- `idle` meets its contract, by `idle_at`. Assumes nothing.
use mathlib.Core.Path.{refl}
use Rattle.rows.proofs.carry.idle.Goals as goal

pub idle_at-requires : goal.idle_at-requires
idle_at-requires c = (c.requires.0, c.requires.1 0, c.requires.2)

pub returns : goal.returns
returns c =
    λ s p t. c.idle_at.ensures s _ p refl refl t

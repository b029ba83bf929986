-- `sizes::is_among` meets its contract: the cells before the cursor are above k times d, and those behind it below the cell there, since
-- the lengths fall. Assumes nothing.
use native.Mathlib.Omega.{arith}
use borrow.Author.Tests.{le-ltb}
use Rattle.sizes.proofs.CursorSteps.{times_small, cursors_moved, among_told, among_none}
use Rattle.sizes.proofs.is_among.Goals as goal

pub overflow_mul-x : goal.overflow_mul-x
overflow_mul-x c =
    record { fits = omega (arith, times_small c.args.k c.args.d.0 c.requires.1 c.requires.2) }

pub first_at_most-i-requires : goal.first_at_most-i-requires
first_at_most-i-requires c =
    (c.requires.0, c.requires.3.within c.args.k)

pub returns-then-i-count : goal.returns-then-i-count
returns-then-i-count c =
    let first = c.first_at_most-i.ensures in
    let cursors = c.requires.3 in (
      cursors_moved _ _ _ _ cursors c.args.k _ c.requires.1 first,
      λ xs o. among_told _ _ _ _ cursors c.args.k _ c.requires.1 first c.requires.0 xs o c.if-i-count.true,
    )

pub returns-else-i-count : goal.returns-else-i-count
returns-else-i-count c =
    let first = c.first_at_most-i.ensures in
    let cursors = c.requires.3 in (
      cursors_moved _ _ _ _ cursors c.args.k _ c.requires.1 first,
      λ xs o.
          rw (le-ltb _ _ c.if-i-count.false)
          (among_none _ _ _ _ cursors c.args.k _ c.requires.1 first c.requires.0 xs o (λ l _. omega arith)),
    )

-- `explore` is safe and ends, and the list keeps its length. The measure is the room that is left in the list: each call has stored one
-- byte more. The loop's invariant: the list has its length, and room for a byte. Assumes nothing.
use Rattle.std.proofs.Common.{length, ◌-◌, ◌≡◌, ◌<◌}
use Rattle.listing.proofs.+explore.Given as goal

abbrev pub decreases-explore : goal.decreases-explore
decreases-explore l = length l.list.now - l.nodes

abbrev pub invariant-loop-i : goal.invariant-loop-i
invariant-loop-i l = (length l.list ≡ length l.initial.list) × (l.nodes < length l.initial.list)

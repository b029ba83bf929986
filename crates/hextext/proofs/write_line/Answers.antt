use native.Mathlib.Omega.{arith}
use lib.ListN.{length-set}
use Rattle.hextext.proofs.WriteSteps.{wrote_none, wrote_more, wrote_line, no_room_lem}
use Rattle.hextext.proofs.write_line.Goals as goal

pub returns-then-out-at : goal.returns-then-out-at
returns-then-out-at c = no_room_lem _ _ _ (omega arith)

pub returns-then-room-bytes : goal.returns-then-room-bytes
returns-then-room-bytes c = no_room_lem _ _ _ (omega arith)

pub returns-then-room-bytes-2 : goal.returns-then-room-bytes-2
returns-then-room-bytes-2 c = no_room_lem _ _ _ (omega arith)

pub loop-b-init : goal.loop-b-init
loop-b-init c = wrote_none _ _ _ (omega arith)

pub bounds-out-k-in-loop-b : goal.bounds-out-k-in-loop-b
bounds-out-k-in-loop-b c =
    let l = c.loop-b in
    omega (arith, length-set l.out l.k c.digit_of.result)

pub loop-b-preserved : goal.loop-b-preserved
loop-b-preserved c =
    wrote_more c.loop-b.invariant _ _ (omega arith) c.digit_of.ensures c.digit_of-in-loop-b.ensures

pub returns : goal.returns
returns c = wrote_line c.loop-b.invariant (omega arith)

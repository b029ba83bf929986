use native.Mathlib.Omega.{arith}
use Rattle.hextext.proofs.LineSteps.{read_none, read_written, read_dropped, ended_0_a, ended_last, ended_past}
use Rattle.hextext.proofs.next_line.Goals as goal

pub loop-i-init : goal.loop-i-init
loop-i-init c = read_none _ _ _

pub returns-then-high-eq-CLOSE : goal.returns-then-high-eq-CLOSE
returns-then-high-eq-CLOSE c =
    let loop = c.loop-i in
    ended_0_a loop.invariant (omega arith) c.if-high-eq-CLOSE.true

pub returns-then-text-i : goal.returns-then-text-i
returns-then-text-i c =
    let loop = c.loop-i in
    ended_last loop.invariant (omega arith)

pub loop-i-preserved-then-k-line : goal.loop-i-preserved-then-k-line
loop-i-preserved-then-k-line c =
    read_written c.loop-i.invariant (omega arith) c.if-high-eq-CLOSE.false _ c.pair_value-b.ensures (omega arith)

pub loop-i-preserved : goal.loop-i-preserved
loop-i-preserved c =
    read_dropped c.loop-i.invariant (omega arith) c.if-high-eq-CLOSE.false _ c.pair_value-b.ensures (omega arith)

pub returns : goal.returns
returns c = ended_past c.loop-i.invariant (omega arith)

-- `remark_between` meets its contract: the callees give the tempo and the record of the two durations. Assumes nothing.
use Rattle.tempo.proofs.remark.remark_between.Goals as goal

pub returns : goal.returns
returns c = simp (c.tempo_record.ensures, c.tempo_between.ensures)

-- `tempo_record` meets its contract: what the two callees ensure makes up the record. Assumes nothing.
use Rattle.tempo.proofs.between.tempo_record.Goals as goal

pub returns : goal.returns
returns c = simp (c.percentage_in.ensures, c.tempo_between.ensures)

use Rattle.wk_replica_serving.proofs.begins.take_line.Goals as goal

pub returns-in-Err : goal.returns-in-Err
returns-in-Err c = (c.in-Err.refusal, (c.in-Err.ensures, c.end_of.ensures))

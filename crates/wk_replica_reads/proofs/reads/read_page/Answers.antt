use Rattle.wk_replica_reads.proofs.LookLaws.{read-both}
use Rattle.wk_replica_reads.proofs.reads.read_page.Goals as goal

pub returns-in-None-clause-pass : goal.returns-in-None-clause-pass
returns-in-None-clause-pass g c = read-both c.args.shared.now c.args.pass.now c.seek.new.pass c.drafted.new.pass c.seek.ensures.pass c.drafted.ensures.pass

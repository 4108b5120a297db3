use Rattle.wk_live.proofs.ReadLaws.{stale-reads}
use Rattle.wk_live.proofs.laws.stale_reads_are_those_of_the_rules.Goals as goal

pub returns : goal.returns
returns c = stale-reads

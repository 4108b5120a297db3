use Rattle.std.proofs.Common.{lit≤, refl}
use Rattle.wk_wiki_rules.specs.Computing.{computing}
use Rattle.wk_complete_laws.proofs.Runs.{saved-kept}
use Rattle.wk_complete_laws.proofs.examples.a_request_that_reads.Goals as goal

pub returns-clause-kept : goal.returns-clause-kept
returns-clause-kept c = saved-kept

pub returns-clause-reads : goal.returns-clause-reads
returns-clause-reads c = refl

pub returns-clause-named : goal.returns-clause-named
unfolding computing
returns-clause-named c = refl

pub returns-clause-there : goal.returns-clause-there
unfolding computing
returns-clause-there c = refl

pub returns-clause-reached : goal.returns-clause-reached
unfolding computing
returns-clause-reached c = lit≤ tt

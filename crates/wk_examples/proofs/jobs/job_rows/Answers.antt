use Rattle.std.proofs.Common.{refl}
use Rattle.wk_wiki_rules.specs.JobComputing.{computing}
use Rattle.wk_examples.proofs.jobs.job_rows.Goals as goal

pub returns-clause-written : goal.returns-clause-written
unfolding computing
returns-clause-written c = refl

pub returns-clause-read : goal.returns-clause-read
unfolding computing
returns-clause-read c = refl

pub returns-clause-none : goal.returns-clause-none
unfolding computing
returns-clause-none c = refl

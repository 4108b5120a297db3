use Rattle.std.proofs.Common.{refl}
use Rattle.wk_table_rules.specs.Computing.{computing}
use Rattle.wk_examples.proofs.tables.job_params.Goals as goal

pub returns-clause-written : goal.returns-clause-written
unfolding computing
returns-clause-written c = refl

pub returns-clause-written_both : goal.returns-clause-written_both
unfolding computing
returns-clause-written_both c = refl

pub returns-clause-read : goal.returns-clause-read
unfolding computing
returns-clause-read c = refl

pub returns-clause-not_read : goal.returns-clause-not_read
unfolding computing
returns-clause-not_read c = refl

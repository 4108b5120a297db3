use Rattle.std.proofs.Common.{refl}
use Rattle.wk_wiki_rules.specs.JobComputing.{computing}
use Rattle.wk_examples.proofs.jobs.restarts.Goals as goal

pub returns-clause-reopened : goal.returns-clause-reopened
unfolding computing
returns-clause-reopened c = refl

pub returns-clause-number_given_again : goal.returns-clause-number_given_again
unfolding computing
returns-clause-number_given_again c = refl

pub returns-clause-no_job : goal.returns-clause-no_job
unfolding computing
returns-clause-no_job c = refl

use Rattle.std.proofs.Common.{refl}
use Rattle.wk_wiki_rules.specs.JobComputing.{computing}
use Rattle.wk_examples.proofs.jobs.saves.Goals as goal

pub returns-clause-nobody_names_it : goal.returns-clause-nobody_names_it
unfolding computing
returns-clause-nobody_names_it c = refl

pub returns-clause-somebody_names_it : goal.returns-clause-somebody_names_it
unfolding computing
returns-clause-somebody_names_it c = refl

pub returns-clause-it_names_itself : goal.returns-clause-it_names_itself
unfolding computing
returns-clause-it_names_itself c = refl

pub returns-clause-existence_changed : goal.returns-clause-existence_changed
unfolding computing
returns-clause-existence_changed c = refl

pub returns-clause-existence_stayed : goal.returns-clause-existence_stayed
unfolding computing
returns-clause-existence_stayed c = refl

pub returns-clause-jobs_that_stand : goal.returns-clause-jobs_that_stand
unfolding computing
returns-clause-jobs_that_stand c = refl

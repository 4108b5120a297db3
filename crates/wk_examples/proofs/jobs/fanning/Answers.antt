use Rattle.std.proofs.Common.{refl}
use Rattle.wk_wiki_rules.specs.JobComputing.{computing}
use Rattle.wk_examples.proofs.jobs.fanning.Goals as goal

pub returns-clause-first_pages : goal.returns-clause-first_pages
unfolding computing
returns-clause-first_pages c = refl

pub returns-clause-begun_anew : goal.returns-clause-begun_anew
unfolding computing
returns-clause-begun_anew c = refl

pub returns-clause-last_page : goal.returns-clause-last_page
unfolding computing
returns-clause-last_page c = refl

pub returns-clause-claimed_page : goal.returns-clause-claimed_page
unfolding computing
returns-clause-claimed_page c = refl

pub returns-clause-nobody_left : goal.returns-clause-nobody_left
unfolding computing
returns-clause-nobody_left c = refl

pub returns-clause-no_fan_job : goal.returns-clause-no_fan_job
unfolding computing
returns-clause-no_fan_job c = refl

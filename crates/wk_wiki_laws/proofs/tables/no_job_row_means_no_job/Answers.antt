use Rattle.wk_wiki_rules.specs.States.{title_at}
use Rattle.wk_wiki_laws.proofs.JobsMade.{no-rows-no-jobs, no-jobs-no-rows}
use Rattle.wk_wiki_laws.proofs.tables.no_job_row_means_no_job.Goals as goal

pub returns-clause-none : goal.returns-clause-none
returns-clause-none c = λ state. no-jobs-no-rows (title_at state.history) state.jobs

pub returns-clause-only_so : goal.returns-clause-only_so
returns-clause-only_so c = λ state. no-rows-no-jobs (title_at state.history) state.jobs

use Rattle.wk_wiki_rules.proofs.JobLemmas.{has_refresh-claimed, has_refresh-given_back, has_refresh-reopened, has_refresh-queued, has_refresh-dropped}
use Rattle.wk_wiki_rules.proofs.laws.which_pages_have_a_job.Goals as goal

pub returns-clause-claimed : goal.returns-clause-claimed
returns-clause-claimed c = has_refresh-claimed

pub returns-clause-given_back : goal.returns-clause-given_back
returns-clause-given_back c = has_refresh-given_back

pub returns-clause-reopened : goal.returns-clause-reopened
returns-clause-reopened c = has_refresh-reopened

pub returns-clause-queued : goal.returns-clause-queued
returns-clause-queued c = has_refresh-queued

pub returns-clause-dropped : goal.returns-clause-dropped
returns-clause-dropped c = has_refresh-dropped

use Rattle.wk_wiki_rules.proofs.JobLemmas.{IsOneAPage-none, IsOneAPage-queued, IsOneAPage-claimed, IsOneAPage-given_back, IsOneAPage-dropped, IsOneAPage-saved, IsOneAPage-served, IsOneAPage-reopened}
use Rattle.wk_wiki_rules.proofs.laws.a_page_has_one_refresh_job.Goals as goal

pub returns-clause-none : goal.returns-clause-none
returns-clause-none c = IsOneAPage-none

pub returns-clause-queued : goal.returns-clause-queued
returns-clause-queued c = IsOneAPage-queued

pub returns-clause-claimed : goal.returns-clause-claimed
returns-clause-claimed c = IsOneAPage-claimed

pub returns-clause-given_back : goal.returns-clause-given_back
returns-clause-given_back c = IsOneAPage-given_back

pub returns-clause-dropped : goal.returns-clause-dropped
returns-clause-dropped c = IsOneAPage-dropped

pub returns-clause-saved : goal.returns-clause-saved
returns-clause-saved c = IsOneAPage-saved

pub returns-clause-fanned : goal.returns-clause-fanned
returns-clause-fanned c = IsOneAPage-served

pub returns-clause-reopened : goal.returns-clause-reopened
returns-clause-reopened c = IsOneAPage-reopened

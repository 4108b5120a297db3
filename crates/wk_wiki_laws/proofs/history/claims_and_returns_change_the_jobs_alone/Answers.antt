use Rattle.std.proofs.Common.{refl}
use Rattle.wk_wiki_laws.proofs.JobsAlone.{jobs_alone-claimed, jobs_alone-given_back, jobs_alone-fanned}
use Rattle.wk_wiki_laws.proofs.history.claims_and_returns_change_the_jobs_alone.Goals as goal

pub returns-clause-claimed : goal.returns-clause-claimed
returns-clause-claimed c = jobs_alone-claimed

pub returns-clause-given_back : goal.returns-clause-given_back
returns-clause-given_back c = jobs_alone-given_back

pub returns-clause-fanned : goal.returns-clause-fanned
returns-clause-fanned c = jobs_alone-fanned

pub returns-clause-reopened : goal.returns-clause-reopened
returns-clause-reopened c = λ state. refl

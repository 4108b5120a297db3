use Rattle.wk_wiki_rules.proofs.JobLemmas.{IsOneATitle-none, IsOneATitle-set, IsOneATitle-moved, IsOneATitle-dropped, IsOneATitle-saved, IsOneATitle-served}
use Rattle.wk_wiki_rules.proofs.laws.a_title_has_one_fan_job.Goals as goal

pub returns-clause-none : goal.returns-clause-none
returns-clause-none c = IsOneATitle-none

pub returns-clause-set : goal.returns-clause-set
returns-clause-set c = IsOneATitle-set

pub returns-clause-moved : goal.returns-clause-moved
returns-clause-moved c = IsOneATitle-moved

pub returns-clause-dropped : goal.returns-clause-dropped
returns-clause-dropped c = IsOneATitle-dropped

pub returns-clause-saved : goal.returns-clause-saved
returns-clause-saved c = IsOneATitle-saved

pub returns-clause-fanned : goal.returns-clause-fanned
returns-clause-fanned c = IsOneATitle-served

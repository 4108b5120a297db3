use Rattle.wk_wiki_rules.proofs.JobLemmas.{IsNumbered-none, IsNumbered-queued, IsNumbered-claimed, IsNumbered-given_back, IsNumbered-dropped, IsNumbered-fan_set, IsNumbered-moved, IsNumbered-fan_dropped, IsNumbered-saved, IsNumbered-served, IsNumbered-reopened}
use Rattle.wk_wiki_rules.proofs.laws.a_job_has_a_number_of_its_own.Goals as goal

pub returns-clause-none : goal.returns-clause-none
returns-clause-none c = IsNumbered-none

pub returns-clause-queued : goal.returns-clause-queued
returns-clause-queued c = IsNumbered-queued

pub returns-clause-claimed : goal.returns-clause-claimed
returns-clause-claimed c = IsNumbered-claimed

pub returns-clause-given_back : goal.returns-clause-given_back
returns-clause-given_back c = IsNumbered-given_back

pub returns-clause-dropped : goal.returns-clause-dropped
returns-clause-dropped c = IsNumbered-dropped

pub returns-clause-fan_set : goal.returns-clause-fan_set
returns-clause-fan_set c = IsNumbered-fan_set

pub returns-clause-fan_moved : goal.returns-clause-fan_moved
returns-clause-fan_moved c = IsNumbered-moved

pub returns-clause-fan_dropped : goal.returns-clause-fan_dropped
returns-clause-fan_dropped c = IsNumbered-fan_dropped

pub returns-clause-saved : goal.returns-clause-saved
returns-clause-saved c = IsNumbered-saved

pub returns-clause-fanned : goal.returns-clause-fanned
returns-clause-fanned c = IsNumbered-served

pub returns-clause-reopened : goal.returns-clause-reopened
returns-clause-reopened c = IsNumbered-reopened

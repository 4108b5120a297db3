use Rattle.wk_table_laws.proofs.ClaimOrder.{first-of-queued, first-of-claimed, first-of-given_back, first-of-dropped, first-of-fan_set, first-of-saved, first-of-served, first-of-reopened}
use Rattle.wk_table_laws.proofs.claims.claimed_jobs_stand_first.Goals as goal

pub returns-clause-none : goal.returns-clause-none
returns-clause-none c = tt

pub returns-clause-queued : goal.returns-clause-queued
returns-clause-queued c = first-of-queued

pub returns-clause-claimed : goal.returns-clause-claimed
returns-clause-claimed c = first-of-claimed

pub returns-clause-given_back : goal.returns-clause-given_back
returns-clause-given_back c = first-of-given_back

pub returns-clause-dropped : goal.returns-clause-dropped
returns-clause-dropped c = first-of-dropped

pub returns-clause-fan_set : goal.returns-clause-fan_set
returns-clause-fan_set c = first-of-fan_set

pub returns-clause-fan_moved : goal.returns-clause-fan_moved
returns-clause-fan_moved c = λ lists cursor first. first

pub returns-clause-fan_dropped : goal.returns-clause-fan_dropped
returns-clause-fan_dropped c = λ lists first. first

pub returns-clause-saved : goal.returns-clause-saved
returns-clause-saved c = first-of-saved

pub returns-clause-fanned : goal.returns-clause-fanned
returns-clause-fanned c = first-of-served

pub returns-clause-reopened : goal.returns-clause-reopened
returns-clause-reopened c = first-of-reopened

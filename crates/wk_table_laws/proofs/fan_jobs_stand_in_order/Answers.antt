use Rattle.wk_table_laws.proofs.FanOrder.{IsInOrder-queued, IsInOrder-set, IsInOrder-moved, IsInOrder-dropped, IsInOrder-saved, IsInOrder-served}
use Rattle.wk_table_laws.proofs.fan_jobs_stand_in_order.Goals as goal

pub returns-clause-none : goal.returns-clause-none
returns-clause-none c = tt

pub returns-clause-queued : goal.returns-clause-queued
returns-clause-queued c = IsInOrder-queued

pub returns-clause-claimed : goal.returns-clause-claimed
returns-clause-claimed c = λ lists ticket order. order

pub returns-clause-given_back : goal.returns-clause-given_back
returns-clause-given_back c = λ lists page order. order

pub returns-clause-dropped : goal.returns-clause-dropped
returns-clause-dropped c = λ lists page order. order

pub returns-clause-fan_set : goal.returns-clause-fan_set
returns-clause-fan_set c = IsInOrder-set

pub returns-clause-fan_moved : goal.returns-clause-fan_moved
returns-clause-fan_moved c = IsInOrder-moved

pub returns-clause-fan_dropped : goal.returns-clause-fan_dropped
returns-clause-fan_dropped c = IsInOrder-dropped

pub returns-clause-saved : goal.returns-clause-saved
returns-clause-saved c = IsInOrder-saved

pub returns-clause-fanned : goal.returns-clause-fanned
returns-clause-fanned c = IsInOrder-served

pub returns-clause-reopened : goal.returns-clause-reopened
returns-clause-reopened c = λ lists order. order

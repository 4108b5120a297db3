use Rattle.wk_life_laws.proofs.Lives.{back_life, claimed_life, done_life, fanned_life, saved_life}
use Rattle.wk_life_laws.proofs.events.each_event_goes_on.Goals as goal

pub returns-clause-saved : goal.returns-clause-saved
returns-clause-saved c = saved_life

pub returns-clause-claimed : goal.returns-clause-claimed
returns-clause-claimed c = claimed_life

pub returns-clause-done : goal.returns-clause-done
returns-clause-done c = done_life

pub returns-clause-given_back : goal.returns-clause-given_back
returns-clause-given_back c = back_life

pub returns-clause-fanned : goal.returns-clause-fanned
returns-clause-fanned c = fanned_life

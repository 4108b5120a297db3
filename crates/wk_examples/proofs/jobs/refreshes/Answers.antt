use Rattle.std.proofs.Common.{refl}
use Rattle.wk_wiki_rules.specs.JobComputing.{computing}
use Rattle.wk_examples.proofs.jobs.refreshes.Goals as goal

pub returns-clause-queued : goal.returns-clause-queued
unfolding computing
returns-clause-queued c = refl

pub returns-clause-claimed : goal.returns-clause-claimed
unfolding computing
returns-clause-claimed c = refl

pub returns-clause-claimed_again : goal.returns-clause-claimed_again
unfolding computing
returns-clause-claimed_again c = refl

pub returns-clause-first_queued : goal.returns-clause-first_queued
unfolding computing
returns-clause-first_queued c = refl

pub returns-clause-none_queued : goal.returns-clause-none_queued
unfolding computing
returns-clause-none_queued c = refl

pub returns-clause-page_of_a_ticket : goal.returns-clause-page_of_a_ticket
unfolding computing
returns-clause-page_of_a_ticket c = refl

pub returns-clause-no_such_ticket : goal.returns-clause-no_such_ticket
unfolding computing
returns-clause-no_such_ticket c = refl

pub returns-clause-given_back : goal.returns-clause-given_back
unfolding computing
returns-clause-given_back c = refl

pub returns-clause-dropped : goal.returns-clause-dropped
unfolding computing
returns-clause-dropped c = refl

pub returns-clause-queued_while_claimed : goal.returns-clause-queued_while_claimed
unfolding computing
returns-clause-queued_while_claimed c = refl

pub returns-clause-counted : goal.returns-clause-counted
unfolding computing
returns-clause-counted c = refl

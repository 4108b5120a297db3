use Rattle.std.proofs.Common.{refl}
use Rattle.wk_wiki_rules.specs.StateComputing.{computing}
use Rattle.wk_examples.proofs.states.a_restart.Goals as goal

pub returns-clause-page_saved : goal.returns-clause-page_saved
unfolding computing
returns-clause-page_saved c = refl

pub returns-clause-page_claimed : goal.returns-clause-page_claimed
unfolding computing
returns-clause-page_claimed c = refl

pub returns-clause-restarted : goal.returns-clause-restarted
unfolding computing
returns-clause-restarted c = refl

pub returns-clause-no_such_ticket : goal.returns-clause-no_such_ticket
unfolding computing
returns-clause-no_such_ticket c = refl

pub returns-clause-claimed_again : goal.returns-clause-claimed_again
unfolding computing
returns-clause-claimed_again c = refl

pub returns-clause-claim_is_not_stored : goal.returns-clause-claim_is_not_stored
unfolding computing
returns-clause-claim_is_not_stored c = refl

pub returns-clause-from_the_tables : goal.returns-clause-from_the_tables
unfolding computing
returns-clause-from_the_tables c = refl

pub returns-clause-lives : goal.returns-clause-lives
unfolding computing
returns-clause-lives c = refl

pub returns-clause-lives_from_a_store : goal.returns-clause-lives_from_a_store
unfolding computing
returns-clause-lives_from_a_store c = refl

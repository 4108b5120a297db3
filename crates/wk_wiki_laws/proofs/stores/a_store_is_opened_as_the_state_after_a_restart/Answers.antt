use Rattle.wk_wiki_laws.proofs.Reached.{state_of-reached, opened-reached, IsSound-reached}
use Rattle.wk_wiki_laws.proofs.stores.a_store_is_opened_as_the_state_after_a_restart.Goals as goal

pub returns-clause-stood_for : goal.returns-clause-stood_for
returns-clause-stood_for c = state_of-reached

pub returns-clause-opened : goal.returns-clause-opened
returns-clause-opened c = opened-reached

pub returns-clause-sound : goal.returns-clause-sound
returns-clause-sound c = IsSound-reached

use Rattle.std.proofs.Common.{refl}
use Rattle.wk_wiki_rules.specs.StateComputing.{computing}
use Rattle.wk_examples.proofs.states.links_and_members.Goals as goal

pub returns-clause-page_saved : goal.returns-clause-page_saved
unfolding computing
returns-clause-page_saved c = refl

pub returns-clause-page_claimed : goal.returns-clause-page_claimed
unfolding computing
returns-clause-page_claimed c = refl

pub returns-clause-page_done : goal.returns-clause-page_done
unfolding computing
returns-clause-page_done c = refl

pub returns-clause-rows_before : goal.returns-clause-rows_before
unfolding computing
returns-clause-rows_before c = refl

pub returns-clause-rows_after : goal.returns-clause-rows_after
unfolding computing
returns-clause-rows_after c = refl

pub returns-clause-tables_stand_for_the_state : goal.returns-clause-tables_stand_for_the_state
unfolding computing
returns-clause-tables_stand_for_the_state c = refl

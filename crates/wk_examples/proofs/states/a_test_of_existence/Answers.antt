use Rattle.std.proofs.Common.{refl}
use Rattle.wk_wiki_rules.specs.StateComputing.{computing}
use Rattle.wk_examples.proofs.states.a_test_of_existence.Goals as goal

pub returns-clause-page_saved : goal.returns-clause-page_saved
unfolding computing
returns-clause-page_saved c = refl

pub returns-clause-page_claimed : goal.returns-clause-page_claimed
unfolding computing
returns-clause-page_claimed c = refl

pub returns-clause-page_done : goal.returns-clause-page_done
unfolding computing
returns-clause-page_done c = refl

pub returns-clause-other_created : goal.returns-clause-other_created
unfolding computing
returns-clause-other_created c = refl

pub returns-clause-fanned : goal.returns-clause-fanned
unfolding computing
returns-clause-fanned c = refl

pub returns-clause-other_deleted : goal.returns-clause-other_deleted
unfolding computing
returns-clause-other_deleted c = refl

pub returns-clause-nothing_to_delete : goal.returns-clause-nothing_to_delete
unfolding computing
returns-clause-nothing_to_delete c = refl

pub returns-clause-read_as_missing : goal.returns-clause-read_as_missing
unfolding computing
returns-clause-read_as_missing c = refl

pub returns-clause-shown_while_there : goal.returns-clause-shown_while_there
unfolding computing
returns-clause-shown_while_there c = refl

pub returns-clause-shown_while_missing : goal.returns-clause-shown_while_missing
unfolding computing
returns-clause-shown_while_missing c = refl

pub returns-clause-covered_at_once : goal.returns-clause-covered_at_once
unfolding computing
returns-clause-covered_at_once c = refl

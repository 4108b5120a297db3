use Rattle.std.proofs.Common.{refl}
use Rattle.wk_wiki_rules.specs.StateComputing.{computing}
use Rattle.wk_examples.proofs.states.impossible_events.Goals as goal

pub returns-clause-not_normal : goal.returns-clause-not_normal
unfolding computing
returns-clause-not_normal c = refl

pub returns-clause-virtual_namespace : goal.returns-clause-virtual_namespace
unfolding computing
returns-clause-virtual_namespace c = refl

pub returns-clause-deletion_of_a_new_title : goal.returns-clause-deletion_of_a_new_title
unfolding computing
returns-clause-deletion_of_a_new_title c = refl

pub returns-clause-no_job : goal.returns-clause-no_job
unfolding computing
returns-clause-no_job c = refl

pub returns-clause-no_fan_job : goal.returns-clause-no_fan_job
unfolding computing
returns-clause-no_fan_job c = refl

pub returns-clause-done_while_queued : goal.returns-clause-done_while_queued
unfolding computing
returns-clause-done_while_queued c = refl

pub returns-clause-back_of_another_ticket : goal.returns-clause-back_of_another_ticket
unfolding computing
returns-clause-back_of_another_ticket c = refl

pub returns-clause-journal_with_such_an_event : goal.returns-clause-journal_with_such_an_event
unfolding computing
returns-clause-journal_with_such_an_event c = refl

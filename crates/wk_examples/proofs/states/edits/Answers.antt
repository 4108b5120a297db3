use Rattle.std.proofs.Common.{refl}
use Rattle.wk_wiki_rules.specs.StateComputing.{computing}
use Rattle.wk_examples.proofs.states.edits.Goals as goal

pub returns-clause-accepted : goal.returns-clause-accepted
unfolding computing
returns-clause-accepted c = refl

pub returns-clause-event : goal.returns-clause-event
unfolding computing
returns-clause-event c = refl

pub returns-clause-other_base : goal.returns-clause-other_base
unfolding computing
returns-clause-other_base c = refl

pub returns-clause-no_change : goal.returns-clause-no_change
unfolding computing
returns-clause-no_change c = refl

pub returns-clause-room_for_the_ticket : goal.returns-clause-room_for_the_ticket
unfolding computing
returns-clause-room_for_the_ticket c = refl

pub returns-clause-room_for_one_more : goal.returns-clause-room_for_one_more
unfolding computing
returns-clause-room_for_one_more c = refl

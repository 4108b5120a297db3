use Rattle.std.proofs.Common.{refl}
use Rattle.wk_examples.specs.Computing.{computing}
use Rattle.wk_examples.proofs.views.switches.Goals as goal

pub returns-clause-falls_through : goal.returns-clause-falls_through
unfolding computing
returns-clause-falls_through c = refl

pub returns-clause-default_in_the_middle : goal.returns-clause-default_in_the_middle
unfolding computing
returns-clause-default_in_the_middle c = refl

pub returns-clause-default_first_and_bare_last : goal.returns-clause-default_first_and_bare_last
unfolding computing
returns-clause-default_first_and_bare_last c = refl

pub returns-clause-default_last : goal.returns-clause-default_last
unfolding computing
returns-clause-default_last c = refl

pub returns-clause-bare_default : goal.returns-clause-bare_default
unfolding computing
returns-clause-bare_default c = refl

pub returns-clause-bare_default_last : goal.returns-clause-bare_default_last
unfolding computing
returns-clause-bare_default_last c = refl

pub returns-clause-bare_default_as_the_subject : goal.returns-clause-bare_default_as_the_subject
unfolding computing
returns-clause-bare_default_as_the_subject c = refl

pub returns-clause-last_default_counts : goal.returns-clause-last_default_counts
unfolding computing
returns-clause-last_default_counts c = refl

pub returns-clause-default_after_a_match : goal.returns-clause-default_after_a_match
unfolding computing
returns-clause-default_after_a_match c = refl

pub returns-clause-matched_last : goal.returns-clause-matched_last
unfolding computing
returns-clause-matched_last c = refl

pub returns-clause-no_item : goal.returns-clause-no_item
unfolding computing
returns-clause-no_item c = refl

pub returns-clause-empty_subject : goal.returns-clause-empty_subject
unfolding computing
returns-clause-empty_subject c = refl

pub returns-clause-numbers : goal.returns-clause-numbers
unfolding computing
returns-clause-numbers c = refl

pub returns-clause-equals_in_a_value : goal.returns-clause-equals_in_a_value
unfolding computing
returns-clause-equals_in_a_value c = refl

pub returns-clause-bare_items_behind_a_match : goal.returns-clause-bare_items_behind_a_match
unfolding computing
returns-clause-bare_items_behind_a_match c = refl

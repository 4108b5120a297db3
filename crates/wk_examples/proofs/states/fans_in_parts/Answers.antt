use Rattle.std.proofs.Common.{refl}
use Rattle.wk_wiki_rules.specs.StateComputing.{computing}
use Rattle.wk_examples.proofs.states.fans_in_parts.Goals as goal

pub returns-clause-first_saved : goal.returns-clause-first_saved
unfolding computing
returns-clause-first_saved c = refl

pub returns-clause-second_saved : goal.returns-clause-second_saved
unfolding computing
returns-clause-second_saved c = refl

pub returns-clause-third_saved : goal.returns-clause-third_saved
unfolding computing
returns-clause-third_saved c = refl

pub returns-clause-first_claimed : goal.returns-clause-first_claimed
unfolding computing
returns-clause-first_claimed c = refl

pub returns-clause-first_done : goal.returns-clause-first_done
unfolding computing
returns-clause-first_done c = refl

pub returns-clause-second_claimed : goal.returns-clause-second_claimed
unfolding computing
returns-clause-second_claimed c = refl

pub returns-clause-second_done : goal.returns-clause-second_done
unfolding computing
returns-clause-second_done c = refl

pub returns-clause-third_claimed : goal.returns-clause-third_claimed
unfolding computing
returns-clause-third_claimed c = refl

pub returns-clause-third_done : goal.returns-clause-third_done
unfolding computing
returns-clause-third_done c = refl

pub returns-clause-template_created : goal.returns-clause-template_created
unfolding computing
returns-clause-template_created c = refl

pub returns-clause-two_served : goal.returns-clause-two_served
unfolding computing
returns-clause-two_served c = refl

pub returns-clause-template_changed : goal.returns-clause-template_changed
unfolding computing
returns-clause-template_changed c = refl

pub returns-clause-two_served_again : goal.returns-clause-two_served_again
unfolding computing
returns-clause-two_served_again c = refl

pub returns-clause-last_served : goal.returns-clause-last_served
unfolding computing
returns-clause-last_served c = refl

pub returns-clause-no_fan_job : goal.returns-clause-no_fan_job
unfolding computing
returns-clause-no_fan_job c = refl

pub returns-clause-jobs_left : goal.returns-clause-jobs_left
unfolding computing
returns-clause-jobs_left c = refl

pub returns-clause-all_at_once : goal.returns-clause-all_at_once
unfolding computing
returns-clause-all_at_once c = refl

pub returns-clause-rows_at_last : goal.returns-clause-rows_at_last
unfolding computing
returns-clause-rows_at_last c = refl

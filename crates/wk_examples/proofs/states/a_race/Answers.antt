use Rattle.std.proofs.Common.{refl}
use Rattle.wk_wiki_rules.specs.StateComputing.{computing}
use Rattle.wk_examples.proofs.states.a_race.Goals as goal

pub returns-clause-page_saved : goal.returns-clause-page_saved
unfolding computing
returns-clause-page_saved c = refl

pub returns-clause-template_saved : goal.returns-clause-template_saved
unfolding computing
returns-clause-template_saved c = refl

pub returns-clause-other_template_saved : goal.returns-clause-other_template_saved
unfolding computing
returns-clause-other_template_saved c = refl

pub returns-clause-page_claimed : goal.returns-clause-page_claimed
unfolding computing
returns-clause-page_claimed c = refl

pub returns-clause-template_saved_again : goal.returns-clause-template_saved_again
unfolding computing
returns-clause-template_saved_again c = refl

pub returns-clause-page_given_back : goal.returns-clause-page_given_back
unfolding computing
returns-clause-page_given_back c = refl

pub returns-clause-template_claimed : goal.returns-clause-template_claimed
unfolding computing
returns-clause-template_claimed c = refl

pub returns-clause-template_done : goal.returns-clause-template_done
unfolding computing
returns-clause-template_done c = refl

pub returns-clause-other_template_claimed : goal.returns-clause-other_template_claimed
unfolding computing
returns-clause-other_template_claimed c = refl

pub returns-clause-other_template_done : goal.returns-clause-other_template_done
unfolding computing
returns-clause-other_template_done c = refl

pub returns-clause-page_claimed_again : goal.returns-clause-page_claimed_again
unfolding computing
returns-clause-page_claimed_again c = refl

pub returns-clause-page_done : goal.returns-clause-page_done
unfolding computing
returns-clause-page_done c = refl

pub returns-clause-no_fan_job : goal.returns-clause-no_fan_job
unfolding computing
returns-clause-no_fan_job c = refl

pub returns-clause-no_refresh_job : goal.returns-clause-no_refresh_job
unfolding computing
returns-clause-no_refresh_job c = refl

pub returns-clause-whole_journal : goal.returns-clause-whole_journal
unfolding computing
returns-clause-whole_journal c = refl

pub returns-clause-first_five : goal.returns-clause-first_five
unfolding computing
returns-clause-first_five c = refl

pub returns-clause-reads_at_first : goal.returns-clause-reads_at_first
unfolding computing
returns-clause-reads_at_first c = refl

pub returns-clause-reads_at_last : goal.returns-clause-reads_at_last
unfolding computing
returns-clause-reads_at_last c = refl

pub returns-clause-spent_ticket : goal.returns-clause-spent_ticket
unfolding computing
returns-clause-spent_ticket c = refl

use Rattle.std.proofs.Common.{refl}
use Rattle.wk_wiki_rules.specs.StateComputing.{computing}
use Rattle.wk_examples.proofs.states.a_new_version.Goals as goal

pub returns-clause-good : goal.returns-clause-good
unfolding computing
returns-clause-good c = refl

pub returns-clause-opened : goal.returns-clause-opened
unfolding computing
returns-clause-opened c = refl

pub returns-clause-jobs_left : goal.returns-clause-jobs_left
unfolding computing
returns-clause-jobs_left c = refl

pub returns-clause-tables : goal.returns-clause-tables
unfolding computing
returns-clause-tables c = refl

pub returns-clause-rows_from_scratch : goal.returns-clause-rows_from_scratch
unfolding computing
returns-clause-rows_from_scratch c = refl

pub returns-clause-rows_that_are_stored : goal.returns-clause-rows_that_are_stored
unfolding computing
returns-clause-rows_that_are_stored c = refl

pub returns-clause-covered : goal.returns-clause-covered
unfolding computing
returns-clause-covered c = refl

pub returns-clause-not_covered_before : goal.returns-clause-not_covered_before
unfolding computing
returns-clause-not_covered_before c = refl

pub returns-clause-page_claimed : goal.returns-clause-page_claimed
unfolding computing
returns-clause-page_claimed c = refl

pub returns-clause-page_done : goal.returns-clause-page_done
unfolding computing
returns-clause-page_done c = refl

pub returns-clause-redirect_row : goal.returns-clause-redirect_row
unfolding computing
returns-clause-redirect_row c = refl

pub returns-clause-version_2_adds_no_job : goal.returns-clause-version_2_adds_no_job
unfolding computing
returns-clause-version_2_adds_no_job c = refl

pub returns-clause-no_state : goal.returns-clause-no_state
unfolding computing
returns-clause-no_state c = refl

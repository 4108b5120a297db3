use Rattle.std.proofs.Common.{refl}
use Rattle.wk_table_rules.specs.Computing.{computing}
use Rattle.wk_examples.proofs.tables.fitting_changes.Goals as goal

pub returns-clause-saved : goal.returns-clause-saved
unfolding computing
returns-clause-saved c = refl

pub returns-clause-revision_not_above : goal.returns-clause-revision_not_above
unfolding computing
returns-clause-revision_not_above c = refl

pub returns-clause-job_not_above : goal.returns-clause-job_not_above
unfolding computing
returns-clause-job_not_above c = refl

pub returns-clause-page_not_above : goal.returns-clause-page_not_above
unfolding computing
returns-clause-page_not_above c = refl

pub returns-clause-page_replaced : goal.returns-clause-page_replaced
unfolding computing
returns-clause-page_replaced c = refl

pub returns-clause-rows_of_no_page : goal.returns-clause-rows_of_no_page
unfolding computing
returns-clause-rows_of_no_page c = refl

pub returns-clause-rows_of_a_page_that_the_change_adds : goal.returns-clause-rows_of_a_page_that_the_change_adds
unfolding computing
returns-clause-rows_of_a_page_that_the_change_adds c = refl

pub returns-clause-job_that_the_change_drops : goal.returns-clause-job_that_the_change_drops
unfolding computing
returns-clause-job_that_the_change_drops c = refl

pub returns-clause-job_that_is_there : goal.returns-clause-job_that_is_there
unfolding computing
returns-clause-job_that_is_there c = refl

use Rattle.std.proofs.Common.{refl}
use Rattle.wk_table_rules.specs.Computing.{computing}
use Rattle.wk_examples.proofs.tables.changes.Goals as goal

pub returns-clause-saved : goal.returns-clause-saved
unfolding computing
returns-clause-saved c = refl

pub returns-clause-page_replaced : goal.returns-clause-page_replaced
unfolding computing
returns-clause-page_replaced c = refl

pub returns-clause-job_replaced_and_dropped : goal.returns-clause-job_replaced_and_dropped
unfolding computing
returns-clause-job_replaced_and_dropped c = refl

pub returns-clause-version_set : goal.returns-clause-version_set
unfolding computing
returns-clause-version_set c = refl

pub returns-clause-rows_replaced : goal.returns-clause-rows_replaced
unfolding computing
returns-clause-rows_replaced c = refl

pub returns-clause-rows_of_a_later_page : goal.returns-clause-rows_of_a_later_page
unfolding computing
returns-clause-rows_of_a_later_page c = refl

pub returns-clause-rows_of_a_list_out_of_order : goal.returns-clause-rows_of_a_list_out_of_order
unfolding computing
returns-clause-rows_of_a_list_out_of_order c = refl

pub returns-clause-namespace_of_the_page : goal.returns-clause-namespace_of_the_page
unfolding computing
returns-clause-namespace_of_the_page c = refl

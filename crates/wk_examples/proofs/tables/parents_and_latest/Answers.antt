use Rattle.std.proofs.Common.{refl}
use Rattle.wk_table_rules.specs.Computing.{computing}
use Rattle.wk_examples.proofs.tables.parents_and_latest.Goals as goal

pub returns-clause-wrong_parent : goal.returns-clause-wrong_parent
unfolding computing
returns-clause-wrong_parent c = refl

pub returns-clause-parent_of_a_new_page : goal.returns-clause-parent_of_a_new_page
unfolding computing
returns-clause-parent_of_a_new_page c = refl

pub returns-clause-parent_after_a_deletion : goal.returns-clause-parent_after_a_deletion
unfolding computing
returns-clause-parent_after_a_deletion c = refl

pub returns-clause-saved_after_a_deletion : goal.returns-clause-saved_after_a_deletion
unfolding computing
returns-clause-saved_after_a_deletion c = refl

pub returns-clause-latest_is_a_deletion : goal.returns-clause-latest_is_a_deletion
unfolding computing
returns-clause-latest_is_a_deletion c = refl

pub returns-clause-latest_is_an_older_one : goal.returns-clause-latest_is_an_older_one
unfolding computing
returns-clause-latest_is_an_older_one c = refl

pub returns-clause-wrong_length : goal.returns-clause-wrong_length
unfolding computing
returns-clause-wrong_length c = refl

pub returns-clause-no_revision : goal.returns-clause-no_revision
unfolding computing
returns-clause-no_revision c = refl

pub returns-clause-least_of_both : goal.returns-clause-least_of_both
unfolding computing
returns-clause-least_of_both c = refl

use Rattle.std.proofs.Common.{refl}
use Rattle.wk_page_rules.specs.Computing.{computing}
use Rattle.wk_examples.proofs.pages.verdicts.Goals as goal

pub returns-clause-conflict : goal.returns-clause-conflict
unfolding computing
returns-clause-conflict c = refl

pub returns-clause-same_text : goal.returns-clause-same_text
unfolding computing
returns-clause-same_text c = refl

pub returns-clause-base_of_a_missing_page : goal.returns-clause-base_of_a_missing_page
unfolding computing
returns-clause-base_of_a_missing_page c = refl

pub returns-clause-old_base_of_a_missing_page : goal.returns-clause-old_base_of_a_missing_page
unfolding computing
returns-clause-old_base_of_a_missing_page c = refl

pub returns-clause-deletion : goal.returns-clause-deletion
unfolding computing
returns-clause-deletion c = refl

pub returns-clause-deletion_of_a_missing_page : goal.returns-clause-deletion_of_a_missing_page
unfolding computing
returns-clause-deletion_of_a_missing_page c = refl

pub returns-clause-create_only : goal.returns-clause-create_only
unfolding computing
returns-clause-create_only c = refl

pub returns-clause-no_create : goal.returns-clause-no_create
unfolding computing
returns-clause-no_create c = refl

pub returns-clause-too_many_pages : goal.returns-clause-too_many_pages
unfolding computing
returns-clause-too_many_pages c = refl

pub returns-clause-known_page : goal.returns-clause-known_page
unfolding computing
returns-clause-known_page c = refl

pub returns-clause-too_many_revisions : goal.returns-clause-too_many_revisions
unfolding computing
returns-clause-too_many_revisions c = refl

pub returns-clause-too_much_text : goal.returns-clause-too_much_text
unfolding computing
returns-clause-too_much_text c = refl

pub returns-clause-room_for_one : goal.returns-clause-room_for_one
unfolding computing
returns-clause-room_for_one c = refl

pub returns-clause-journal_full : goal.returns-clause-journal_full
unfolding computing
returns-clause-journal_full c = refl

pub returns-clause-job_numbers_used_up : goal.returns-clause-job_numbers_used_up
unfolding computing
returns-clause-job_numbers_used_up c = refl

pub returns-clause-virtual_namespace : goal.returns-clause-virtual_namespace
unfolding computing
returns-clause-virtual_namespace c = refl

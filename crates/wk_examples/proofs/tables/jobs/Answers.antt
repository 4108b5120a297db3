use Rattle.std.proofs.Common.{refl}
use Rattle.wk_table_rules.specs.Computing.{computing}
use Rattle.wk_examples.proofs.tables.jobs.Goals as goal

pub returns-clause-zero : goal.returns-clause-zero
unfolding computing
returns-clause-zero c = refl

pub returns-clause-not_rising : goal.returns-clause-not_rising
unfolding computing
returns-clause-not_rising c = refl

pub returns-clause-too_great : goal.returns-clause-too_great
unfolding computing
returns-clause-too_great c = refl

pub returns-clause-too_great_for_version_1 : goal.returns-clause-too_great_for_version_1
unfolding computing
returns-clause-too_great_for_version_1 c = refl

pub returns-clause-greatest_for_version_1 : goal.returns-clause-greatest_for_version_1
unfolding computing
returns-clause-greatest_for_version_1 c = refl

pub returns-clause-unknown_cmd : goal.returns-clause-unknown_cmd
unfolding computing
returns-clause-unknown_cmd c = refl

pub returns-clause-refresh_of_no_page : goal.returns-clause-refresh_of_no_page
unfolding computing
returns-clause-refresh_of_no_page c = refl

pub returns-clause-refresh_twice : goal.returns-clause-refresh_twice
unfolding computing
returns-clause-refresh_twice c = refl

pub returns-clause-refresh_with_params : goal.returns-clause-refresh_with_params
unfolding computing
returns-clause-refresh_with_params c = refl

pub returns-clause-fan_not_normal : goal.returns-clause-fan_not_normal
unfolding computing
returns-clause-fan_not_normal c = refl

pub returns-clause-fan_twice : goal.returns-clause-fan_twice
unfolding computing
returns-clause-fan_twice c = refl

pub returns-clause-fan_of_a_page_with_a_refresh : goal.returns-clause-fan_of_a_page_with_a_refresh
unfolding computing
returns-clause-fan_of_a_page_with_a_refresh c = refl

pub returns-clause-negative_title : goal.returns-clause-negative_title
unfolding computing
returns-clause-negative_title c = refl

pub returns-clause-params_without_colon : goal.returns-clause-params_without_colon
unfolding computing
returns-clause-params_without_colon c = refl

pub returns-clause-params_of_no_reach : goal.returns-clause-params_of_no_reach
unfolding computing
returns-clause-params_of_no_reach c = refl

pub returns-clause-params_with_leading_zero : goal.returns-clause-params_with_leading_zero
unfolding computing
returns-clause-params_with_leading_zero c = refl

pub returns-clause-cursor_too_great : goal.returns-clause-cursor_too_great
unfolding computing
returns-clause-cursor_too_great c = refl

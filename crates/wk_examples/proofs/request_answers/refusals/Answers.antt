use Rattle.std.proofs.Common.{refl}
use Rattle.wk_script_rules.specs.Computing.{computing as scripts}
use Rattle.wk_examples.proofs.request_answers.refusals.Goals as goal

pub returns-clause-no_token : goal.returns-clause-no_token
unfolding scripts
returns-clause-no_token c = refl

pub returns-clause-no_title : goal.returns-clause-no_title
unfolding scripts
returns-clause-no_title c = refl

pub returns-clause-no_text : goal.returns-clause-no_text
unfolding scripts
returns-clause-no_text c = refl

pub returns-clause-bad_title : goal.returns-clause-bad_title
unfolding scripts
returns-clause-bad_title c = refl

pub returns-clause-missing : goal.returns-clause-missing
unfolding scripts
returns-clause-missing c = refl

pub returns-clause-unknown : goal.returns-clause-unknown
unfolding scripts
returns-clause-unknown c = refl

pub returns-clause-missing_page : goal.returns-clause-missing_page
unfolding scripts
returns-clause-missing_page c = refl

pub returns-clause-no_category : goal.returns-clause-no_category
unfolding scripts
returns-clause-no_category c = refl

pub returns-clause-no_line : goal.returns-clause-no_line
unfolding scripts
returns-clause-no_line c = refl

pub returns-clause-no_ticket : goal.returns-clause-no_ticket
unfolding scripts
returns-clause-no_ticket c = refl

pub returns-clause-virtual_page : goal.returns-clause-virtual_page
unfolding scripts
returns-clause-virtual_page c = refl

pub returns-clause-virtual_category : goal.returns-clause-virtual_category
unfolding scripts
returns-clause-virtual_category c = refl

pub returns-clause-base_of_a_missing_page : goal.returns-clause-base_of_a_missing_page
unfolding scripts
returns-clause-base_of_a_missing_page c = refl

pub returns-clause-exists : goal.returns-clause-exists
unfolding scripts
returns-clause-exists c = refl

pub returns-clause-in_order : goal.returns-clause-in_order
unfolding scripts
returns-clause-in_order c = refl

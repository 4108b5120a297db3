use Rattle.std.proofs.Common.{refl}
use Rattle.wk_script_rules.specs.Computing.{computing as scripts}
use Rattle.wk_examples.proofs.request_answers.texts.Goals as goal

pub returns-clause-alone : goal.returns-clause-alone
unfolding scripts
returns-clause-alone c = refl

pub returns-clause-in_a_page : goal.returns-clause-in_a_page
unfolding scripts
returns-clause-in_a_page c = refl

pub returns-clause-no_title : goal.returns-clause-no_title
unfolding scripts
returns-clause-no_title c = refl

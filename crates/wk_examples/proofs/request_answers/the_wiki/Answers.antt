use Rattle.std.proofs.Common.{refl}
use Rattle.wk_script_rules.specs.Computing.{computing as scripts}
use Rattle.wk_examples.proofs.request_answers.the_wiki.Goals as goal

pub returns-clause-token : goal.returns-clause-token
unfolding scripts
returns-clause-token c = refl

pub returns-clause-site : goal.returns-clause-site
unfolding scripts
returns-clause-site c = refl

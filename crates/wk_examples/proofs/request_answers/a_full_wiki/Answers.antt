use Rattle.std.proofs.Common.{refl}
use Rattle.wk_script_rules.specs.Computing.{computing as scripts}
use Rattle.wk_examples.proofs.request_answers.a_full_wiki.Goals as goal

pub returns-clause-revisions : goal.returns-clause-revisions
unfolding scripts
returns-clause-revisions c = refl

pub returns-clause-texts : goal.returns-clause-texts
unfolding scripts
returns-clause-texts c = refl

pub returns-clause-pages : goal.returns-clause-pages
unfolding scripts
returns-clause-pages c = refl

use Rattle.std.proofs.Common.{refl}
use Rattle.wk_script_rules.specs.Computing.{computing as scripts}
use Rattle.wk_examples.proofs.request_answers.revisions.Goals as goal

pub returns-clause-all : goal.returns-clause-all
unfolding scripts
returns-clause-all c = refl

pub returns-clause-with_texts : goal.returns-clause-with_texts
unfolding scripts
returns-clause-with_texts c = refl

pub returns-clause-never_saved : goal.returns-clause-never_saved
unfolding scripts
returns-clause-never_saved c = refl

use Rattle.std.proofs.Common.{refl}
use Rattle.wk_script_rules.specs.Computing.{computing as scripts}
use Rattle.wk_examples.proofs.request_answers.changes.Goals as goal

pub returns-clause-all : goal.returns-clause-all
unfolding scripts
returns-clause-all c = refl

pub returns-clause-in_parts : goal.returns-clause-in_parts
unfolding scripts
returns-clause-in_parts c = refl

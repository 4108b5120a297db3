use Rattle.std.proofs.Common.{refl}
use Rattle.wk_script_rules.specs.Computing.{computing as scripts}
use Rattle.wk_examples.proofs.script_runs.edits.Goals as goal

pub returns-clause-first : goal.returns-clause-first
unfolding scripts
returns-clause-first c = refl

pub returns-clause-conflict : goal.returns-clause-conflict
unfolding scripts
returns-clause-conflict c = refl

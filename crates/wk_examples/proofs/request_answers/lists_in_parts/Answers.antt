use Rattle.std.proofs.Common.{refl}
use Rattle.wk_script_rules.specs.Computing.{computing as scripts}
use Rattle.wk_examples.proofs.request_answers.lists_in_parts.Goals as goal

pub returns : goal.returns
unfolding scripts
returns c = refl

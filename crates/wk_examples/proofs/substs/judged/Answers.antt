use Rattle.std.proofs.Common.{refl}
use Rattle.wk_script_rules.specs.Computing.{computing as scripts}
use Rattle.wk_examples.proofs.substs.judged.Goals as goal

pub returns : goal.returns
unfolding scripts
returns c = refl
